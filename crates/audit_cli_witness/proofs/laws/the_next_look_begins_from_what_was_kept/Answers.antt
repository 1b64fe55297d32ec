use Rattle.audit_cli_witness.proofs.StateLines.{newest_kept}
use Rattle.audit_cli_witness.proofs.laws.the_next_look_begins_from_what_was_kept.Goals as goal

pub returns : goal.returns
returns c = newest_kept
