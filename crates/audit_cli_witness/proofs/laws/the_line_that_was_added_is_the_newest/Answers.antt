use Rattle.audit_cli_witness.proofs.AddedLines.{added, word_read}
use Rattle.audit_cli_witness.proofs.laws.the_line_that_was_added_is_the_newest.Goals as goal

pub returns : goal.returns
returns c = record { added = added; read = word_read }
