use Rattle.audit_wire_ask.proofs.ReadWhole.{no_part, newest_was_given}
use Rattle.audit_wire_ask.proofs.laws.what_was_read_whole_is_judged.Goals as goal

pub returns : goal.returns
returns c = record { part = no_part; newest = newest_was_given }
