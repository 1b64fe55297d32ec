use Rattle.audit_wire_ask.proofs.LongLines.{long_line_has_no_event}
use Rattle.audit_wire_ask.proofs.laws.longer_lines_have_no_event.Goals as goal

pub returns : goal.returns
returns c = long_line_has_no_event
