use Rattle.audit_text.proofs.TextEvents.{lines_are_events}
use Rattle.audit_text.proofs.laws.events_of_a_text_are_its_lines.Goals as goal

pub returns : goal.returns
returns c = lines_are_events
