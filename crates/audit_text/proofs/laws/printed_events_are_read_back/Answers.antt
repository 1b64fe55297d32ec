use Rattle.audit_text.proofs.NumberedLines.{numbered_read}
use Rattle.audit_text.proofs.JsonLines.{json_read}
use Rattle.audit_text.proofs.laws.printed_events_are_read_back.Goals as goal

pub returns : goal.returns
returns c = record { text = numbered_read; json = json_read }
