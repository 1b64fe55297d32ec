use Rattle.audit_text.proofs.ReadingBack.{all_read_back}
use Rattle.audit_text.proofs.laws.printed_payloads_are_read_back.Goals as goal

pub returns : goal.returns
returns c = all_read_back
