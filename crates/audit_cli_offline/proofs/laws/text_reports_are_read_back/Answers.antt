use Rattle.audit_cli_offline.proofs.TextReports.{text_read}
use Rattle.audit_cli_offline.proofs.laws.text_reports_are_read_back.Goals as goal

pub returns : goal.returns
returns c = text_read
