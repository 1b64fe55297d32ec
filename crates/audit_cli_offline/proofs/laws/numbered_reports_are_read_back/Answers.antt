use Rattle.audit_cli_offline.proofs.TextReports.{numbered_report_read, json_report_read}
use Rattle.audit_cli_offline.proofs.laws.numbered_reports_are_read_back.Goals as goal

pub returns-clause-text : goal.returns-clause-text
returns-clause-text c = numbered_report_read c.printed_events_are_read_back.ensures.text

pub returns-clause-json : goal.returns-clause-json
returns-clause-json c = json_report_read c.printed_events_are_read_back.ensures.json
