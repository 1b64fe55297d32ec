use Rattle.audit_cli_store.proofs.AnsweredFiles.{told_by}
use Rattle.audit_cli_store.proofs.header_showing.header_now.Goals as goal

pub returns-in-Ok-clause-told : goal.returns-in-Ok-clause-told
returns-in-Ok-clause-told g c = told_by g.F.File.SystemFile.facts g.F.File.PositionedFile.positioned _ c.args.file.now c.in_ok-open_to_read.field-0 c.in-Ok.disk c.header_on.result c.in_ok-open_to_read.ensures.opened c.in-Ok.ensures.front c.header_on.ensures.told

pub returns-clause-told : goal.returns-clause-told
returns-clause-told g c = told_by g.F.File.SystemFile.facts g.F.File.PositionedFile.positioned _ c.args.file.now c.in_ok-open_to_read-2.field-0 c.in_ok-over_whole.field-0 c.header_on-2.result c.in_ok-open_to_read-2.ensures.opened c.in_ok-over_whole.ensures.front c.header_on-2.ensures.told
