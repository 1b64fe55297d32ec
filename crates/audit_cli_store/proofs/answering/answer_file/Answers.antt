use Rattle.audit_cli_store.proofs.AnsweredFiles.{answered_at, answered_store}
use Rattle.audit_cli_store.proofs.answering.answer_file.Goals as goal

pub returns-in_ok-opened-in-Repair-clause-answered : goal.returns-in_ok-opened-in-Repair-clause-answered
returns-in_ok-opened-in-Repair-clause-answered g c =
    rw c.in-Repair.is (answered_store g.F.File.SystemFile.facts g.F.File.PositionedFile.positioned _ c.args.file.now c.args.question c.in_ok-opened-in-Repair.opened.content (g.W.Write.contents c.args.output.now) (g.W.Write.contents c.answer_opened.new.output) c.answer_opened.result c.in_ok-opened-in-Repair.ensures.at c.answer_opened.ensures.answered)

pub returns-in_ok-opened-in-ReadOnly-clause-answered : goal.returns-in_ok-opened-in-ReadOnly-clause-answered
returns-in_ok-opened-in-ReadOnly-clause-answered g c =
    rw c.in-ReadOnly.is (answered_at g.F.File.SystemFile.facts g.F.File.PositionedFile.positioned _ _ c.args.file.now c.args.question c.in_ok-opened-in-ReadOnly.opened.content (g.W.Write.contents c.args.output.now) (g.W.Write.contents c.answer_device.new.output) c.answer_device.result c.in_ok-opened-in-ReadOnly.ensures.at c.answer_device.ensures.answered)

pub returns-in_ok-opened-in-Salvage-clause-answered : goal.returns-in_ok-opened-in-Salvage-clause-answered
returns-in_ok-opened-in-Salvage-clause-answered g c =
    rw c.in-Salvage.is (answered_at g.F.File.SystemFile.facts g.F.File.PositionedFile.positioned _ _ c.args.file.now c.args.question c.in_ok-opened-in-Salvage.opened.content (g.W.Write.contents c.args.output.now) (g.W.Write.contents c.answer_device-in-Salvage.new.output) c.answer_device-in-Salvage.result c.in_ok-opened-in-Salvage.ensures.at c.answer_device-in-Salvage.ensures.answered)
