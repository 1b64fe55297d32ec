use Rattle.std.proofs.Common.{subst}
use Rattle.audit_disk.specs.SectorSource.{source_of}
use Rattle.audit_store.specs.ReadOnlyOpening.{at_rest}
use Rattle.audit_cli_base.specs.OpenedStore.{IsStoreOn}
use Rattle.audit_cli_store.proofs.AnsweredFiles.{answered_on}
use Rattle.audit_cli_store.proofs.answering.answer_device.Goals as goal

pub returns-in-Ok-clause-answered : goal.returns-in-Ok-clause-answered
returns-in-Ok-clause-answered g c =
    let on = subst (λ (disk : g.row.D.Denot). IsStoreOn (at_rest (source_of (g.D.Sectors.view disk))) c.in-Ok.content) c.new-source.ensures c.in-Ok.ensures.on in
    answered_on (at_rest (source_of (g.D.Sectors.view c.args.opened.content))) c.args.question c.in-Ok.content (g.W.Write.contents c.args.output.now) (g.W.Write.contents c.answer_opened.new.output) c.answer_opened.result on c.answer_opened.ensures.answered
