use Rattle.std.proofs.Common.{subst}
use Rattle.audit_disk.specs.SectorSource.{source_of}
use Rattle.audit_store.specs.ReadOnlyOpening.{at_rest}
use Rattle.audit_cli_base.specs.OpenedStore.{IsStoreOn}
use Rattle.audit_cli_store.proofs.AnsweredFiles.{proves_on}
use Rattle.audit_cli_store.proofs.answering.proof_on.Goals as goal

pub returns-in-Ok-clause-made : goal.returns-in-Ok-clause-made
returns-in-Ok-clause-made g c =
    let on = subst (λ (disk : g.row.D.Denot). IsStoreOn (at_rest (source_of (g.D.Sectors.view disk))) c.in-Ok.content) c.new-source.ensures c.in-Ok.ensures.on in
    proves_on (at_rest (source_of (g.D.Sectors.view c.args.opened.content))) c.args.asked c.in-Ok.content (λ made. made.0.items) c.proof_of_opened.result on c.proof_of_opened.ensures.made
