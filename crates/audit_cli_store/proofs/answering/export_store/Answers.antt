use Rattle.std.proofs.Common.{rules}
use Rattle.audit_cli_store.proofs.AnsweredFiles.{exported, counted}
use Rattle.audit_cli_store.proofs.answering.export_store.Goals as goal

pub returns-clause-exported : goal.returns-clause-exported
returns-clause-exported g c =
    exported c.args.store.now c.args.out.now c.args.first c.commitment-count.result.count c.in_ok-size.size (g.W.Write.contents c.args.output.now) (g.W.Write.contents c.put.new.output) (g.W.Write.contents c.write_exported.new.writer) c.write_exported.result (search rules) c.in_ok-size.ensures.put
    (counted c.args.store.now c.commitment-count.result c.commitment-count.ensures.log) (rw (← c.saturating_sub.ensures) c.write_exported.ensures.written)
