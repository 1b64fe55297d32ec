use Rattle.audit_cli_store.proofs.AnsweredFiles.{formatted_line}
use Rattle.audit_cli_store.proofs.making.format_or_remove.Goals as goal

pub returns-in-Ok-clause-formatted : goal.returns-in-Ok-clause-formatted
returns-in-Ok-clause-formatted g c =
    formatted_line (g.D.Sectors.view c.args.disk) c.args.first_key c.in-Ok.formatted.store (g.W.Write.contents c.args.output.now) (g.W.Write.contents c.format_device.new.writer) c.in-Ok.formatted.line (λ bad. let other = c.in-Ok.ensures.size bad in cc other) c.in-Ok.ensures.formatted c.in-Ok.ensures.written
