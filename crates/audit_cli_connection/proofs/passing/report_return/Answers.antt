use Rattle.audit_cli_connection.proofs.ReturnLines.{said_return, said_if}
use Rattle.audit_cli_connection.proofs.passing.report_return.Goals as goal

pub returns-then-was_absent : goal.returns-then-was_absent
returns-then-was_absent g c =
    said_if c.args.reported c.args.date (g.M.Write.contents c.args.messages.now) (g.M.Write.contents c.print_return.new.messages) (g.M.FallibleWrite.failed c.print_return.new.messages) c.was_absent.result c.was_absent.ensures c.if-was_absent.true
    (said_return (λ line. line.items) c.args.date (g.M.Write.contents c.args.messages.now) (g.M.Write.contents c.print_return.new.messages) (g.M.FallibleWrite.failed c.print_return.new.messages)
    c.moment_line.result c.moment_line.ensures c.print_return.ensures.made c.print_return.ensures.unmade)
