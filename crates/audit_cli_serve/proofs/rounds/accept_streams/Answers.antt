use Rattle.std.proofs.Common.{rules, arith}
use Rattle.audit_cli_serve.proofs.Served.{gone_at_a_fault}
use Rattle.audit_cli_serve.proofs.rounds.accept_streams.Goals as goal

pub returns-in_err-next_connection-clause-gone : goal.returns-in_err-next_connection-clause-gone
returns-in_err-next_connection-clause-gone g c =
    gone_at_a_fault g.L.Listener.model c.loop.counter c.args.count c.args.socket.now c.loop.socket c.next_connection.new.self c.loop.streams.items _ (omega arith) c.loop.invariant.accepted (search rules)
