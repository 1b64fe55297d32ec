use Rattle.std.proofs.Common.{ap}
use Rattle.audit_cli_client.proofs.Connected.{sends_alike, sends_to}
use Rattle.audit_cli_client.proofs.sending.send_to_socket.Goals as goal

pub returns-in-Refused-clause-sent : goal.returns-in-Refused-clause-sent
returns-in-Refused-clause-sent g c =
    sends_alike g.F.Dialing.dials c.new-legs.result.rt.now c.args.rt.now c.new-legs.result.socket.now c.args.socket.now c.new-legs.result.task.seconds c.args.task.seconds _ (ap (λ rt. rt.now) c.new-legs.ensures.rt) (ap (λ socket. socket.now) c.new-legs.ensures.socket) (ap (λ task. task.seconds) c.new-legs.ensures.task)
    (sends_to (g.F.Dialing.dials c.new-legs.result.rt.now) c.new-legs.result.socket.now c.new-legs.result.task.seconds _ _ _ c.send_on.ensures.kept.0 c.send_on.ensures.kept.1 (λ count next total did. did) _ c.send_on.ensures.ends c.send_on.ensures.fault)

pub returns-clause-sent : goal.returns-clause-sent
returns-clause-sent g c =
    sends_alike g.F.Dialing.dials c.new-legs-in-Cut.result.rt.now c.args.rt.now c.new-legs-in-Cut.result.socket.now c.args.socket.now c.new-legs-in-Cut.result.task.seconds c.args.task.seconds _ (ap (λ rt. rt.now) c.new-legs-in-Cut.ensures.rt) (ap (λ socket. socket.now) c.new-legs-in-Cut.ensures.socket) (ap (λ task. task.seconds) c.new-legs-in-Cut.ensures.task)
    (sends_to (g.F.Dialing.dials c.new-legs-in-Cut.result.rt.now) c.new-legs-in-Cut.result.socket.now c.new-legs-in-Cut.result.task.seconds _ _ _ c.send_on-in-Cut.ensures.kept.0 c.send_on-in-Cut.ensures.kept.1 (λ count next total did. did) _ c.send_on-in-Cut.ensures.ends c.send_on-in-Cut.ensures.fault)
