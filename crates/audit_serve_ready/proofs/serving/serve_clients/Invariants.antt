use Rattle.std.proofs.Common.{◌≡◌, length}
use Rattle.audit_serve_ready.specs.Clients.{ServesClients}
use Rattle.audit_serve_ready.specs.Rounds.{first_after_rounds, AreRounds}
use Rattle.audit_serve_ready.specs.Backlog.{OwesNothing, AreWithinBacklog}
use Rattle.audit_serve_ready.proofs.serving.serve_clients.Given as goal

abbrev pub invariant-loop-round : goal.invariant-loop-round
invariant-loop-round g l =
    let M = g.C.SessionCore.model in
    let N = g.D.Stream.ReadyStream.calls in
    ServesClients M N l.fn.backlog 0 l.first l.fn.core l.core l.fn.slots l.slots
    × (OwesNothing M (length l.fn.slots) l.fn.core → AreWithinBacklog M l.fn.backlog l.fn.core l.fn.slots → OwesNothing M (length l.slots) l.core × AreWithinBacklog M l.fn.backlog l.core l.slots)
    × (l.first ≡ first_after_rounds l.round)
    × AreRounds M N g.D.Door.calls l.fn.backlog l.round l.fn.door l.door l.fn.core l.core l.fn.slots l.slots
