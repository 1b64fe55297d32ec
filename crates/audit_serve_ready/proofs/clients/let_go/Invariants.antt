use Rattle.std.proofs.Common.{◌≡◌, ℕ, true, false}
use Rattle.audit_serve_ready.specs.Backlog.{AreWithinBacklog}
use Rattle.audit_serve_ready.proofs.Goings.{Leaving, HasGone}
use Rattle.audit_serve_ready.proofs.clients.let_go.Given as goal

abbrev pub invariant-loop-place : goal.invariant-loop-place
invariant-loop-place g l =
    let M = g.C.SessionCore.model in
    Leaving M g.D.Stream.ReadyStream.calls g.D.Door.calls l.fn.core l.place l.fn.door l.door l.fn.slots l.slots
    × (l.moved ≡ false → l.slots ≡ l.fn.slots)
    × (l.moved ≡ true → HasGone l.place l.fn.slots l.slots)
    × ((backlog : ℕ) → AreWithinBacklog M backlog l.fn.core l.fn.slots → AreWithinBacklog M backlog l.fn.core l.slots)
