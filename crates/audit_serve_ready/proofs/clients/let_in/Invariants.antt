use Rattle.std.proofs.Common.{◌≡◌, ℕ, false, length}
use Rattle.audit_serve_passes.specs.Transition.{AreEmpty}
use Rattle.audit_serve_ready.specs.Backlog.{AreWithinBacklog}
use Rattle.audit_serve_ready.proofs.Comings.{Coming}
use Rattle.audit_serve_ready.proofs.clients.let_in.Given as goal

abbrev pub invariant-loop-place : goal.invariant-loop-place
invariant-loop-place g l =
    let M = g.C.SessionCore.model in
    Coming M g.D.Stream.ReadyStream.calls g.D.Door.calls l.moved l.place l.fn.door l.door l.fn.core l.core l.fn.slots l.slots
    × (l.moved ≡ false → l.slots ≡ l.fn.slots)
    × M.Idle l.core × AreEmpty M (length l.fn.slots) l.core
    × ((other : ℕ) → M.output l.core other ≡ M.output l.fn.core other)
    × ((backlog : ℕ) → AreWithinBacklog M backlog l.fn.core l.fn.slots → AreWithinBacklog M backlog l.core l.slots)
