use Rattle.std.proofs.Common.{◌≡◌, ◌⊎◌, ℕ, true}
use Rattle.audit_serve_ready.specs.Places.{slot_at}
use Rattle.audit_serve_ready.specs.Slot.{is_mute}
use Rattle.audit_serve_ready.specs.Rounds.{JudgesClients}
use Rattle.audit_serve_ready.specs.Backlog.{AreWithinBacklog}
use Rattle.audit_serve_ready.proofs.turns.dismiss.Given as goal

abbrev pub invariant-loop-place : goal.invariant-loop-place
invariant-loop-place g l =
    let M = g.C.SessionCore.model in
    JudgesClients g.D.Door.calls l.place l.fn.door l.door l.fn.slots l.slots
    × ((backlog : ℕ) → AreWithinBacklog M backlog l.fn.core l.fn.slots → AreWithinBacklog M backlog l.fn.core l.slots)
    × ((k : ℕ) → (slot_at k l.slots ≡ slot_at k l.fn.slots) ⊎ (is_mute (slot_at k l.slots) ≡ true))
