use Rattle.std.proofs.Common.{◌≡◌, ℕ, List, true}
use Rattle.audit_serve_passes.specs.Streams.{StreamCall}
use Rattle.audit_serve_passes.specs.Transition.{AreEmpty}
use Rattle.audit_serve_ready.specs.Places.{slot_at, WritesPlaces}
use Rattle.audit_serve_ready.specs.Slot.{is_mute, unread_of}
use Rattle.audit_serve_ready.specs.Backlog.{AreWithinBacklog}
use Rattle.audit_serve_ready.proofs.turns.write_turns.Given as goal

abbrev pub invariant-loop-session : goal.invariant-loop-session
invariant-loop-session g l =
    ((taken : ℕ → List ℕ) × (calls : ℕ → List StreamCall) × WritesPlaces g.S.ReadyStream.calls (g.C.SessionCore.model.DidSteps l.fn.core l.core) l.moved l.session taken calls l.fn.slots l.slots)
    × AreEmpty g.C.SessionCore.model l.session l.core
    × (g.C.SessionCore.model.Idle l.fn.core → g.C.SessionCore.model.Idle l.core)
    × ((backlog : ℕ) → g.C.SessionCore.model.Idle l.fn.core → AreWithinBacklog g.C.SessionCore.model backlog l.fn.core l.fn.slots → AreWithinBacklog g.C.SessionCore.model backlog l.core l.slots)
    × ((k : ℕ) → unread_of (slot_at k l.slots) ≡ unread_of (slot_at k l.fn.slots))
    × ((k : ℕ) → is_mute (slot_at k l.fn.slots) ≡ true → is_mute (slot_at k l.slots) ≡ true)
