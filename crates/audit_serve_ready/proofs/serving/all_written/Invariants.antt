use Rattle.std.proofs.Common.{◌≡◌, ℕ, ◌<◌, false}
use Rattle.audit_serve_ready.specs.Slot.{has_kept}
use Rattle.audit_serve_ready.specs.Places.{slot_at}
use Rattle.audit_serve_ready.proofs.serving.all_written.Given as goal

abbrev pub invariant-loop-slot : goal.invariant-loop-slot
invariant-loop-slot g l = (k : ℕ) → k < l.slot-index → has_kept (slot_at k l.slots) ≡ false
