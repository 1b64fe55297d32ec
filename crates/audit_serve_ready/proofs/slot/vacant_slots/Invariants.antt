use Rattle.std.proofs.Common.{◌≡◌, replicate, vec_len, vec_capacity}
use Rattle.audit_serve_ready.specs.Slot.{vacant}
use Rattle.audit_serve_ready.proofs.slot.vacant_slots.Given as goal

abbrev pub invariant-loop : goal.invariant-loop
invariant-loop g l = record {
  new : l.slots.items ≡ replicate l.counter vacant;
  len : vec_len l.slots ≡ l.counter;
  capacity : vec_capacity l.slots ≡ l.fn.count;
}
