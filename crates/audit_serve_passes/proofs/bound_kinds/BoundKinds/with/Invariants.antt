use Rattle.std.proofs.Common.{◌≡◌, true, take, length}
use Rattle.std.specs.Option.{is_some}
use Rattle.std.specs.List.{list_all}
use Rattle.audit_serve_passes.proofs.bound_kinds.BoundKinds.with.Given as goal

-- no place was changed, and those so far hold kinds
abbrev pub invariant-loop-free : goal.invariant-loop-free
invariant-loop-free l = (l.kinds ≡ l.fn.self.kinds) × (length l.fn.self.kinds ≡ 15) × (list_all is_some (take l.free l.fn.self.kinds) ≡ true)
