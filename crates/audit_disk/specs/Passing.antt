-- Calls that are passed on to an inner device, or aren't.
use Rattle.std.specs.Prelude.{◌≡◌, Bool, IsTrue, IsFalse, IsErr}
use Rattle.audit_disk_model.specs.Calls.{Outcome}

-- the inner device's call, or a call that fails and doesn't reach it
pub record PassesOn {D : Type 0} (passes : Bool) (call : Type 0) (old new : D) (result : Outcome) : Type 0 where
  pub passed : IsTrue passes → call
  pub failed : IsFalse passes → IsErr result
  pub unseen : IsFalse passes → new ≡ old
