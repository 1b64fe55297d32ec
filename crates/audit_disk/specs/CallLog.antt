-- A growing record of calls.
use Rattle.std.specs.Prelude.{◌≡◌, ℕ, ◌+◌, ◌-◌, ◌<◌, ◌≤◌, [], ◌∷◌, ◌++◌, vec_len, vec_capacity}
use Rattle.audit_disk_model.specs.View.{last_count}
use Rattle.audit_disk_model.specs.Calls.{Ticks, HasRisen}
use Rattle.audit_disk.specs.declared.call.Effect.{Effect}
use Rattle.audit_disk.specs.declared.call_log.CallLog.{CallLog}

-- one more call was recorded, at the next moment
pub record Notes (old new : CallLog) (effect : Effect) : Type 0 where
  pub calls : new.calls.items ≡ old.calls.items ++ record { moment = new.clock; effect = effect } ∷ []
  pub free : old.clock < last_count
  pub clock : new.clock ≡ old.clock + 1
  pub failures : new.failures ≡ old.failures

-- a call failed and had no effect
pub record RefusesCall (old new : CallLog) : Type 0 where
  pub calls : new.calls.items ≡ old.calls.items
  pub clock : Ticks old.clock new.clock
  pub failures : HasRisen old.failures new.failures
  pub more : old.failures ≤ new.failures

-- how many more calls can be recorded without allocating
abbrev pub spare : CallLog → ℕ
spare log = vec_capacity log.calls - vec_len log.calls
