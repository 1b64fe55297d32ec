-- The end of a session, for the others.
use Rattle.std.specs.Prelude.{◌≡◌, ℕ, ◌+◌, ◌<◌, ◌≤◌}
use Rattle.audit_base.specs.declared.limits.TheConstants.{SESSIONS}
use Rattle.audit_serve_passes.specs.Core.{CoreModel}

-- At most one more request waits, that which the end cut off. Unless as many waited as there may be sessions, nothing
-- was answered: no output has changed.
pub record EndsQuietly {C : Type 0} (M : CoreModel C) (old new : C) : Type 0 where
  pub waiting : M.waiting new ≤ M.waiting old + 1
  pub outputs : M.waiting old < SESSIONS → (k : ℕ) → M.output new k ≡ M.output old k
