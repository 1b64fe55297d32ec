-- Laws of the sessions of a core.
use Rattle.std.specs.Prelude.{◌≡◌, ℕ, ◌+◌, List, [], ◌∷◌, map}
use Rattle.std.specs.List.{AllByRecursion}
use Rattle.std.proofs.Common.{◌∙◌, refl, arith}
use Rattle.audit_server_commit.specs.Arrivals.{Arrival}
use Rattle.audit_serve_passes.specs.Steps.{StepData, IsAbout}
use Rattle.audit_server_commit.specs.Sessions.{SessionData, session_at, sessions_run}
use Rattle.audit_server_commit.specs.Sessions.{sessions_after}
use Rattle.audit_server_commit.proofs.ServedSteps.{stays}
use Rattle.audit_server.specs.RequestKinds.{kind_of, longest_replies}

pub nothing_more : (bytes : ℕ) → bytes + (0 + 0) ≡ bytes
nothing_more bytes = omega arith

pub none_to_answer : (arrivals : List Arrival) → map kind_of arrivals ≡ [] → longest_replies arrivals ≡ 0
none_to_answer [] none = refl
none_to_answer (arrival ∷ arrivals) none = absurd (cc none)

-- steps about others leave a session as it is
pub stays_through : (k : ℕ) (steps : List StepData) (sessions : List SessionData)
    → AllByRecursion (λ step. IsAbout k step → ⊥) steps
    → session_at k (sessions_run steps sessions) ≡ session_at k sessions
stays_through k [] sessions others = refl
stays_through k (step ∷ steps) sessions others =
    stays_through k steps (sessions_after step sessions) others.1 ∙ stays sessions step k others.0
