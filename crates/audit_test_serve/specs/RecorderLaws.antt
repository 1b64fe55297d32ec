-- Laws of the recorder's sessions.
use Rattle.std.specs.Prelude.{◌≡◌, ℕ, suc, ◌+◌, Bool, true, false, ◌||◌, List, [], ◌∷◌, ◌++◌, length}
use Rattle.std.specs.Prelude.{map, slice_index_or}
use Rattle.std.proofs.Common.{refl, sym, ap, ◌∙◌, arith}
use Rattle.std.proofs.lemmas.Bool.{ne_eqb, false≢true}
use Rattle.audit_serve_passes.specs.Steps.{StepData, a_piece, an_end, a_flush, IsAbout, is_end, has_end}
use Rattle.audit_serve_passes.specs.Core.{appending}
use Rattle.audit_test_serve.specs.Recorder.{count_fed}

pub none_fed : (fed : List Bool) → ((k : ℕ) → slice_index_or fed k false ≡ false) → count_fed fed ≡ 0
none_fed [] none = refl
none_fed (true ∷ fed) none = absurd (false≢true (sym (none 0)))
none_fed (false ∷ fed) none = none_fed fed (λ k. none (suc k))

pub or_none : (x : Bool) → x ≡ (x || false)
or_none true = refl
or_none false = refl

or_assoc : (x y z : Bool) → (x || (y || z)) ≡ ((x || y) || z)
or_assoc true y z = refl
or_assoc false y z = refl

ends_joined : (k : ℕ) (steps later : List StepData) → (has_end k steps || has_end k later) ≡ has_end k (steps ++ later)
ends_joined k [] later = refl
ends_joined k (step ∷ steps) later = sym (or_assoc (is_end k step) (has_end k steps) (has_end k later))
    ∙ ap (λ (more : Bool). is_end k step || more) (ends_joined k steps later)

pub no_end : (k : ℕ) (step : StepData) → (IsAbout k step → ⊥) → is_end k step ≡ false
no_end k (a_piece session piece) other = refl
no_end k (an_end session) other = ne_eqb session k other
no_end k a_flush other = refl

-- a session had ended before, or ends in the first steps or in the later ones
pub ended_then : (had : Bool) (k : ℕ) (steps later : List StepData)
    → ((had || has_end k steps) || has_end k later) ≡ (had || has_end k (steps ++ later))
ended_then had k steps later = sym (or_assoc had (has_end k steps) (has_end k later))
    ∙ ap (λ (more : Bool). had || more) (ends_joined k steps later)

pub or_true : (x y : Bool) → x ≡ true → (x || y) ≡ true
or_true true y is = refl
or_true false y is = absurd (false≢true is)

pub nothing_fed : (bytes : ℕ) → bytes + 0 ≡ bytes
nothing_fed bytes = omega arith

-- each byte counts as an append
pub none_recorded : (bytes : List ℕ) → map (λ (byte : ℕ). appending) bytes ≡ [] → length bytes ≡ 0
none_recorded [] none = refl
none_recorded (byte ∷ bytes) none = absurd (cc none)
