-- Consecutive calls of a stream.
use Rattle.std.proofs.Common.{◌≡◌, ℕ, ◌+◌, Bool, true, false, ◌||◌, eqb, List, [], ◌∷◌, ◌++◌, refl, sym, ap, subst, ◌∙◌, arith, true≢false}
use Rattle.std.proofs.lemmas.Bool.{eq-eqb, ne_eqb, cond-true, cond-false}
use Rattle.audit_serve_passes.specs.Streams.{StreamCall, a_read, a_read_in_vain, a_failed_read, a_write, a_failed_write, bytes_sent, has_failed_write, ends_of_call, ends_of_calls, AreWrittenWhole, calls_for}
use Rattle.audit_serve_passes.specs.CallLaws.{or_false}

pub or_right : (x y : Bool) → y ≡ true → (x || y) ≡ true
or_right true y is = refl
or_right false y is = is

pub or_left : (x y : Bool) → x ≡ true → (x || y) ≡ true
or_left x y is = ap (λ (front : Bool). front || y) is

pub ends_of-append : (calls later : List StreamCall) → ends_of_calls (calls ++ later) ≡ ends_of_calls calls + ends_of_calls later
ends_of-append [] later = omega arith
ends_of-append (call ∷ calls) later = ap (λ (n : ℕ). ends_of_call call + n) (ends_of-append calls later) ∙ omega arith

-- ---- writes

-- nothing is written to a closed stream
pub nothing_sent : (closed : Bool) (calls : List StreamCall) → closed ≡ true → AreWrittenWhole closed calls → bytes_sent calls ≡ []
nothing_sent closed [] is whole = refl
nothing_sent closed (a_read bytes ∷ calls) is whole = nothing_sent closed calls is whole
nothing_sent closed (a_read_in_vain ∷ calls) is whole = nothing_sent closed calls is whole
nothing_sent closed (a_failed_read ∷ calls) is whole = nothing_sent closed calls is whole
nothing_sent closed (a_write bytes left ∷ calls) is whole = absurd (true≢false (sym is ∙ whole.0))
nothing_sent closed (a_failed_write bytes ∷ calls) is whole = absurd (true≢false (sym is ∙ whole.0))

pub whole-append : (closed : Bool) (calls later : List StreamCall) → AreWrittenWhole closed calls → AreWrittenWhole (closed || has_failed_write calls) later → AreWrittenWhole closed (calls ++ later)
whole-append closed [] later whole more = subst (λ (now : Bool). AreWrittenWhole now later) (or_false closed) more
whole-append closed (a_read bytes ∷ calls) later whole more = whole-append closed calls later whole more
whole-append closed (a_read_in_vain ∷ calls) later whole more = whole-append closed calls later whole more
whole-append closed (a_failed_read ∷ calls) later whole more = whole-append closed calls later whole more
whole-append closed (a_write bytes left ∷ calls) later whole more = (whole.0, whole-append closed calls later whole.1 more)
whole-append closed (a_failed_write bytes ∷ calls) later whole more =
    (whole.0, whole-append true calls later whole.1 (subst (λ (now : Bool). AreWrittenWhole now later) (ap (λ (was : Bool). was || true) whole.0) more))

-- ---- the calls of one stream among those of all streams

pub calls_here : (k : ℕ) (calls : List StreamCall) → calls_for k calls k ≡ calls
calls_here k calls = cond-true (eqb k k) calls [] (eq-eqb k k refl)

pub calls_there : (k other : ℕ) (calls : List StreamCall) → (other ≡ k → ⊥) → calls_for k calls other ≡ []
calls_there k other calls apart = cond-false (eqb other k) calls [] (ne_eqb other k apart)
