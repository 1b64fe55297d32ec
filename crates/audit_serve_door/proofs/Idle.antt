-- The client that has been idle for the longest time is found place by place.
use Rattle.std.specs.Prelude.{◌&&◌, if◌then◌else◌, slice_get}
use Rattle.std.specs.Time.{instant_nanos}
use Rattle.std.specs.declared.time.Instant.{Instant}
use Rattle.std.proofs.Common.{◌≡◌, ◌⊎◌, inl, inr, ℕ, ◌+◌, ◌<◌, ◌≤◌, Bool, true, false, Option, Some, None, List, length, refl, sym, ap, subst, ◌∙◌, ⊎_elim, arith, true≢false}
use Rattle.std.proofs.lemmas.Option.{slice_get_within}
use Rattle.std.proofs.lemmas.Bool.{cases_lt, ltb-true, ltb-false}
use Rattle.audit_serve_door.specs.declared.places.Candidates.{Candidates}
use Rattle.audit_serve_door.specs.declared.places.Occupancy.{Occupancy}
use Rattle.audit_serve_door.specs.Idle.{is_candidate, is_before, earlier_of, FindsIdle}

-- of the candidates at the first `count` places
abbrev pub IsFoundBelow : ℕ → Candidates → List Occupancy → Option (ℕ × Instant) → Type 0
IsFoundBelow count who places None = (k : ℕ) (other : Occupancy) → k < count → slice_get places k ≡ Some other → is_candidate who other ≡ false
IsFoundBelow count who places (Some found) = (here : Occupancy) × (slice_get places found.0 ≡ Some here) × (is_candidate who here ≡ true) × (here.since ≡ found.1)
    × ((k : ℕ) (other : Occupancy) → k < count → slice_get places k ≡ Some other → is_candidate who other ≡ true → instant_nanos found.1 ≤ instant_nanos other.since)

some_same : {A : Type 0} (one other : A) → Some one ≡ Some other → one ≡ other
some_same one other same = cc same

below_or : (k n : ℕ) → k < n + 1 → (k < n) ⊎ (k ≡ n)
below_or k n lt = ⊎_elim (λ (is : k < n). inl is) (λ (no : n ≤ k). inr (omega (arith, lt, no))) (cases_lt k n)

module _ (who : Candidates) (places : List Occupancy) (n : ℕ) (here : Occupancy) (there : slice_get places n ≡ Some here) where
  same_here : (k : ℕ) (other : Occupancy) → k ≡ n → slice_get places k ≡ Some other → here ≡ other
  same_here k other is at = some_same here other (sym there ∙ ap (λ (m : ℕ). slice_get places m) (sym is) ∙ at)

  step_by : (found : Option (ℕ × Instant)) (c b : Bool) → is_candidate who here ≡ c → is_before here.since found ≡ b → IsFoundBelow n who places found → IsFoundBelow (n + 1) who places (if c && b then Some (n, here.since) else found)
  step_by None true true is before below = (
    here,
    there,
    is,
    refl,
    λ k other lt at candidate. elim (below_or k n lt) [
      | inl less ↦ absurd (true≢false (sym candidate ∙ below k other less at))
      | inr last ↦ let same = same_here k other last at in subst (λ (one : Occupancy). instant_nanos here.since ≤ instant_nanos one.since) same (omega arith)
    ],
  )
  step_by None true false is before below = absurd (true≢false before)
  step_by None false b is before below = λ k other lt at. elim (below_or k n lt) [
    | inl less ↦ below k other less at
    | inr last ↦ subst (λ (one : Occupancy). is_candidate who one ≡ false) (same_here k other last at) is
  ]
  step_by (Some found) true true is before below = (
    here,
    there,
    is,
    refl,
    λ k other lt at candidate. elim (below_or k n lt) [
      | inl less ↦ omega (arith, ltb-true (instant_nanos here.since) (instant_nanos found.1) before, below.4 k other less at candidate)
      | inr last ↦ subst (λ (one : Occupancy). instant_nanos here.since ≤ instant_nanos one.since) (same_here k other last at) (omega arith)
    ],
  )
  step_by (Some found) true false is before below = (
    below.0,
    below.1,
    below.2,
    below.3,
    λ k other lt at candidate. elim (below_or k n lt) [
      | inl less ↦ below.4 k other less at candidate
      | inr last ↦ subst (λ (one : Occupancy). instant_nanos found.1 ≤ instant_nanos one.since) (same_here k other last at) (ltb-false (instant_nanos here.since) (instant_nanos found.1) before)
    ],
  )
  step_by (Some found) false b is before below = (
    below.0,
    below.1,
    below.2,
    below.3,
    λ k other lt at candidate. elim (below_or k n lt) [
      | inl less ↦ below.4 k other less at candidate
      | inr last ↦ absurd (true≢false (sym candidate ∙ sym (ap (is_candidate who) (same_here k other last at)) ∙ is))
    ],
  )

  pub found_on : (found : Option (ℕ × Instant)) → IsFoundBelow n who places found → IsFoundBelow (n + 1) who places (earlier_of found n here who)
  found_on found below = step_by found (is_candidate who here) (is_before here.since found) refl refl below

pub all_found : (who : Candidates) (places : List Occupancy) (n : ℕ) (found : Option (ℕ × Instant)) → length places ≤ n → IsFoundBelow n who places found → FindsIdle who places found
all_found who places n None all below = λ k other at. below k other (omega (arith, all, slice_get_within places k other at)) at
all_found who places n (Some found) all below = record {
  here = below.0;
  there = below.1;
  candidate = below.2;
  since_is = below.3;
  longest = λ k other at candidate. below.4 k other (omega (arith, all, slice_get_within places k other at)) at candidate;
}

pub found_after : (who : Candidates) (places : List Occupancy) (n : ℕ) (here : Occupancy) (found result : Option (ℕ × Instant)) → result ≡ earlier_of found n here who → slice_get places n ≡ Some here → IsFoundBelow n who places found → IsFoundBelow (n + 1) who places result
found_after who places n here found result is there below = subst (IsFoundBelow (n + 1) who places) (sym is) (found_on who places n here there found below)
