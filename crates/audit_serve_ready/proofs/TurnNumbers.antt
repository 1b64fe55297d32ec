-- The number of a session's turn.
use Rattle.std.proofs.Common.{◌≡◌, ◌⊎◌, inl, inr, ◌∙◌, ℕ, ◌+◌, ◌-◌, ◌%◌, ◌<◌, ◌≤◌, leb, sym, subst, arith}
use Rattle.std.proofs.Math.Nat.{mod-eq_of_lt}
use Rattle.std.proofs.lemmas.Bool.{cond-true, cond-false, le-leb, lt-leb}
use Rattle.audit_serve_ready.specs.Reading.{turn_number}

-- where the turns of this many sessions begin
within_count : (first count : ℕ) → 0 < count → first % count < count
within_count first count some = omega (arith, some)

number_after : (first count k : ℕ) → first % count ≤ k → turn_number first count k ≡ k - first % count
number_after first count k order = cond-true (leb (first % count) k) (k - first % count) ((k + count) - first % count) (le-leb (first % count) k order)

number_before : (first count k : ℕ) → k < first % count → turn_number first count k ≡ (k + count) - first % count
number_before first count k order = cond-false (leb (first % count) k) (k - first % count) ((k + count) - first % count) (lt-leb (first % count) k order)

before_or : (m n : ℕ) → (m < n) ⊎ (n ≤ m)
before_or m n = search (arith)

pub number_of_place : (first count number place : ℕ) → place ≡ first % count + number → turn_number first count place ≡ number
number_of_place first count number place is = number_after first count place (omega (arith, is)) ∙ omega (arith, is)

pub number_round : (first count number place : ℕ) → number < count → place + count ≡ first % count + number → turn_number first count place ≡ number
number_round first count number place few is = number_before first count place (omega (arith, few, is)) ∙ omega (arith, is)

pub number_below : (first count k : ℕ) → k < count → turn_number first count k < count
number_below first count k below = by (before_or k (first % count))
  where
    by : (k < first % count) ⊎ (first % count ≤ k) → turn_number first count k < count
    by (inl before) = omega (arith, number_before first count k before, before, below)
    by (inr after) = omega (arith, number_after first count k after, after, below)

-- two sessions have different turns
pub one_number : (first count k other : ℕ) → k < count → other < count → turn_number first count k ≡ turn_number first count other → k ≡ other
one_number first count k other below also same = by (before_or k (first % count)) (before_or other (first % count))
  where
    start : first % count < count
    start = within_count first count (omega (arith, below))

    by : (k < first % count) ⊎ (first % count ≤ k) → (other < first % count) ⊎ (first % count ≤ other) → k ≡ other
    by (inl before) (inl also_before) = omega (arith, number_before first count k before, number_before first count other also_before, same, start)
    by (inl before) (inr also_after) = absurd (omega (arith, number_before first count k before, number_after first count other also_after, same, start, before, also_after, also))
    by (inr after) (inl also_before) = absurd (omega (arith, number_after first count k after, number_before first count other also_before, same, start, after, also_before, below))
    by (inr after) (inr also_after) = omega (arith, number_after first count k after, number_after first count other also_after, same)

-- the first turn is that of session `first`
pub first_number : (first count : ℕ) → first < count → turn_number first count first ≡ 0
first_number first count below =
    let is : first % count ≡ first = mod-eq_of_lt below in
    number_after first count first (omega (arith, is)) ∙ omega (arith, is)

pub either_turn : (first count from number session k : ℕ) → session < count → k < count → turn_number first count session ≡ number → (from ≤ turn_number first count k) × (turn_number first count k < number + 1)
    → ((from ≤ turn_number first count k) × (turn_number first count k < number)) ⊎ (k ≡ session)
either_turn first count from number session k below also is (least, most) = by (before_or (turn_number first count k) number)
  where
    by : (turn_number first count k < number) ⊎ (number ≤ turn_number first count k) → ((from ≤ turn_number first count k) × (turn_number first count k < number)) ⊎ (k ≡ session)
    by (inl less) = inl (least, less)
    by (inr same) = inr (one_number first count k session also below (omega (arith, same, most, is)))

-- whatever is meant, it had its turn before or has it now
pub read_or_next : (first count here from reading k : ℕ) → here ≡ count → ((turn_number first count k < from) ⊎ (1 ≤ reading)) ⊎ (from ≤ turn_number first here k)
read_or_next first count here from reading k same = by (before_or (turn_number first count k) from)
  where
    by : (turn_number first count k < from) ⊎ (from ≤ turn_number first count k) → ((turn_number first count k < from) ⊎ (1 ≤ reading)) ⊎ (from ≤ turn_number first here k)
    by (inl less) = inl (inl less)
    by (inr more) = inr (subst (λ (n : ℕ). from ≤ turn_number first n k) (sym same) more)

-- the first turn alone
first_alone : (first count k : ℕ) → first < count → k < count → turn_number first count k < 1 → k ≡ first
first_alone first count k below within less = one_number first count k first within below (omega (arith, less, first_number first count below))

pub one_first : (first count from k : ℕ) → first < count → k < count → from ≡ 1 → (turn_number first count k < from) ⊎ (1 ≤ 0) → k ≡ first
one_first first count from k below within is (inl less) = first_alone first count k below within (omega (arith, less, is))
one_first first count from k below within is (inr never) = absurd (omega (arith, never))

pub none_first : {P : Type 0} (first count from k : ℕ) → from ≡ 0 → (turn_number first count k < from) ⊎ (1 ≤ 0) → P
none_first first count from k is (inl less) = absurd (omega (arith, less, is))
none_first first count from k is (inr never) = absurd (omega (arith, never))
