-- Kinds in their places.
use Rattle.std.proofs.Common.{arith, ◌≡◌, refl, sym, ap, ◌∙◌, subst, ℕ, zero, suc, ◌<◌, ◌≤◌, ◌+◌, Bool, true, false, cond, ◌&&◌, ◌||◌, Option, Some, None, List, [], ◌∷◌, length, take, set, slice_index_or, nat_eq, true≢false}
use Rattle.std.specs.List.{list_any, list_all, filter}
use Rattle.std.specs.Option.{is_some, option_eq}
use Rattle.std.proofs.lemmas.List.{take_all}
use Rattle.std.proofs.lemmas.List.Folds.{list_all_more}

swapped : (a b c : Bool) → (a || (b || c)) ≡ (b || (a || c))
swapped true true c = refl
swapped true false c = refl
swapped false b c = refl

-- a test of each, once one that fails it was replaced
pub any_set : {X : Type 0} (p : X → Bool) (xs : List X) (i : ℕ) (none new : X) → i < length xs → p (slice_index_or xs i none) ≡ false → list_any p (set xs i new) ≡ (p new || list_any p xs)
any_set p [] i none new within fails = absurd (omega (arith, within))
any_set p (x ∷ xs) zero none new within fails = ap (λ (b : Bool). p new || (b || list_any p xs)) (sym fails)
any_set p (x ∷ xs) (suc i) none new within fails =
    ap (λ (b : Bool). p x || b) (any_set p xs i none new (omega (arith, within)) fails) ∙ swapped (p x) (p new) (list_any p xs)

-- a free place holds no kind
pub unlike_free : (place : Option ℕ) (kind : ℕ) → is_some place ≡ false → option_eq nat_eq place (Some kind) ≡ false
unlike_free None kind free = refl
unlike_free (Some other) kind free = cc free

-- ---- how many hold kinds

abbrev taken : List (Option ℕ) → ℕ
taken places = length (filter is_some places)

counted : (here : Bool) (place : Option ℕ) (rest : List (Option ℕ)) → length (cond here (place ∷ rest) rest) ≡ cond here 1 0 + length rest
counted true place rest = omega arith
counted false place rest = omega arith

taken_more : (place : Option ℕ) (places : List (Option ℕ)) → taken (place ∷ places) ≡ cond (is_some place) 1 0 + taken places
taken_more place places = counted (is_some place) place (filter is_some places)

pub count_set : (places : List (Option ℕ)) (i kind : ℕ) → i < length places → is_some (slice_index_or places i None) ≡ false → taken (set places i (Some kind)) ≡ 1 + taken places
count_set [] i kind within free = absurd (omega (arith, within))
count_set (None ∷ places) zero kind within free = omega arith
count_set (Some other ∷ places) zero kind within free = absurd (true≢false free)
count_set (place ∷ places) (suc i) kind within free =
    let more = taken_more place (set places i (Some kind)) in
    let less = taken_more place places in
    let rest = count_set places i kind (omega (arith, within)) free in
    omega (arith, more, less, rest)

at_most : (some : Bool) → cond some 1 0 ≤ 1
at_most true = omega arith
at_most false = omega arith

count_within : (places : List (Option ℕ)) → taken places ≤ length places
count_within [] = omega arith
count_within (place ∷ places) =
    let here = at_most (is_some place) in
    let more = taken_more place places in
    let rest = count_within places in
    omega (arith, here, more, rest)

-- a free place is left
pub count_less : (places : List (Option ℕ)) (i : ℕ) → i < length places → is_some (slice_index_or places i None) ≡ false → taken places < length places
count_less [] i within free = absurd (omega (arith, within))
count_less (None ∷ places) zero within free =
    let rest = count_within places in
    omega (arith, rest)
count_less (Some other ∷ places) zero within free = absurd (true≢false free)
count_less (place ∷ places) (suc i) within free =
    let here = at_most (is_some place) in
    let more = taken_more place places in
    let rest = count_less places i (omega (arith, within)) free in
    omega (arith, here, more, rest)

count_all : (places : List (Option ℕ)) → list_all is_some places ≡ true → taken places ≡ length places
count_all [] all = refl
count_all (None ∷ places) all = absurd (true≢false (sym all))
count_all (Some kind ∷ places) all =
    let rest = count_all places all in
    omega (arith, rest)

module _ (places : List (Option ℕ)) (i : ℕ) where
  pub front_grows : i < length places → list_all is_some (take i places) ≡ true → is_some (slice_index_or places i None) ≡ true → list_all is_some (take (i + 1) places) ≡ true
  front_grows within front here = list_all_more is_some places i None within ∙ ap (λ (b : Bool). b && is_some (slice_index_or places i None)) front ∙ here

  -- the front that holds kinds is all
  pub front_counted : length places ≤ i → list_all is_some (take i places) ≡ true → taken places ≡ length places
  front_counted past front = count_all places (subst (λ (some : List (Option ℕ)). list_all is_some some ≡ true) (take_all i places past) front)
