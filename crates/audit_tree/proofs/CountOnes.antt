-- The ones of a count in binary: each stands for a full node whose parent isn't full.
use Rattle.std.proofs.Common.{inl, inr, ◌≡◌, ◌≢◌, ℕ, suc, ◌+◌, ◌-◌, ◌*◌, ◌/◌, ◌%◌, ◌^◌, ◌<◌, ◌≤◌, sym, ap, ◌∙◌, arith}
use Rattle.std.proofs.lemmas.Bool.{cases_lt, cases_eq}
use Rattle.std.proofs.lemmas.Nat.{pow_pos, mod-pow-add, mod-mul-add, div-add-mod'}
use Rattle.std.proofs.Math.Nat.{pow-suc, mod-lt, mod-eq_of_lt, mul-mod_left, zero-mod}
use Rattle.std.proofs.Math.Numerals.{one-add}
use Rattle.std.proofs.Math.Pow.{mod-mod-pow}
use Rattle.audit_tree.specs.Continued.{start_at}
use Rattle.audit_tree.proofs.PathLemmas.{aligned_below, aligned_right}
use Rattle.audit_tree.proofs.TrailingZeros.{IsLastLayer}

-- no multiple lies between two consecutive ones
pub between : (a b w : ℕ) → a % w ≡ 0 → a < b → b < a + w → b % w ≡ 0 → ⊥
between a b w divides above below other =
    let split : a / w * w ≡ a = omega (arith, div-add-mod' a w, divides) in
    let rest : (a / w * w + (b - a)) % w ≡ b - a = mod-mul-add (a / w) w (b - a) (omega arith) in
    let whole : a / w * w + (b - a) ≡ b = omega arith in
    omega (arith, ap (λ n. n % w) whole, other, rest, above)

-- the width of a lower layer divides what the width of a higher layer divides
pub divides_below : (n low high : ℕ) → low ≤ high → n % 2 ^ high ≡ 0 → n % 2 ^ low ≡ 0
divides_below n low high order divides =
    sym (mod-mod-pow n (high - low) low)
    ∙ ap (λ k. k % 2 ^ low) (ap (λ j. n % 2 ^ j) (let e : (high - low) + low ≡ high = omega arith in e) ∙ divides)
    ∙ zero-mod (2 ^ low)

-- the bit of a number at a layer
pub bit_split : (n layer : ℕ) → n % 2 ^ suc layer ≡ (n / 2 ^ layer % 2) * 2 ^ layer + n % 2 ^ layer
bit_split n layer = ap (λ j. n % 2 ^ j) (sym (one-add layer)) ∙ mod-pow-add n 1 layer

pub even_above : (n layer : ℕ) → n % 2 ^ layer ≡ 0 → n / 2 ^ layer % 2 ≢ 1 → n % 2 ^ suc layer ≡ 0
even_above n layer divides even =
    let none : n / 2 ^ layer % 2 ≡ 0 = omega (arith, even) in
    bit_split n layer ∙ ap (λ b. b * 2 ^ layer + n % 2 ^ layer) none ∙ omega (arith, divides)

pub odd_above : (n layer : ℕ) → n % 2 ^ layer ≡ 0 → n / 2 ^ layer % 2 ≡ 1 → n % 2 ^ suc layer ≡ 2 ^ layer
odd_above n layer divides odd =
    bit_split n layer ∙ ap (λ b. b * 2 ^ layer + n % 2 ^ layer) odd ∙ omega (arith, divides)

-- a full node at this layer starts there, and is the left side of a node that isn't full
pub record IsLeftSide (count start layer : ℕ) : Type 0 where
  pub aligned : start % 2 ^ suc layer ≡ 0
  pub full : start + 2 ^ layer ≤ count
  pub short : count < start + 2 ^ suc layer

-- a one of the count
pub one_side : (count layer : ℕ) → count / 2 ^ layer % 2 ≡ 1 → IsLeftSide count (start_at count layer) layer
one_side count layer one =
    let w = 2 ^ suc layer in
    let some : 0 < w = pow_pos (suc layer) in
    let split : start_at count layer + count % w ≡ count = div-add-mod' count w in
    let rest : count % w ≡ 2 ^ layer + count % 2 ^ layer =
    bit_split count layer ∙ ap (λ b. b * 2 ^ layer + count % 2 ^ layer) one ∙ omega arith in
    record {
      aligned = mul-mod_left (count / w) w;
      full = omega (arith, split, rest);
      short = omega (arith, split, mod-lt count some);
    }

pub record IsOneOf (count start layer : ℕ) : Type 0 where
  pub one : count / 2 ^ layer % 2 ≡ 1
  pub start_is : start_at count layer ≡ start

-- a number below a width and at least half of it has a one there
upper_half : (n layer : ℕ) → 2 ^ layer ≤ n % 2 ^ suc layer → n / 2 ^ layer % 2 ≡ 1
upper_half n layer upper = elim (cases_eq (n / 2 ^ layer % 2) 1) [
  | inl one ↦ one
  | inr other ↦
      let none : n / 2 ^ layer % 2 ≡ 0 = omega (arith, other) in
      let low : n % 2 ^ suc layer ≡ n % 2 ^ layer =
      bit_split n layer ∙ ap (λ b. b * 2 ^ layer + n % 2 ^ layer) none ∙ omega arith in
      absurd (omega (arith, low, upper, mod-lt n (pow_pos layer)))
]

pub side_one : (count start layer : ℕ) → IsLeftSide count start layer → IsOneOf count start layer
side_one count start layer side =
    let w = 2 ^ suc layer in
    let whole : start / w * w ≡ start = omega (arith, div-add-mod' start w, side.aligned) in
    let rest : (start / w * w + (count - start)) % w ≡ count - start = mod-mul-add (start / w) w (count - start) (omega (arith, side.full, side.short)) in
    let sum : start / w * w + (count - start) ≡ count = omega (arith, whole, side.full) in
    let left : count % w ≡ count - start = sym (ap (λ n. n % w) sum) ∙ rest in
    record {
      one = upper_half count layer (omega (arith, left, side.full));
      start_is = omega (arith, div-add-mod' count w, left, side.full);
    }

-- the ones of the next count: none below the lowest, the lowest, and above it those of the count before
pub low_zero : (n layer last : ℕ) → IsLastLayer n last → layer < last → n / 2 ^ layer % 2 ≢ 1
low_zero n layer last is below one =
    let divides = divides_below n (suc layer) last (omega (arith, below)) is.divides in
    let rest : n % 2 ^ suc layer ≡ 2 ^ layer + n % 2 ^ layer =
    bit_split n layer ∙ ap (λ b. b * 2 ^ layer + n % 2 ^ layer) one ∙ omega arith in
    omega (arith, divides, rest, pow_pos layer)

pub last_one : (n last : ℕ) → IsLastLayer n last → n / 2 ^ last % 2 ≡ 1
last_one n last is = elim (cases_eq (n / 2 ^ last % 2) 1) [
  | inl odd ↦ odd
  | inr even ↦ absurd (is.stops (even_above n last is.divides even))
]

pub last_start : (n last : ℕ) → IsLastLayer n last → start_at n last ≡ n - 2 ^ last
last_start n last is = omega (arith, div-add-mod' n (2 ^ suc last), odd_above n last is.divides (last_one n last is))

pub high_one : (count layer last : ℕ) → IsLastLayer (count + 1) last → last < layer → (count + 1) / 2 ^ layer % 2 ≡ 1
    → start_at (count + 1) layer + 2 ^ layer ≤ count
high_one count layer last is above one =
    let n = count + 1 in
    let start = start_at n layer in
    let side = one_side n layer one in
    elim (cases_lt (start + 2 ^ layer) n) [
      | inl fine ↦ omega (arith, fine)
      | inr least ↦
          let same : start + 2 ^ layer ≡ n = omega (arith, least, side.full) in
          let end = aligned_right start layer (aligned_below start layer side.aligned) in
          absurd (is.stops (divides_below n (suc last) layer (omega (arith, above)) (ap (λ k. k % 2 ^ layer) (sym same) ∙ end)))
    ]

pub high_zero : (count layer last : ℕ) → IsLastLayer (count + 1) last → last < layer → (count + 1) / 2 ^ layer % 2 ≢ 1 → count / 2 ^ layer % 2 ≢ 1
high_zero count layer last is above zero one =
    let n = count + 1 in
    let start = start_at count layer in
    let side = one_side count layer one in
    elim (cases_lt n (start + 2 ^ suc layer)) [
      | inl short ↦ zero (side_one n start layer (record { aligned = side.aligned; full = omega (arith, side.full); short = short })).one
      | inr past ↦
          let same : start + 2 ^ suc layer ≡ n = omega (arith, past, side.short) in
          let end = aligned_right start (suc layer) side.aligned in
          is.stops (divides_below n (suc last) (suc layer) (omega (arith, above)) (ap (λ k. k % 2 ^ suc layer) (sym same) ∙ end))
    ]
