-- The bits in which two lists of bytes differ, accumulated from the start.
use Rattle.std.proofs.Common.{◌≡◌, ℕ, ◌+◌, ◌<◌, ◌≤◌, List, length, get_or, bit_or, bit_xor, ap, ◌∙◌, arith}
use Rattle.std.specs.Int.Bits.{xor_add_and, xor_self}
use Rattle.std.proofs.lemmas.Nat.{and_le_l, and_le_r, le_or_l, le_or_r}
use Rattle.std.proofs.lemmas.List.{ext_get_or}
use borrow.Author.Count.{below_more}

-- no bit is set if and only if the bytes before a place are equal
pub record Gathers (difference place : ℕ) (left right : List ℕ) : Type 0 where
  pub none : difference ≡ 0 → (k : ℕ) → k < place → get_or left k 0 ≡ get_or right k 0
  pub same : ((k : ℕ) → k < place → get_or left k 0 ≡ get_or right k 0) → difference ≡ 0

-- numbers that differ in no bit are equal
pub xor-none : (a b : ℕ) → bit_xor a b ≡ 0 → a ≡ b
xor-none a b none = omega (arith, xor_add_and a b, and_le_l a b, and_le_r a b)

pub or-none : (a b : ℕ) → a ≡ 0 → b ≡ 0 → bit_or a b ≡ 0
or-none a b left right = ap (λ x. bit_or x b) left ∙ right

pub gathers_more : (difference place : ℕ) (left right : List ℕ) → Gathers difference place left right
    → Gathers (bit_or difference (bit_xor (get_or left place 0) (get_or right place 0))) (place + 1) left right
gathers_more difference place left right h =
    let here = bit_xor (get_or left place 0) (get_or right place 0) in record {
      none = λ zero.
          let earlier : difference ≡ 0 = omega (arith, le_or_l difference here) in
          let last : here ≡ 0 = omega (arith, le_or_r difference here) in
          below_more (λ k. get_or left k 0 ≡ get_or right k 0) place (h.none earlier) (xor-none _ _ last);
      same = λ each.
          or-none difference here (h.same (λ k lt. each k (omega arith)))
          (ap (λ byte. bit_xor byte (get_or right place 0)) (each place (omega arith)) ∙ xor_self (get_or right place 0));
    }

-- after the last byte the lists are compared as a whole
pub gathered : (difference place : ℕ) (left right : List ℕ) → length left ≡ length right → length left ≤ place → Gathers difference place left right
    → (difference ≡ 0 → left ≡ right) × (left ≡ right → difference ≡ 0)
gathered difference place left right long all h = (
  λ zero. ext_get_or 0 left right long (λ k lt. h.none zero k (omega arith)),
  λ same. h.same (λ k lt. ap (λ bytes. get_or bytes k 0) same),
)
