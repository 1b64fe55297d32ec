-- How a block is filled from pieces, one behind the other.
use Rattle.std.proofs.Common.{◌≡◌, ℕ, zero, suc, ◌+◌, ◌-◌, ◌*◌, ◌%◌, ◌^◌, ◌<◌, ◌≤◌, List, [], ◌∷◌, ◌++◌, length, take, drop, min, inl, inr, refl, sym, ap, ◌∙◌, arith, slice_index_or}
use Rattle.std.proofs.lemmas.List.{append-nil, take-take, take_all, length-take-le}
use Rattle.std.proofs.lemmas.Bool.{cases_lt}
use Rattle.std.proofs.lemmas.Slice.{take-put_mid}
use Rattle.sha2.specs.Sha256.{padding}
use borrow.Rule.Slice.PartMut.{put_mid}

-- the front of two pieces
pub take-pieces : (n : ℕ) (x y : List ℕ) → take n (x ++ y) ≡ take n x ++ take (n - length x) y
take-pieces zero [] y = refl
take-pieces zero (a ∷ x) y = let none : 0 ≡ 0 - suc (length x) = omega arith in ap (λ (k : ℕ). take k y) none
take-pieces (suc n) [] y = let all : suc n ≡ suc n - 0 = omega arith in ap (λ (k : ℕ). take k y) all
take-pieces (suc n) (a ∷ x) y =
    let left : n - length x ≡ suc n - suc (length x) = omega arith in
    ap (λ rest. a ∷ rest) (take-pieces n x y ∙ ap (λ (k : ℕ). take n x ++ take k y) left)

-- what is left of two pieces
pub drop-pieces : (n : ℕ) (x y : List ℕ) → drop n (x ++ y) ≡ drop n x ++ drop (n - length x) y
drop-pieces zero [] y = refl
drop-pieces zero (a ∷ x) y = let none : 0 ≡ 0 - suc (length x) = omega arith in ap (λ (k : ℕ). a ∷ x ++ drop k y) none
drop-pieces (suc n) [] y = let all : suc n ≡ suc n - 0 = omega arith in ap (λ (k : ℕ). drop k y) all
drop-pieces (suc n) (a ∷ x) y =
    let left : n - length x ≡ suc n - suc (length x) = omega arith in
    drop-pieces n x y ∙ ap (λ (k : ℕ). drop n x ++ drop k y) left

-- the front of a front and what follows
pub take-front : (n : ℕ) (x y : List ℕ) → take n (take n x ++ y) ≡ take n (x ++ y)
take-front zero x y = refl
take-front (suc n) [] y = refl
take-front (suc n) (a ∷ x) y = ap (λ rest. a ∷ rest) (take-front n x y)

-- as much of a piece as there is room for
take-some : (c n : ℕ) (piece : List ℕ) → c ≡ min (length piece) n → take c piece ≡ take n piece
take-some c n piece e = elim (cases_lt (length piece) n) [
  | inl a ↦ take_all c piece (omega arith) ∙ sym (take_all n piece (omega arith))
  | inr b ↦ ap (λ (k : ℕ). take k piece) (omega arith)
]

-- a piece behind the bytes of a block
pub filled_by : (block front piece : List ℕ) (used count k : ℕ) → used ≤ 64 → length block ≡ 64 → count ≡ min (length piece) (64 - used)
    → front ≡ take count piece → take (used + count) (put_mid used k block front) ≡ take 64 (take used block ++ piece)
filled_by block front piece used count k low lb ec ef =
    let some : take count piece ≡ take (64 - used) piece = take-some count (64 - used) piece ec in
    let long : length front ≡ count = ap length ef ∙ length-take-le count piece (omega arith) in
    let begun : length (take used block) ≡ used = length-take-le used block (omega arith) in
    let placed : take (used + count) (put_mid used k block front) ≡ take used block ++ front = take-put_mid used k block front (used + count) (omega arith) (omega arith) in
    let whole : take 64 (take used block ++ piece) ≡ take used block ++ take (64 - used) piece =
    take-pieces 64 (take used block) piece ∙ rw (begun, take_all 64 (take used block) (omega arith)) refl in
    rw (placed, ef, some, whole) refl

-- a piece of which nothing is moved, since the block is full or the piece is empty
pub filled_none : (block piece : List ℕ) (used count : ℕ) → used ≤ 64 → length block ≡ 64 → count ≡ min (length piece) (64 - used) → count ≡ 0
    → take used block ≡ take 64 (take used block ++ piece)
filled_none block piece used count low lb ec none =
    let some : take count piece ≡ take (64 - used) piece = take-some count (64 - used) piece ec in
    let begun : length (take used block) ≡ used = length-take-le used block (omega arith) in
    let nothing : take (64 - used) piece ≡ [] = rw none at (sym some) in
    sym (take-pieces 64 (take used block) piece ∙ rw (begun, nothing, append-nil, take_all 64 (take used block) (omega arith)) refl)

-- a whole block of a piece
pub filled_whole : (block front piece : List ℕ) (used : ℕ) → used ≡ 0 → front ≡ take 64 piece → take 64 front ≡ take 64 (take used block ++ piece)
filled_whole block front piece used start ef = rw (ef, start, take-take 64 64 piece (omega arith)) refl

-- a piece more behind the front of others
pub filled_more : (before after x y : List ℕ) → before ≡ take 64 x → after ≡ take 64 (before ++ y) → after ≡ take 64 (x ++ y)
filled_more before after x y eb ea = ea ∙ rw eb (take-front 64 x y)

-- the padding sees a message's length modulo 2 ^ 64
pub padding_by : (total n : ℕ) → total ≡ n % 2 ^ 64 → padding total ≡ padding n
padding_by total n e =
    let used : total % 64 ≡ n % 64 = omega arith in
    let bits : total * 8 % 2 ^ 64 ≡ n * 8 % 2 ^ 64 = omega arith in
    rw (used, bits) refl

-- four lists by their places
pub four_lists : (xs : List (List ℕ)) (a b c d : List ℕ) → length xs ≡ 4 → slice_index_or xs 0 [] ≡ a → slice_index_or xs 1 [] ≡ b → slice_index_or xs 2 [] ≡ c
    → slice_index_or xs 3 [] ≡ d → xs ≡ a ∷ b ∷ c ∷ d ∷ []
four_lists (p ∷ q ∷ r ∷ s ∷ []) a b c d h ea eb ec ed = (λ i. ea i ∷ eb i ∷ ec i ∷ ed i ∷ [])
four_lists [] a b c d h ea eb ec ed = absurd (omega arith)
four_lists (p ∷ []) a b c d h ea eb ec ed = absurd (omega arith)
four_lists (p ∷ q ∷ []) a b c d h ea eb ec ed = absurd (omega arith)
four_lists (p ∷ q ∷ r ∷ []) a b c d h ea eb ec ed = absurd (omega arith)
four_lists (p ∷ q ∷ r ∷ s ∷ t ∷ xs) a b c d h ea eb ec ed = absurd (omega arith)
