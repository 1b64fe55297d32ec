-- How the lanes of vectors follow operations on the vectors.
use Rattle.std.proofs.Common.{◌≡◌, ℕ, zero, suc, ◌<◌, ◌-◌, ◌*◌, ◌/◌, ◌%◌, ◌^◌, List, [], ◌∷◌, length, slice_index, slice_index_or, slice_set, bit_or, arith, refl, ap}
use Rattle.std.proofs.lemmas.Simd.{Each1-get_or}
use Rattle.std.specs.Int.{w32, rotate_right}
use Rattle.std.specs.Simd.Lanes.{Each1, zip2}
use mir.Val.{Fits}
use Rattle.audit_lanes.specs.Lanes.{lane, of_four}

-- what holds of each of the four lanes
pub below_four : (P : ℕ → Type 0) → P 0 → P 1 → P 2 → P 3 → (k : ℕ) → k < 4 → P k
below_four P p0 p1 p2 p3 zero h = p0
below_four P p0 p1 p2 p3 (suc zero) h = p1
below_four P p0 p1 p2 p3 (suc (suc zero)) h = p2
below_four P p0 p1 p2 p3 (suc (suc (suc zero))) h = p3
below_four P p0 p1 p2 p3 (suc (suc (suc (suc n)))) h = absurd (omega arith)

-- what holds of each list of four elements
four_lanes : (P : List ℕ → Type 0) → ((a b c d : ℕ) → P (a ∷ b ∷ c ∷ d ∷ [])) → (xs : List ℕ) → length xs ≡ 4 → P xs
four_lanes P p (a ∷ b ∷ c ∷ d ∷ []) h = p a b c d
four_lanes P p [] h = absurd (omega arith)
four_lanes P p (a ∷ []) h = absurd (omega arith)
four_lanes P p (a ∷ b ∷ []) h = absurd (omega arith)
four_lanes P p (a ∷ b ∷ c ∷ []) h = absurd (omega arith)
four_lanes P p (a ∷ b ∷ c ∷ d ∷ e ∷ xs) h = absurd (omega arith)

-- each lane is a word
pub lane_fits : (x : List ℕ) (k : ℕ) → k < 4 → (length x ≡ 4) × Each1 (Fits w32) x → slice_index x k < 2 ^ 32
lane_fits x k h fits = (Each1-get_or (Fits w32) x k 0 (omega (arith, fits.0)) fits.1).fits

-- a shift of each lane
abbrev Shifts : ℕ → List ℕ → Type 0
Shifts by x = (k : ℕ) → k < 4 → slice_index (zip2 (λ a n. a / 2 ^ n) x (by ∷ by ∷ by ∷ by ∷ [])) k ≡ slice_index x k / 2 ^ by

pub lanes_shift : (by : ℕ) (x : List ℕ) → length x ≡ 4 → Shifts by x
lanes_shift by = four_lanes (Shifts by) (λ a b c d. below_four _ refl refl refl refl)

-- two shifts of each lane and an or are a rotation
abbrev Rotates : ℕ → List ℕ → Type 0
Rotates by x = (k : ℕ) → k < 4
    → slice_index (zip2 bit_or
    (zip2 (λ a n. a / 2 ^ n) x (by ∷ by ∷ by ∷ by ∷ []))
    (zip2 (λ a n. a * 2 ^ n % 2 ^ 32) x ((32 - by) ∷ (32 - by) ∷ (32 - by) ∷ (32 - by) ∷ []))) k
    ≡ rotate_right w32 (slice_index x k) by

pub shifts_rotate : (by : ℕ) → 0 < by → by < 32 → (x : List ℕ) → length x ≡ 4 → Rotates by x
shifts_rotate by low high =
    let right : by % 32 ≡ by = omega arith in
    let left : (32 - by) % 32 ≡ 32 - by = omega arith in
    four_lanes (Rotates by) (λ a b c d.
    below_four _ (rw (right, left) refl) (rw (right, left) refl) (rw (right, left) refl) (rw (right, left) refl))

-- word i of lane k is lane k of vector i
pub lane_at : (vectors : List (List ℕ)) (k i : ℕ) → slice_index (lane k vectors) i ≡ slice_index (slice_index_or vectors i []) k
lane_at [] k i = refl
lane_at (v ∷ vectors) k zero = refl
lane_at (v ∷ vectors) k (suc i) = lane_at vectors k i

pub length-lane : (vectors : List (List ℕ)) (k : ℕ) → length (lane k vectors) ≡ length vectors
length-lane [] k = refl
length-lane (v ∷ vectors) k = ap suc (length-lane vectors k)

-- a vector that is written is a word written in each lane
pub lane-set : (vectors : List (List ℕ)) (k i : ℕ) (v : List ℕ) → lane k (slice_set vectors i v) ≡ slice_set (lane k vectors) i (slice_index v k)
lane-set [] k i v = refl
lane-set (x ∷ vectors) k zero v = refl
lane-set (x ∷ vectors) k (suc i) v = ap (λ rest. slice_index x k ∷ rest) (lane-set vectors k i v)

-- what is done to each of four lists is done to the one of lane k
pub of_four-each : (f : List ℕ → List ℕ) (a b c d : List ℕ) (k : ℕ) → k < 4 → of_four (f a) (f b) (f c) (f d) k ≡ f (of_four a b c d k)
of_four-each f a b c d = below_four _ refl refl refl refl

pub length-of_four : (n : ℕ) (a b c d : List ℕ) → length a ≡ n → length b ≡ n → length c ≡ n → length d ≡ n
    → (k : ℕ) → k < 4 → length (of_four a b c d k) ≡ n
length-of_four n a b c d ea eb ec ed = below_four _ ea eb ec ed

pub of_four-same : (a : List ℕ) (k : ℕ) → k < 4 → of_four a a a a k ≡ a
of_four-same a = below_four _ refl refl refl refl
