-- Replies of one byte to the sessions that were fed, one after the other.
use Rattle.std.proofs.Common.{◌≡◌, ◌∙◌, ◌+◌, ◌<◌, ◌≤◌, ℕ, zero, suc, Bool, true, false, List, [], ◌∷◌, cond, length, map, set, get_or, refl, sym, ap, subst, arith, inl, inr, ◌⊎◌, ◌++◌, true≢false}
use Rattle.std.specs.declared.vec.Vec.{Vec}
use Rattle.std.proofs.lemmas.Bool.{cases_eq}
use Rattle.std.proofs.lemmas.List.{get_or-set_other, length-set, map-set, get_or-map, length-append}
use Rattle.audit_test_serve.specs.Recorder.{RecorderData, recorded_owed}

abbrev as_number : Bool → ℕ
as_number b = cond b 1 0

pub record Replying (begun : RecorderData) (session : ℕ) (ended fed : List Bool) (outputs : List (List ℕ)) : Type 0 where
  pub ended_is : ended ≡ begun.ended
  pub none : (k : ℕ) → k < session → get_or fed k false ≡ false
  pub all : length fed ≡ 16
  pub owes : (k : ℕ) → length (get_or outputs k []) + cond (get_or fed k false) 1 0 ≤ recorded_owed begun k

pub begins : (begun : RecorderData) → length begun.fed ≡ 16 → Replying begun 0 begun.ended begun.fed begun.outputs
begins begun all = record { ended_is = refl; all = all; none = λ k below. absurd (omega (arith, below)); owes = λ k. omega arith }

unset : (fed : List Bool) (k : ℕ) → get_or (set fed k false) k false ≡ false
unset [] k = refl
unset (first ∷ fed) zero = refl
unset (first ∷ fed) (suc k) = unset fed k

set_length : (outputs : List (List ℕ)) (k : ℕ) (bytes : List ℕ) → length (get_or (set outputs k bytes) k []) ≤ length bytes
set_length [] k bytes = omega arith
set_length (first ∷ outputs) zero bytes = omega arith
set_length (first ∷ outputs) (suc k) bytes = set_length outputs k bytes

pub replied : (begun : RecorderData) (s : ℕ) (ended fed : List Bool) (outputs : List (List ℕ)) (bytes : List ℕ) → Replying begun s ended fed outputs → get_or fed s false ≡ true → length bytes ≤ length (get_or outputs s []) + 1 → Replying begun (s + 1) ended (set fed s false) (set outputs s bytes)
replied begun s ended fed outputs bytes was is less = record {
  ended_is = was.ended_is;
  all = length-set fed s false ∙ was.all;
  none = λ k below. elim (cases_eq k s) [
    | inl same ↦ ap (λ (j : ℕ). get_or (set fed s false) j false) same ∙ unset fed s
    | inr apart ↦ get_or-set_other fed s k false false apart ∙ was.none k (omega (arith, below, apart))
  ];
  owes = λ k. elim (cases_eq k s) [
    | inl same ↦
        subst (λ (j : ℕ). length (get_or (set outputs s bytes) j []) + cond (get_or (set fed s false) j false) 1 0 ≤ recorded_owed begun j) (sym same)
        (omega (arith, set_length outputs s bytes, ap as_number (unset fed s), less, was.owes s, ap as_number is))
    | inr apart ↦ omega (arith, was.owes k, ap length (get_or-set_other outputs s k bytes [] apart), ap as_number (get_or-set_other fed s k false false apart))
  ];
}

pub skipped : (begun : RecorderData) (s : ℕ) (ended fed : List Bool) (outputs : List (List ℕ)) → Replying begun s ended fed outputs → get_or fed s false ≡ false → Replying begun (s + 1) ended fed outputs
skipped begun s ended fed outputs was is = record {
  ended_is = was.ended_is;
  all = was.all;
  none = λ k below. elim (cases_eq k s) [
    | inl same ↦ ap (λ (j : ℕ). get_or fed j false) same ∙ is
    | inr apart ↦ was.none k (omega (arith, below, apart))
  ];
  owes = was.owes;
}

-- the same of the outputs as the code has them
pub pushed : {Z : Type 0} (begun : RecorderData) (s : ℕ) (ended fed : List Bool) (outputs : List (Vec ℕ Z)) (at new : Vec ℕ Z) (byte : ℕ) → Replying begun s ended fed (map (λ (v : Vec ℕ Z). v.items) outputs) → s < length outputs → get_or fed s false ≡ true → at ≡ get_or outputs s at
    → new.items ≡ at.items ++ byte ∷ [] → Replying begun (s + 1) ended (set fed s false) (map (λ (v : Vec ℕ Z). v.items) (set outputs s new))
pushed {Z = Z} begun s ended fed outputs at new byte was below is at_is items =
    let before : at.items ≡ get_or (map (λ (v : Vec ℕ Z). v.items) outputs) s [] = ap (λ (v : Vec ℕ Z). v.items) at_is ∙ sym (get_or-map (λ (v : Vec ℕ Z). v.items) outputs s at [] below) in
    subst (Replying begun (s + 1) ended (set fed s false)) (sym (map-set (λ (v : Vec ℕ Z). v.items) outputs s new))
    (replied begun s ended fed (map (λ (v : Vec ℕ Z). v.items) outputs) new.items was is (omega (arith, ap length items, length-append at.items (byte ∷ []), ap length before)))

over : (fed : List Bool) (k : ℕ) → length fed ≤ k → get_or fed k false ≡ false
over [] k all = refl
over (first ∷ fed) zero all = absurd (omega (arith, all))
over (first ∷ fed) (suc k) all = over fed k (omega (arith, all))

pub is_idle : (begun : RecorderData) (s : ℕ) (ended fed : List Bool) (outputs : List (List ℕ)) → Replying begun s ended fed outputs → 16 ≤ s → (k : ℕ) → get_or fed k false ≡ false
is_idle begun s ended fed outputs was all k = by (less_or k 16)
  where
    less_or : (m n : ℕ) → (m < n) ⊎ (n ≤ m)
    less_or m n = search (arith)

    by : (k < 16) ⊎ (16 ≤ k) → get_or fed k false ≡ false
    by (inl less) = was.none k (omega (arith, less, all))
    by (inr more) = over fed k (omega (arith, more, was.all))
