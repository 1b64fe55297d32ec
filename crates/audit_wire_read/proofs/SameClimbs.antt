-- Two climbs on one way to one value: they are the same, or the texts of a node on the way are a collision.
use Rattle.std.proofs.Common.{◌≡◌, ◌∙◌, ◌⊎◌, inl, inr, ℕ, zero, suc, ◌+◌, ◌-◌, ◌^◌, ◌<◌, ◌≤◌, List, [], ◌∷◌, ◌++◌, Some, None, length, take, drop, refl, sym, ap, subst, arith, append_assoc, length-append}
use Rattle.std.proofs.lemmas.Bool.{cases_lt}
use Rattle.std.proofs.lemmas.List.{take_at, drop_at}
use Rattle.sha2.specs.Sha256.{sha256}
use Rattle.sha2.proofs.Facts256.{length-sha256}
use Rattle.audit_tree.proofs.Choices.{cond-le, cond-gt, cond-lt, cond-ge}
use Rattle.audit_proof.specs.declared.side.Side.TheVariants.{Left, Right}
use Rattle.audit_proof.specs.declared.steps.Versions.{Versions}
use Rattle.audit_proof.specs.Climb.{Climbed, climb, one_value, two_values, up_alone, up_with}
use Rattle.audit_proof.specs.Collision.{IsCollision}
use Rattle.audit_proof.proofs.ClimbLemmas.{climb-none, climb-alone, climb-right, climb-left}
use Rattle.audit_proof.proofs.SharedNodes.{same_reached}
use Rattle.audit_proof.proofs.SameEntries.{same_or_other}
use Rattle.audit_wire_read.specs.Increments.{text_alone, text_beside, texts_above, TextsCollide}

-- what one layer up came from
up_alone-some : {V : Type 0} (f : V → V) (below : Climbed V) (top : V) (rest : List (List ℕ)) → up_alone f below ≡ Some (top, rest)
    → (value : V) × (below ≡ Some (value, rest)) × (f value ≡ top)
up_alone-some f None top rest h = absurd (cc h)
up_alone-some f (Some (value, left)) top rest h =
    let same = same_reached (f value) top left rest h in
    (value, ap (λ hs. Some (value, hs)) same.1, same.0)

up_with-some : {V : Type 0} (f : V → List ℕ → V) (below : Climbed V) (top : V) (rest : List (List ℕ)) → up_with f below ≡ Some (top, rest)
    → (value : V) × (hash : List ℕ) × (below ≡ Some (value, hash ∷ rest)) × (f value hash ≡ top)
up_with-some f None top rest h = absurd (cc h)
up_with-some f (Some (value, [])) top rest h = absurd (cc h)
up_with-some f (Some (value, hash ∷ left)) top rest h =
    let same = same_reached (f value hash) top left rest h in
    (value, hash, ap (λ hs. Some (value, hash ∷ hs)) same.1, same.0)

-- the newer value of a climb with two values is that of a climb with one
pub newer_climb : (H : List ℕ → List ℕ) (top from height place count : ℕ) (v w : Versions) (hashes rest : List (List ℕ))
    → climb (two_values H top) from height place count v hashes ≡ Some (w, rest) → climb (one_value H) from height place count v.newer hashes ≡ Some (w.newer, rest)
newer_climb H top from zero place count v w hashes rest h =
    let same = same_reached v w hashes rest (sym (climb-none (two_values H top) from place count v hashes) ∙ h) in
    climb-none (one_value H) from place count v.newer hashes ∙ ap (λ (u : Versions). Some (u.newer, hashes)) same.0 ∙ ap (λ hs. Some (w.newer, hs)) same.1
newer_climb H top from (suc height) place count v w hashes rest h =
    let two = two_values H top in
    let one = one_value H in
    let layer = from + height in
    let half = 2 ^ layer in
    elim (cases_lt place half) [
      | inl low ↦ elim (cases_lt half count) [
        | inl both ↦
            (let found = up_with-some (two.with_right layer) _ w rest (sym (climb-right two from height place count v hashes low both) ∙ h) in
            climb-right one from height place count v.newer hashes low both
            ∙ ap (up_with (one.with_right layer)) (newer_climb H top from height place count v found.0 hashes (found.1 ∷ rest) found.2)
            ∙ ap (λ (u : Versions). Some (u.newer, rest)) found.3)
        | inr last ↦
            (let found = up_alone-some (two.alone layer) _ w rest (sym (climb-alone two from height place count v hashes low last) ∙ h) in
            climb-alone one from height place count v.newer hashes low last
            ∙ ap (up_alone (one.alone layer)) (newer_climb H top from height place count v found.0 hashes rest found.1)
            ∙ ap (λ (u : Versions). Some (u.newer, rest)) found.2)
      ]
      | inr high ↦
          (let found = up_with-some (two.with_left layer) _ w rest (sym (climb-left two from height place count v hashes high) ∙ h) in
          climb-left one from height place count v.newer hashes high
          ∙ ap (up_with (one.with_left layer)) (newer_climb H top from height (place - half) (count - half) v found.0 hashes (found.1 ∷ rest) found.2)
          ∙ ap (λ (u : Versions). Some (u.newer, rest)) found.3)
    ]

-- what a climb from a hash reaches is a hash
climbed_length : (from height place count : ℕ) (value root : List ℕ) (hashes rest : List (List ℕ)) → length value ≡ 32
    → climb (one_value sha256) from height place count value hashes ≡ Some (root, rest) → length root ≡ 32
climbed_length from zero place count value root hashes rest long h =
    ap length (sym (same_reached value root hashes rest (sym (climb-none (one_value sha256) from place count value hashes) ∙ h)).0) ∙ long
climbed_length from (suc height) place count value root hashes rest long h =
    let one = one_value sha256 in
    let layer = from + height in
    let half = 2 ^ layer in
    elim (cases_lt place half) [
      | inl low ↦ elim (cases_lt half count) [
        | inl both ↦
            (let found = up_with-some (one.with_right layer) _ root rest (sym (climb-right one from height place count value hashes low both) ∙ h) in
            ap length (sym found.3) ∙ length-sha256 (1 ∷ (found.0 ++ found.1)))
        | inr last ↦
            (let found = up_alone-some (one.alone layer) _ root rest (sym (climb-alone one from height place count value hashes low last) ∙ h) in
            ap length (sym found.2) ∙ length-sha256 (1 ∷ (found.0 ++ [])))
      ]
      | inr high ↦
          (let found = up_with-some (one.with_left layer) _ root rest (sym (climb-left one from height place count value hashes high) ∙ h) in
          ap length (sym found.3) ∙ length-sha256 (1 ∷ (found.1 ++ found.0)))
    ]

-- the text at the top of a climb, and those below it
module _ (from height place count : ℕ) (value : List ℕ) (hashes : List (List ℕ)) where
  texts-alone : place < 2 ^ (from + height) → count ≤ 2 ^ (from + height)
      → texts_above from (suc height) place count value hashes
      ≡ text_alone (climb (one_value sha256) from height place count value hashes) ∷ texts_above from height place count value hashes
  unfolding texts_above
  texts-alone low last =
      cond-lt place (2 ^ (from + height)) _ _ low
      ∙ ap (λ text. text ∷ texts_above from height place count value hashes) (cond-le count (2 ^ (from + height)) _ _ last)

  texts-right : place < 2 ^ (from + height) → 2 ^ (from + height) < count
      → texts_above from (suc height) place count value hashes
      ≡ text_beside Right (climb (one_value sha256) from height place count value hashes) ∷ texts_above from height place count value hashes
  unfolding texts_above
  texts-right low more =
      cond-lt place (2 ^ (from + height)) _ _ low
      ∙ ap (λ text. text ∷ texts_above from height place count value hashes) (cond-gt count (2 ^ (from + height)) _ _ more)

  texts-left : 2 ^ (from + height) ≤ place
      → texts_above from (suc height) place count value hashes
      ≡ text_beside Left (climb (one_value sha256) from height (place - 2 ^ (from + height)) (count - 2 ^ (from + height)) value hashes)
      ∷ texts_above from height (place - 2 ^ (from + height)) (count - 2 ^ (from + height)) value hashes
  unfolding texts_above
  texts-left high = cond-ge place (2 ^ (from + height)) _ _ high

-- two climbs began with one value, and took the same hashes
pub record IsSameClimb (v w : List ℕ) (hashes others rest left : List (List ℕ)) : Type 0 where
  pub value : v ≡ w
  pub used : List (List ℕ)
  pub first : hashes ≡ used ++ rest
  pub second : others ≡ used ++ left

same_text : (p q : List ℕ) → sha256 p ≡ sha256 q → (p ≡ q) ⊎ IsCollision sha256 p q
same_text p q same = elim (same_or_other p q) [
  | inl equal ↦ inl equal
  | inr other ↦ inr record { different = other; same = same }
]

tail_is : (p q : List ℕ) → 1 ∷ p ≡ 1 ∷ q → p ≡ q
tail_is p q same = ap (drop 1) same

same_parts : (p q rest left : List ℕ) → length p ≡ length q → p ++ rest ≡ q ++ left → (p ≡ q) × (rest ≡ left)
same_parts p q rest left long same = (
  sym (take_at p rest (length p) refl) ∙ ap (take (length p)) same ∙ take_at q left (length p) (sym long),
  sym (drop_at p rest (length p) refl) ∙ ap (drop (length p)) same ∙ drop_at q left (length p) (sym long),
)

-- a hash more that both took
one_more : (v w : List ℕ) (hashes others rest left : List (List ℕ)) (hash : List ℕ) → IsSameClimb v w hashes others (hash ∷ rest) (hash ∷ left)
    → IsSameClimb v w hashes others rest left
one_more v w hashes others rest left hash same = record {
  value = same.value;
  used = same.used ++ hash ∷ [];
  first = same.first ∙ sym (append_assoc same.used (hash ∷ []) rest);
  second = same.second ∙ sym (append_assoc same.used (hash ∷ []) left);
}

-- a collision at the top, or below it
at_top : {all others : List (List ℕ)} (text other : List ℕ) (texts more : List (List ℕ)) → all ≡ text ∷ texts → others ≡ other ∷ more → IsCollision sha256 text other
    → TextsCollide all others
at_top {all = all} {others = others} text other texts more same also collide =
    subst (λ ts. TextsCollide ts others) (sym same) (subst (λ ts. TextsCollide (text ∷ texts) ts) (sym also) (inl collide))

below_top : {all others : List (List ℕ)} (text other : List ℕ) (texts more : List (List ℕ)) → all ≡ text ∷ texts → others ≡ other ∷ more → TextsCollide texts more
    → TextsCollide all others
below_top {all = all} {others = others} text other texts more same also collide =
    subst (λ ts. TextsCollide ts others) (sym same) (subst (λ ts. TextsCollide (text ∷ texts) ts) (sym also) (inr collide))

pub same_climb : (from height place count : ℕ) (v w root : List ℕ) (hashes others rest left : List (List ℕ)) → length v ≡ 32 → length w ≡ 32
    → climb (one_value sha256) from height place count v hashes ≡ Some (root, rest) → climb (one_value sha256) from height place count w others ≡ Some (root, left)
    → IsSameClimb v w hashes others rest left ⊎ TextsCollide (texts_above from height place count v hashes) (texts_above from height place count w others)
same_climb from zero place count v w root hashes others rest left long also first second =
    let one = same_reached v root hashes rest (sym (climb-none (one_value sha256) from place count v hashes) ∙ first) in
    let two = same_reached w root others left (sym (climb-none (one_value sha256) from place count w others) ∙ second) in
    inl record { value = one.0 ∙ sym two.0; used = []; first = one.1; second = two.1 }
same_climb from (suc height) place count v w root hashes others rest left long also first second =
    let one = one_value sha256 in
    let layer = from + height in
    let half = 2 ^ layer in
    elim (cases_lt place half) [
      | inl low ↦ elim (cases_lt half count) [
        | inl both ↦
            (let f = up_with-some (one.with_right layer) _ root rest (sym (climb-right one from height place count v hashes low both) ∙ first) in
            let s = up_with-some (one.with_right layer) _ root left (sym (climb-right one from height place count w others low both) ∙ second) in
            let lf = climbed_length from height place count v f.0 hashes (f.1 ∷ rest) long f.2 in
            let ls = climbed_length from height place count w s.0 others (s.1 ∷ left) also s.2 in
            let tf = texts-right from height place count v hashes low both in
            let ts = texts-right from height place count w others low both in
            elim (same_text (1 ∷ (f.0 ++ f.1)) (1 ∷ (s.0 ++ s.1)) (f.3 ∙ sym s.3)) [
              | inr collide ↦ inr (at_top (1 ∷ (f.0 ++ f.1)) (1 ∷ (s.0 ++ s.1)) _ _
                  (tf ∙ ap (λ c. text_beside Right c ∷ texts_above from height place count v hashes) f.2)
                  (ts ∙ ap (λ c. text_beside Right c ∷ texts_above from height place count w others) s.2) collide)
              | inl same ↦
                  (let parts = same_parts f.0 s.0 f.1 s.1 (lf ∙ sym ls) (tail_is _ _ same) in
                  let moved : climb one from height place count w others ≡ Some (f.0, f.1 ∷ left) =
                  s.2 ∙ ap (λ u. Some (u, s.1 ∷ left)) (sym parts.0) ∙ ap (λ h. Some (f.0, h ∷ left)) (sym parts.1) in
                  elim (same_climb from height place count v w f.0 hashes others (f.1 ∷ rest) (f.1 ∷ left) long also f.2 moved) [
                    | inl is ↦ inl (one_more v w hashes others rest left f.1 is)
                    | inr collide ↦ inr (below_top _ _ _ _ tf ts collide)
                  ])
            ])
        | inr last ↦
            (let f = up_alone-some (one.alone layer) _ root rest (sym (climb-alone one from height place count v hashes low last) ∙ first) in
            let s = up_alone-some (one.alone layer) _ root left (sym (climb-alone one from height place count w others low last) ∙ second) in
            let lf = climbed_length from height place count v f.0 hashes rest long f.1 in
            let ls = climbed_length from height place count w s.0 others left also s.1 in
            let tf = texts-alone from height place count v hashes low last in
            let ts = texts-alone from height place count w others low last in
            elim (same_text (1 ∷ (f.0 ++ [])) (1 ∷ (s.0 ++ [])) (f.2 ∙ sym s.2)) [
              | inr collide ↦ inr (at_top (1 ∷ (f.0 ++ [])) (1 ∷ (s.0 ++ [])) _ _
                  (tf ∙ ap (λ c. text_alone c ∷ texts_above from height place count v hashes) f.1)
                  (ts ∙ ap (λ c. text_alone c ∷ texts_above from height place count w others) s.1) collide)
              | inl same ↦
                  (let parts = same_parts f.0 s.0 [] [] (lf ∙ sym ls) (tail_is _ _ same) in
                  let moved : climb one from height place count w others ≡ Some (f.0, left) = s.1 ∙ ap (λ u. Some (u, left)) (sym parts.0) in
                  elim (same_climb from height place count v w f.0 hashes others rest left long also f.1 moved) [
                    | inl is ↦ inl is
                    | inr collide ↦ inr (below_top _ _ _ _ tf ts collide)
                  ])
            ])
      ]
      | inr high ↦
          (let p = place - half in
          let n = count - half in
          let f = up_with-some (one.with_left layer) _ root rest (sym (climb-left one from height place count v hashes high) ∙ first) in
          let s = up_with-some (one.with_left layer) _ root left (sym (climb-left one from height place count w others high) ∙ second) in
          let lf = climbed_length from height p n v f.0 hashes (f.1 ∷ rest) long f.2 in
          let ls = climbed_length from height p n w s.0 others (s.1 ∷ left) also s.2 in
          let tf = texts-left from height place count v hashes high in
          let ts = texts-left from height place count w others high in
          elim (same_text (1 ∷ (f.1 ++ f.0)) (1 ∷ (s.1 ++ s.0)) (f.3 ∙ sym s.3)) [
            | inr collide ↦ inr (at_top (1 ∷ (f.1 ++ f.0)) (1 ∷ (s.1 ++ s.0)) _ _
                (tf ∙ ap (λ c. text_beside Left c ∷ texts_above from height p n v hashes) f.2)
                (ts ∙ ap (λ c. text_beside Left c ∷ texts_above from height p n w others) s.2) collide)
            | inl same ↦
                (let texts = tail_is _ _ same in
                let long_hash : length f.1 ≡ length s.1 = omega (arith, ap length texts, length-append f.1 f.0, length-append s.1 s.0, lf, ls) in
                let parts = same_parts f.1 s.1 f.0 s.0 long_hash texts in
                let moved : climb one from height p n w others ≡ Some (f.0, f.1 ∷ left) =
                s.2 ∙ ap (λ u. Some (u, s.1 ∷ left)) (sym parts.1) ∙ ap (λ h. Some (f.0, h ∷ left)) (sym parts.0) in
                elim (same_climb from height p n v w f.0 hashes others (f.1 ∷ rest) (f.1 ∷ left) long also f.2 moved) [
                  | inl is ↦ inl (one_more v w hashes others rest left f.1 is)
                  | inr collide ↦ inr (below_top _ _ _ _ tf ts collide)
                ])
          ])
    ]
