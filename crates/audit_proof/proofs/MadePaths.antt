-- The proofs that a tree makes climb to its root.
use Rattle.std.proofs.Common.{◌≡◌, ℕ, zero, suc, ◌+◌, ◌-◌, ◌*◌, ◌/◌, ◌^◌, ◌<◌, ◌≤◌, List, [], ◌∷◌, ◌++◌, Some, length, drop, cond, ltb, sym, ap, ◌∙◌, arith, inl, inr, add-zero, add-suc, length-drop}
use Rattle.std.proofs.lemmas.Nat.{pow_pos, pow-add}
use Rattle.std.proofs.Math.Nat.{pow-suc, div-eq_of_lt, zero-mul, add-mul-div_right}
use Rattle.std.proofs.lemmas.Bool.{cases_lt}
use Rattle.std.proofs.lemmas.List.{append_assoc, drop-drop}
use Rattle.audit_tree.specs.Subtree.{subtree_hash}
use Rattle.audit_tree.specs.Paths.{path}
use Rattle.audit_tree.proofs.Choices.{cond-lt, cond-ge}
use Rattle.audit_tree.proofs.PathLemmas.{start_of, start_of-le, path-none, path-lone, path-left, path-right}
use Rattle.audit_proof.specs.Climb.{Steps, climb, up_alone, up_with}
use Rattle.audit_proof.proofs.ClimbLemmas.{climb-none, climb-alone, climb-right, climb-left}

-- What a tree has at the node of a layer that holds a place is made, by one step, of what it has one layer below and
-- the sibling's hash
pub record IsMadeBy {V : Type 0} (H : List ℕ → List ℕ) (steps : Steps V) (limit : ℕ)
    (made : ℕ → ℕ → List (List ℕ) → V) : Type 0 where
  pub alone : (layer place : ℕ) (leaves : List (List ℕ)) → place < limit → place < length leaves →
      place < 2 ^ layer → length leaves ≤ 2 ^ layer →
      steps.alone layer (made layer place leaves) ≡ made (suc layer) place leaves
  pub right : (layer place : ℕ) (leaves : List (List ℕ)) → place < limit → place < length leaves →
      place < 2 ^ layer → 2 ^ layer < length leaves →
      steps.with_right layer (made layer place leaves) (subtree_hash H layer (drop (2 ^ layer) leaves))
      ≡ made (suc layer) place leaves
  pub left : (layer place : ℕ) (leaves : List (List ℕ)) → place < limit → place < length leaves →
      2 ^ layer ≤ place →
      steps.with_left layer (made layer (place - 2 ^ layer) (drop (2 ^ layer) leaves)) (subtree_hash H layer leaves)
      ≡ made (suc layer) place leaves

-- the position of a place in its node, counted from a node that begins half a width earlier
start_of-after : (from height place : ℕ) → 2 ^ (from + height) ≤ place →
    start_of place from ≡ 2 ^ (from + height) + start_of (place - 2 ^ (from + height)) from
start_of-after from height place h =
    let half = 2 ^ (from + height) in
    let w = 2 ^ from in
    let p = place - half in
    let wide : half ≡ 2 ^ height * w = pow-add 2 from height ∙ omega arith in
    let back : place ≡ p + 2 ^ height * w = omega arith in
    let quotient : place / w ≡ p / w + 2 ^ height = ap (λ n. n / w) back ∙ add-mul-div_right p (2 ^ height) (pow_pos from) in
    ap (λ q. q * w) quotient ∙ omega (arith, wide)

module _ {V : Type 0} (made : ℕ → ℕ → List (List ℕ) → V) (from : ℕ) where
  -- what the tree has at the node of layer `from` on the path down to a place
  pub way : ℕ → ℕ → List (List ℕ) → V
  way zero place leaves = made from place leaves
  way (suc height) place leaves =
      cond (ltb place (2 ^ (from + height))) (way height place leaves)
      (way height (place - 2 ^ (from + height)) (drop (2 ^ (from + height)) leaves))

  way-low : (height place : ℕ) (leaves : List (List ℕ)) → place < 2 ^ (from + height) →
      way (suc height) place leaves ≡ way height place leaves
  unfolding way
  way-low height place leaves h = cond-lt place (2 ^ (from + height)) _ _ h

  way-high : (height place : ℕ) (leaves : List (List ℕ)) → 2 ^ (from + height) ≤ place →
      way (suc height) place leaves ≡ way height (place - 2 ^ (from + height)) (drop (2 ^ (from + height)) leaves)
  unfolding way
  way-high height place leaves h = cond-ge place (2 ^ (from + height)) _ _ h

  -- what the path has at a layer is what the tree has at the start of the node
  pub way-start : (height place : ℕ) (leaves : List (List ℕ)) → place < 2 ^ (from + height) →
      way height place leaves ≡ made from (place - start_of place from) (drop (start_of place from) leaves)
  unfolding way
  way-start zero place leaves h =
      let low : place < 2 ^ from = omega (arith, ap (λ k. 2 ^ k) (add-zero from)) in
      let start : start_of place from ≡ 0 = ap (λ q. q * 2 ^ from) (div-eq_of_lt low) ∙ zero-mul (2 ^ from) in
      let whole_place : place - 0 ≡ place = omega arith in
      sym (ap (λ n. made from (place - n) (drop n leaves)) start ∙ ap (λ n. made from n leaves) whole_place)
  way-start (suc height) place leaves h =
      let half = 2 ^ (from + height) in
      elim (cases_lt place half) [
        | inl low ↦ way-low height place leaves low ∙ way-start height place leaves low
        | inr high ↦
            (let start = start_of-after from height place high in
            let wide : 2 ^ (from + suc height) ≡ half * 2 = ap (λ k. 2 ^ k) (add-suc from height) ∙ pow-suc 2 (from + height) in
            let within : place - half < half = omega arith in
            let below = start_of-le (place - half) from in
            let left : place - half - start_of (place - half) from ≡ place - start_of place from = omega arith in
            way-high height place leaves high
            ∙ way-start height (place - half) (drop half leaves) within
            ∙ ap (λ n. made from n (drop (start_of (place - half) from) (drop half leaves))) left
            ∙ ap (made from (place - start_of place from)) (drop-drop (start_of (place - half) from) half leaves ∙ ap (λ n. drop n leaves) (sym start)))
      ]

module _ {V : Type 0} (H : List ℕ → List ℕ) (steps : Steps V) (limit : ℕ) (made : ℕ → ℕ → List (List ℕ) → V)
    (laws : IsMadeBy H steps limit made) (from : ℕ) where
  -- climbing with the siblings leads from what the tree has at a node to what it has at the upper node
  pub climb-path : (height place : ℕ) (leaves rest : List (List ℕ)) → place < limit → place < length leaves →
      climb steps from height place (length leaves) (way made from height place leaves) (path H from height place leaves ++ rest)
      ≡ Some (made (from + height) place leaves, rest)
  unfolding way
  climb-path zero place leaves rest low h =
      climb-none steps from place (length leaves) (made from place leaves) (path H from 0 place leaves ++ rest)
      ∙ ap (λ hs. Some (made from place leaves, hs ++ rest)) (path-none H from place leaves)
      ∙ ap (λ k. Some (made k place leaves, rest)) (sym (add-zero from))
  climb-path (suc height) place leaves rest low h =
      let layer = from + height in
      let half = 2 ^ layer in
      let value = way made from (suc height) place leaves in
      let top : suc layer ≡ from + suc height = sym (add-suc from height) in
      elim (cases_lt place half) [
        | inl under ↦
            (let value_is : way made from (suc height) place leaves ≡ way made from height place leaves =
            way-low made from height place leaves under in
            elim (cases_lt half (length leaves)) [
              | inl more ↦
                  (let sibling = subtree_hash H layer (drop half leaves) in
                  ap (λ v. climb steps from (suc height) place (length leaves) v (path H from (suc height) place leaves ++ rest)) value_is
                  ∙ ap (climb steps from (suc height) place (length leaves) (way made from height place leaves))
                  (ap (λ hs. hs ++ rest) (path-left H from height place leaves under more)
                  ∙ append_assoc (path H from height place leaves) (sibling ∷ []) rest)
                  ∙ climb-right steps from height place (length leaves) (way made from height place leaves)
                  (path H from height place leaves ++ sibling ∷ rest) under more
                  ∙ ap (up_with (steps.with_right layer)) (climb-path height place leaves (sibling ∷ rest) low h)
                  ∙ ap (λ v. Some (v, rest)) (laws.right layer place leaves low h under more ∙ ap (λ k. made k place leaves) top))
              | inr last ↦
                  ap (λ v. climb steps from (suc height) place (length leaves) v (path H from (suc height) place leaves ++ rest)) value_is
                  ∙ ap (λ hs. climb steps from (suc height) place (length leaves) (way made from height place leaves) (hs ++ rest))
                  (path-lone H from height place leaves under last)
                  ∙ climb-alone steps from height place (length leaves) (way made from height place leaves)
                  (path H from height place leaves ++ rest) under last
                  ∙ ap (up_alone (steps.alone layer)) (climb-path height place leaves rest low h)
                  ∙ ap (λ v. Some (v, rest)) (laws.alone layer place leaves low h under last ∙ ap (λ k. made k place leaves) top)
            ])
        | inr over ↦
            (let value_is = way-high made from height place leaves over in
            let lower = drop half leaves in
            let long : length lower ≡ length leaves - half = length-drop half leaves in
            let sibling = subtree_hash H layer leaves in
            ap (λ v. climb steps from (suc height) place (length leaves) v (path H from (suc height) place leaves ++ rest)) value_is
            ∙ ap (climb steps from (suc height) place (length leaves) (way made from height (place - half) lower))
            (ap (λ hs. hs ++ rest) (path-right H from height place leaves over)
            ∙ append_assoc (path H from height (place - half) lower) (sibling ∷ []) rest)
            ∙ climb-left steps from height place (length leaves) (way made from height (place - half) lower)
            (path H from height (place - half) lower ++ sibling ∷ rest) over
            ∙ ap (λ n. up_with (steps.with_left layer) (climb steps from height (place - half) n (way made from height (place - half) lower)
            (path H from height (place - half) lower ++ sibling ∷ rest))) (sym long)
            ∙ ap (up_with (steps.with_left layer)) (climb-path height (place - half) lower (sibling ∷ rest) (omega arith) (omega arith))
            ∙ ap (λ v. Some (v, rest)) (laws.left layer place leaves low h over ∙ ap (λ k. made k place leaves) top))
      ]
