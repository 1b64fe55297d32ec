-- Siblings and paths.
use Rattle.std.proofs.Common.{◌≡◌, ◌≢◌, ℕ, zero, suc, ◌+◌, ◌-◌, ◌*◌, ◌/◌, ◌%◌, ◌^◌, ◌<◌, ◌≤◌, List, [], ◌∷◌, ◌++◌, length, take, drop, refl, sym, ap, ◌∙◌, arith, inl, inr, length-drop, length-take, add-suc, add-one}
use Rattle.std.proofs.lemmas.Bool.{eq-eqb, ne_eqb, cases_eq, cases_lt}
use Rattle.std.proofs.lemmas.List.{drop-drop, append-nil, length-append}
use Rattle.std.proofs.lemmas.Nat.{shr-shr, shr_split, pow_pos, mod_below}
use Rattle.std.proofs.Math.Nat.{pow-suc, mod-eq_of_lt, mul-mod_left, div-eq_of_lt, zero-mul, add-mod_right, zero-mod}
use Rattle.std.proofs.Math.Numerals.{one-add}
use Rattle.std.proofs.Math.Pow.{mod-mod-pow}
use Rattle.audit_tree.specs.Subtree.{subtree_hash, node_at}
use Rattle.audit_tree.specs.Paths.{path, sibling_at, siblings_at}
use Rattle.audit_tree.proofs.Choices.{cond-le, cond-gt, cond-lt, cond-ge}
use Rattle.audit_tree.proofs.SubtreeLemmas.{node_at-subtree_hash}

-- a place that is a multiple of a layer's width
pub aligned_place : (start layer : ℕ) → start % 2 ^ layer ≡ 0 → start / 2 ^ layer * 2 ^ layer ≡ start
aligned_place start layer h = omega (arith, shr_split start layer)

-- the width of a layer divides the places of the next layer and the midpoints between them
pub aligned_below : (start layer : ℕ) → start % 2 ^ suc layer ≡ 0 → start % 2 ^ layer ≡ 0
aligned_below start layer h =
    sym (mod-mod-pow start 1 layer) ∙ ap (λ n. n % 2 ^ layer) (ap (λ k. start % 2 ^ k) (one-add layer) ∙ h) ∙ zero-mod (2 ^ layer)

pub aligned_right : (start layer : ℕ) → start % 2 ^ layer ≡ 0 → (start + 2 ^ layer) % 2 ^ layer ≡ 0
aligned_right start layer h = add-mod_right start (2 ^ layer) ∙ h

-- a node that isn't full isn't a leaf
pub not_leaf : (layer n : ℕ) → 0 < n → n < 2 ^ layer → suc (layer - 1) ≡ layer
not_leaf zero n some h = absurd (omega (arith, h))
not_leaf (suc layer) n some h = omega arith

-- where the node of a layer that holds a place starts
abbrev pub start_of : ℕ → ℕ → ℕ
start_of place layer = place / 2 ^ layer * 2 ^ layer

pub start_of-le : (place layer : ℕ) → start_of place layer ≤ place
start_of-le place layer = omega (arith, shr_split place layer)

pub start_of-near : (place layer : ℕ) → place < start_of place layer + 2 ^ layer
start_of-near place layer = omega (arith, shr_split place layer, mod_below place (2 ^ layer) (pow_pos layer))

pub fitting_start : (place layer : ℕ) → place < 2 ^ 64 → start_of place layer % 2 ^ 64 ≡ start_of place layer
fitting_start place layer h = mod-eq_of_lt (omega (arith, start_of-le place layer))

pub aligned_start : (place layer : ℕ) → start_of place layer % 2 ^ layer ≡ 0
aligned_start place layer = mul-mod_left (place / 2 ^ layer) (2 ^ layer)

-- in the left half of the next layer's node, and in the right half
pub start_of-left : (place layer : ℕ) → place / 2 ^ layer % 2 ≢ 1 → start_of place (suc layer) ≡ start_of place layer
start_of-left place layer even =
    let k = place / 2 ^ layer in
    let up : place / 2 ^ suc layer ≡ k / 2 = ap (λ n. place / 2 ^ n) (sym (add-one layer)) ∙ sym (shr-shr place layer 1) in
    let half : k ≡ 2 * (k / 2) = omega arith in
    ap (λ q. q * 2 ^ suc layer) up
    ∙ ap (λ w. k / 2 * w) (pow-suc 2 layer)
    ∙ (let e : k / 2 * (2 ^ layer * 2) ≡ 2 * (k / 2) * 2 ^ layer = omega arith in e)
    ∙ ap (λ q. q * 2 ^ layer) (sym half)

pub start_of-right : (place layer : ℕ) → place / 2 ^ layer % 2 ≡ 1 →
    start_of place (suc layer) + 2 ^ layer ≡ start_of place layer
start_of-right place layer odd =
    let k = place / 2 ^ layer in
    let up : place / 2 ^ suc layer ≡ k / 2 = ap (λ n. place / 2 ^ n) (sym (add-one layer)) ∙ sym (shr-shr place layer 1) in
    let half : k ≡ 2 * (k / 2) + 1 = omega arith in
    ap (λ q. q * 2 ^ suc layer + 2 ^ layer) up
    ∙ ap (λ w. k / 2 * w + 2 ^ layer) (pow-suc 2 layer)
    ∙ (let e : k / 2 * (2 ^ layer * 2) + 2 ^ layer ≡ (2 * (k / 2) + 1) * 2 ^ layer = omega arith in e)
    ∙ ap (λ q. q * 2 ^ layer) (sym half)

module _ (H : List ℕ → List ℕ) (leaves : List (List ℕ)) (count place : ℕ) where
  pub sibling_at-left : (layer : ℕ) → place / 2 ^ layer % 2 ≡ 1 →
      sibling_at H leaves count place layer ≡ node_at H leaves count (start_of place layer - 2 ^ layer) layer ∷ []
  sibling_at-left layer odd = rw (eq-eqb (place / 2 ^ layer % 2) 1 odd) refl

  pub sibling_at-none : (layer : ℕ) → place / 2 ^ layer % 2 ≢ 1 → count ≤ start_of place layer + 2 ^ layer →
      sibling_at H leaves count place layer ≡ []
  sibling_at-none layer even last =
      rw (ne_eqb (place / 2 ^ layer % 2) 1 even)
      (cond-ge (start_of place layer + 2 ^ layer) count _ _ last)

  pub sibling_at-right : (layer : ℕ) → place / 2 ^ layer % 2 ≢ 1 → start_of place layer + 2 ^ layer < count →
      sibling_at H leaves count place layer ≡ node_at H leaves count (start_of place layer + 2 ^ layer) layer ∷ []
  sibling_at-right layer even more =
      rw (ne_eqb (place / 2 ^ layer % 2) 1 even)
      (cond-lt (start_of place layer + 2 ^ layer) count _ _ more)

  -- a layer contributes at most one sibling
  pub sibling_at-few : (layer : ℕ) → length (sibling_at H leaves count place layer) ≤ 1
  sibling_at-few layer =
      elim (cases_eq (place / 2 ^ layer % 2) 1) [
        | inl odd ↦ omega (arith, ap length (sibling_at-left layer odd))
        | inr even ↦ elim (cases_lt (start_of place layer + 2 ^ layer) count) [
          | inl more ↦ omega (arith, ap length (sibling_at-right layer even more))
          | inr last ↦ omega (arith, ap length (sibling_at-none layer even last))
        ]
      ]

  -- there are at most as many siblings as layers
  pub siblings_at-few : (from height : ℕ) → length (siblings_at H leaves count place from height) ≤ height
  unfolding siblings_at
  siblings_at-few from zero = omega arith
  siblings_at-few from (suc height) =
      omega (
        arith,
        siblings_at-few from height,
        sibling_at-few (from + height),
        length-append (siblings_at H leaves count place from height) (sibling_at H leaves count place (from + height)),
      )

module _ (H : List ℕ → List ℕ) (from : ℕ) where
  pub path-none : (place : ℕ) (leaves : List (List ℕ)) → path H from 0 place leaves ≡ []
  unfolding path
  path-none place leaves = refl

  -- the path up through a node whose right half has no leaves, and through the left and the right half of one that has
  -- leaves in both
  pub path-lone : (height place : ℕ) (leaves : List (List ℕ)) → place < 2 ^ (from + height) → length leaves ≤ 2 ^ (from + height) →
      path H from (suc height) place leaves ≡ path H from height place leaves
  unfolding path
  path-lone height place leaves h last =
      cond-lt place (2 ^ (from + height)) _ _ h
      ∙ ap (λ hs. path H from height place leaves ++ hs) (cond-le (length leaves) (2 ^ (from + height)) _ _ last)
      ∙ append-nil (path H from height place leaves)

  pub path-left : (height place : ℕ) (leaves : List (List ℕ)) → place < 2 ^ (from + height) → 2 ^ (from + height) < length leaves →
      path H from (suc height) place leaves
      ≡ path H from height place leaves ++ subtree_hash H (from + height) (drop (2 ^ (from + height)) leaves) ∷ []
  unfolding path
  path-left height place leaves h more =
      cond-lt place (2 ^ (from + height)) _ _ h
      ∙ ap (λ hs. path H from height place leaves ++ hs) (cond-gt (length leaves) (2 ^ (from + height)) _ _ more)

  pub path-right : (height place : ℕ) (leaves : List (List ℕ)) → 2 ^ (from + height) ≤ place →
      path H from (suc height) place leaves
      ≡ path H from height (place - 2 ^ (from + height)) (drop (2 ^ (from + height)) leaves)
      ++ subtree_hash H (from + height) leaves ∷ []
  unfolding path
  path-right height place leaves h = cond-ge place (2 ^ (from + height)) _ _ h

  -- the path defined by places equals the path over the leaves from the upper node's start on
  pub siblings_at-path : (height place count : ℕ) (leaves : List (List ℕ)) → place < count → count ≤ length leaves →
      siblings_at H leaves count place from height
      ≡ path H from height (place - start_of place (from + height)) (drop (start_of place (from + height)) (take count leaves))
  unfolding path siblings_at
  siblings_at-path zero place count leaves h l = refl
  siblings_at-path (suc height) place count leaves h l =
      let layer = from + height in
      let s = start_of place layer in
      let up = start_of place (suc layer) in
      let zs = take count leaves in
      let lower = siblings_at-path height place count leaves h l in
      let near = start_of-near place layer in
      let begun = start_of-le place layer in
      let long : length (drop up zs) ≡ count - up = omega (arith, length-take count leaves, length-drop up zs) in
      let joined = ap (λ hs. hs ++ sibling_at H leaves count place layer) lower in
      let below = path H from height (place - s) (drop s zs) in
      rw add-suc (elim (cases_eq (place / 2 ^ layer % 2) 1) [
        | inl odd ↦
            (let start = start_of-right place layer odd in
            joined
            ∙ ap (λ hs. below ++ hs) (sibling_at-left H leaves count place layer odd
            ∙ ap (λ n. node_at H leaves count n layer ∷ []) (let e : s - 2 ^ layer ≡ up = omega arith in e)
            ∙ ap (λ v. v ∷ []) (node_at-subtree_hash H layer up count leaves (omega arith) l))
            ∙ ap (λ hs. hs ++ subtree_hash H layer (drop up zs) ∷ [])
            (ap (λ n. path H from height n (drop s zs)) (let e : place - s ≡ place - up - 2 ^ layer = omega arith in e)
            ∙ ap (path H from height (place - up - 2 ^ layer))
            (ap (λ n. drop n zs) (sym start) ∙ sym (drop-drop (2 ^ layer) up zs)))
            ∙ sym (path-right height (place - up) (drop up zs) (omega arith)))
        | inr even ↦
            (let start = start_of-left place layer even in
            let same : below ≡ path H from height (place - up) (drop up zs) =
            ap (λ n. path H from height (place - n) (drop n zs)) (sym start) in
            elim (cases_lt (s + 2 ^ layer) count) [
              | inl more ↦
                  joined
                  ∙ ap (λ hs. below ++ hs) (sibling_at-right H leaves count place layer even more
                  ∙ ap (λ n. node_at H leaves count n layer ∷ []) (let e : s + 2 ^ layer ≡ up + 2 ^ layer = omega arith in e)
                  ∙ ap (λ v. v ∷ []) (node_at-subtree_hash H layer (up + 2 ^ layer) count leaves (omega arith) l
                  ∙ ap (subtree_hash H layer) (sym (drop-drop (2 ^ layer) up zs))))
                  ∙ ap (λ hs. hs ++ subtree_hash H layer (drop (2 ^ layer) (drop up zs)) ∷ []) same
                  ∙ sym (path-left height (place - up) (drop up zs) (omega arith) (omega arith))
              | inr last ↦
                  joined
                  ∙ ap (λ hs. below ++ hs) (sibling_at-none H leaves count place layer even last)
                  ∙ append-nil below
                  ∙ same
                  ∙ sym (path-lone height (place - up) (drop up zs) (omega arith) (omega arith))
            ])
      ])

  -- the same up to a node that starts at place 0
  pub siblings_at-whole : (height place count : ℕ) (leaves : List (List ℕ)) → place < count → count ≤ length leaves →
      count ≤ 2 ^ (from + height) →
      siblings_at H leaves count place from height ≡ path H from height place (take count leaves)
  siblings_at-whole height place count leaves h l top =
      let none : place / 2 ^ (from + height) ≡ 0 = div-eq_of_lt (omega arith) in
      let start : start_of place (from + height) ≡ 0 = ap (λ q. q * 2 ^ (from + height)) none ∙ zero-mul (2 ^ (from + height)) in
      siblings_at-path height place count leaves h l
      ∙ ap (λ n. path H from height (place - n) (drop n (take count leaves))) start
      ∙ ap (λ n. path H from height n (take count leaves)) (let e : place - 0 ≡ place = omega arith in e)

  -- one more layer
  pub siblings_at-more : (leaves : List (List ℕ)) (count place layer : ℕ) → from ≤ layer →
      siblings_at H leaves count place from (layer + 1 - from)
      ≡ siblings_at H leaves count place from (layer - from) ++ sibling_at H leaves count place layer
  unfolding siblings_at
  siblings_at-more leaves count place layer h =
      ap (siblings_at H leaves count place from) (let e : layer + 1 - from ≡ suc (layer - from) = omega arith in e)
      ∙ ap (λ k. siblings_at H leaves count place from (layer - from) ++ sibling_at H leaves count place k)
      (let e : from + (layer - from) ≡ layer = omega arith in e)

  pub siblings_at-zero : (leaves : List (List ℕ)) (count place : ℕ) → siblings_at H leaves count place from 0 ≡ []
  unfolding siblings_at
  siblings_at-zero leaves count place = refl
