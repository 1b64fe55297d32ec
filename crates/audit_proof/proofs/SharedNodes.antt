-- The node that both trees of an increment share, one layer up, and the climb of a membership through it.
use Rattle.std.proofs.Common.{◌≡◌, ℕ, zero, suc, ◌+◌, ◌-◌, ◌*◌, ◌%◌, ◌^◌, ◌<◌, ◌≤◌, min, cond, ltb, Result, Ok, Err, Option, List, [], ◌∷◌, ◌++◌, Some, None, drop, refl, sym, ap, ◌∙◌, arith, inl, inr, add-zero, zero-add, add-suc}
use Rattle.std.specs.Prelude.{IfOk}
use Rattle.std.proofs.lemmas.Bool.{cases_lt}
use Rattle.std.proofs.lemmas.Nat.{pow_pos, pow-add}
use Rattle.std.proofs.Math.Nat.{pow-suc, mod-eq_of_lt, mod-le, add-mul-mod_self_right}
use Rattle.std.proofs.Math.Pow.{pow_mono}
use Rattle.audit_tree.specs.Subtree.{parent_of}
use Rattle.audit_tree.proofs.Choices.{cond-lt, cond-ge}
use Rattle.audit_proof.specs.declared.climb.Way.{Way}
use Rattle.audit_proof.specs.declared.shared_node.SharedNode.{SharedNode}
use Rattle.audit_proof.specs.declared.steps.Versions.{Versions}
use Rattle.audit_proof.specs.Climb.{Climbed, Steps, climb, one_value, two_values, up_alone, up_with}
use Rattle.audit_proof.specs.SharedNode.{IsShared, Shares, IsOverLeft, IsOverRight, OverLeft, OverRight, IsLeftHalf, LeftHalf, climbed_both}
use Rattle.audit_proof.proofs.ClimbLemmas.{climb-none, climb-alone, climb-right, climb-left}

-- the parts of what is reached
pub same_reached : {V : Type 0} (v w : V) (xs ys : List (List ℕ)) → ◌≡◌ {A = Climbed V} (Some (v, xs)) (Some (w, ys)) → (v ≡ w) × (xs ≡ ys)
same_reached {V} v w xs ys h =
    let one : V × List (List ℕ) = (v, xs) in
    let other : V × List (List ℕ) = (w, ys) in
    let same : one ≡ other = cc h in
    (ap (λ (p : V × List (List ℕ)). p.0) same, ap (λ (p : V × List (List ℕ)). p.1) same)

-- adding half the width of a higher layer doesn't change a place's position in its node of this layer
pub mod-after : (layer above place : ℕ) → layer ≤ above → 2 ^ above ≤ place → (place - 2 ^ above) % 2 ^ layer ≡ place % 2 ^ layer
mod-after layer above place low over =
    let w = 2 ^ layer in
    let up : above - layer + layer ≡ above = omega arith in
    let wide : 2 ^ above ≡ 2 ^ (above - layer) * w = ap (λ k. 2 ^ k) (sym up) ∙ pow-add 2 (above - layer) layer in
    let back : place ≡ place - 2 ^ above + 2 ^ (above - layer) * w = omega (arith, wide) in
    sym (ap (λ n. n % w) back ∙ add-mul-mod_self_right (place - 2 ^ above) (2 ^ (above - layer)) w)

-- what one layer up without a hash came from
up_alone-some : {V : Type 0} (f : V → V) (below : Climbed V) (top : V) (rest : List (List ℕ)) → up_alone f below ≡ Some (top, rest) →
    (value : V) × (below ≡ Some (value, rest)) × (f value ≡ top)
up_alone-some f None top rest h = absurd (cc h)
up_alone-some f (Some (value, left)) top rest h =
    let same = same_reached (f value) top left rest h in
    (value, ap (λ hs. Some (value, hs)) same.1, same.0)

up_with-some : {V : Type 0} (f : V → List ℕ → V) (below : Climbed V) (top : V) (rest : List (List ℕ)) → up_with f below ≡ Some (top, rest) →
    (value : V) × (hash : List ℕ) × (below ≡ Some (value, hash ∷ rest)) × (f value hash ≡ top)
up_with-some f None top rest h = absurd (cc h)
up_with-some f (Some (value, [])) top rest h = absurd (cc h)
up_with-some f (Some (value, hash ∷ left)) top rest h =
    let same = same_reached (f value hash) top left rest h in
    (value, hash, ap (λ hs. Some (value, hash ∷ hs)) same.1, same.0)

up_with-none : {V : Type 0} (f : V → List ℕ → V) (below : Climbed V) →
    ((value : V) (hash : List ℕ) (rest : List (List ℕ)) → below ≡ Some (value, hash ∷ rest) → ⊥) → up_with f below ≡ None
up_with-none f None lost = refl
up_with-none f (Some (value, [])) lost = refl
up_with-none f (Some (value, hash ∷ rest)) lost = absurd (lost value hash rest refl)

module _ {V : Type 0} (steps : Steps V) (from : ℕ) where
  -- hashes that a climb doesn't use are left over
  pub climb-more : (height place count : ℕ) (value : V) (hashes more : List (List ℕ)) (top : V) (rest : List (List ℕ)) →
      climb steps from height place count value hashes ≡ Some (top, rest) →
      climb steps from height place count value (hashes ++ more) ≡ Some (top, rest ++ more)
  climb-more zero place count value hashes more top rest h =
      let same = same_reached value top hashes rest (sym (climb-none steps from place count value hashes) ∙ h) in
      climb-none steps from place count value (hashes ++ more)
      ∙ ap (λ v. Some (v, hashes ++ more)) same.0
      ∙ ap (λ hs. Some (top, hs ++ more)) same.1
  climb-more (suc height) place count value hashes more top rest h =
      let half = 2 ^ (from + height) in
      elim (cases_lt place half) [
        | inl low ↦ elim (cases_lt half count) [
          | inl both ↦
              (let found = up_with-some (steps.with_right (from + height)) _ top rest (sym (climb-right steps from height place count value hashes low both) ∙ h) in
              climb-right steps from height place count value (hashes ++ more) low both
              ∙ ap (up_with (steps.with_right (from + height))) (climb-more height place count value hashes more found.0 (found.1 ∷ rest) found.2)
              ∙ ap (λ v. Some (v, rest ++ more)) found.3)
          | inr last ↦
              (let found = up_alone-some (steps.alone (from + height)) _ top rest (sym (climb-alone steps from height place count value hashes low last) ∙ h) in
              climb-alone steps from height place count value (hashes ++ more) low last
              ∙ ap (up_alone (steps.alone (from + height))) (climb-more height place count value hashes more found.0 rest found.1)
              ∙ ap (λ v. Some (v, rest ++ more)) found.2)
        ]
        | inr high ↦
            (let found = up_with-some (steps.with_left (from + height)) _ top rest (sym (climb-left steps from height place count value hashes high) ∙ h) in
            climb-left steps from height place count value (hashes ++ more) high
            ∙ ap (up_with (steps.with_left (from + height))) (climb-more height (place - half) (count - half) value hashes more found.0 (found.1 ∷ rest) found.2)
            ∙ ap (λ v. Some (v, rest ++ more)) found.3)
      ]

  -- leaves after a full node don't affect a climb in it
  pub climb-full : (height place count : ℕ) (value : V) (hashes : List (List ℕ)) → place < 2 ^ (from + height) → 2 ^ (from + height) ≤ count →
      climb steps from height place count value hashes ≡ climb steps from height place (2 ^ (from + height)) value hashes
  climb-full zero place count value hashes h full =
      climb-none steps from place count value hashes ∙ sym (climb-none steps from place (2 ^ (from + zero)) value hashes)
  climb-full (suc height) place count value hashes h full =
      let half = 2 ^ (from + height) in
      let width : 2 ^ (from + suc height) ≡ 2 * half = ap (λ k. 2 ^ k) (add-suc from height) ∙ pow-suc 2 (from + height) ∙ omega arith in
      let some : 0 < half = pow_pos (from + height) in
      elim (cases_lt place half) [
        | inl low ↦
            climb-right steps from height place count value hashes low (omega (arith, width))
            ∙ ap (up_with (steps.with_right (from + height)))
            (climb-full height place count value hashes low (omega (arith, width))
            ∙ sym (climb-full height place (2 ^ (from + suc height)) value hashes low (omega (arith, width))))
            ∙ sym (climb-right steps from height place (2 ^ (from + suc height)) value hashes low (omega (arith, width)))
        | inr high ↦
            climb-left steps from height place count value hashes high
            ∙ ap (up_with (steps.with_left (from + height)))
            (climb-full height (place - half) (count - half) value hashes (omega (arith, width)) (omega (arith, width))
            ∙ sym (climb-full height (place - half) (2 ^ (from + suc height) - half) value hashes (omega (arith, width)) (omega (arith, width))))
            ∙ sym (climb-left steps from height place (2 ^ (from + suc height)) value hashes high)
      ]

module _ {V : Type 0} (steps : Steps V) (layer : ℕ) where
  -- the climb continued from what was reached at a layer
  unfoldable pub go_on : ℕ → ℕ → ℕ → Climbed V → Climbed V
  go_on height place count None = None
  go_on height place count (Some (value, rest)) = climb steps layer height place count value rest

  go_on-none : (place count : ℕ) (below : Climbed V) → go_on 0 place count below ≡ below
  unfolding go_on
  go_on-none place count None = refl
  go_on-none place count (Some (value, rest)) = climb-none steps layer place count value rest

  go_on-alone : (height place count : ℕ) (below : Climbed V) → place < 2 ^ (layer + height) → count ≤ 2 ^ (layer + height) →
      go_on (suc height) place count below ≡ up_alone (steps.alone (layer + height)) (go_on height place count below)
  unfolding go_on
  go_on-alone height place count None low last = refl
  go_on-alone height place count (Some (value, rest)) low last = climb-alone steps layer height place count value rest low last

  go_on-right : (height place count : ℕ) (below : Climbed V) → place < 2 ^ (layer + height) → 2 ^ (layer + height) < count →
      go_on (suc height) place count below ≡ up_with (steps.with_right (layer + height)) (go_on height place count below)
  unfolding go_on
  go_on-right height place count None low more = refl
  go_on-right height place count (Some (value, rest)) low more = climb-right steps layer height place count value rest low more

  go_on-left : (height place count : ℕ) (below : Climbed V) → 2 ^ (layer + height) ≤ place →
      go_on (suc height) place count below
      ≡ up_with (steps.with_left (layer + height)) (go_on height (place - 2 ^ (layer + height)) (count - 2 ^ (layer + height)) below)
  unfolding go_on
  go_on-left height place count None high = refl
  go_on-left height place count (Some (value, rest)) high = climb-left steps layer height place count value rest high

  -- a climb from a leaf goes through the full node of a layer that holds it
  pub climb-through : (height place count : ℕ) (value : V) (hashes : List (List ℕ)) →
      place < 2 ^ (layer + height) → place - place % 2 ^ layer + 2 ^ layer ≤ count →
      climb steps 0 (layer + height) place count value hashes
      ≡ go_on height place count (climb steps 0 layer (place % 2 ^ layer) (2 ^ layer) value hashes)
  climb-through zero place count value hashes h full =
      let here : layer + 0 ≡ layer = add-zero layer in
      let bottom : 0 + layer ≡ layer = zero-add layer in
      let low : place < 2 ^ layer = omega (arith, h, ap (λ k. 2 ^ k) here) in
      let same : place % 2 ^ layer ≡ place = mod-eq_of_lt low in
      ap (λ k. climb steps 0 k place count value hashes) here
      ∙ climb-full steps 0 layer place count value hashes (omega (arith, low, ap (λ k. 2 ^ k) bottom)) (omega (arith, full, same, ap (λ k. 2 ^ k) bottom))
      ∙ ap (λ k. climb steps 0 layer place (2 ^ k) value hashes) bottom
      ∙ ap (λ p. climb steps 0 layer p (2 ^ layer) value hashes) (sym same)
      ∙ sym (go_on-none place count (climb steps 0 layer (place % 2 ^ layer) (2 ^ layer) value hashes))
  climb-through (suc height) place count value hashes h full =
      let above = layer + height in
      let half = 2 ^ above in
      let low_climb = climb steps 0 layer (place % 2 ^ layer) (2 ^ layer) value hashes in
      let up : layer + suc height ≡ suc above = add-suc layer height in
      let bottom : 0 + above ≡ above = zero-add above in
      let half_is : 2 ^ (0 + above) ≡ half = ap (λ k. 2 ^ k) bottom in
      let width : 2 ^ (layer + suc height) ≡ 2 * half = ap (λ k. 2 ^ k) up ∙ pow-suc 2 above ∙ omega arith in
      ap (λ k. climb steps 0 k place count value hashes) up
      ∙ elim (cases_lt place half) [
        | inl low ↦ elim (cases_lt half count) [
          | inl more ↦
              climb-right steps 0 above place count value hashes (omega (arith, half_is)) (omega (arith, half_is))
              ∙ ap (λ k. up_with (steps.with_right k) (climb steps 0 above place count value hashes)) bottom
              ∙ ap (up_with (steps.with_right above)) (climb-through height place count value hashes low full)
              ∙ sym (go_on-right height place count low_climb low more)
          | inr last ↦
              climb-alone steps 0 above place count value hashes (omega (arith, half_is)) (omega (arith, half_is))
              ∙ ap (λ k. up_alone (steps.alone k) (climb steps 0 above place count value hashes)) bottom
              ∙ ap (up_alone (steps.alone above)) (climb-through height place count value hashes low full)
              ∙ sym (go_on-alone height place count low_climb low last)
        ]
        | inr high ↦
            (let same : (place - half) % 2 ^ layer ≡ place % 2 ^ layer = mod-after layer above place (omega arith) high in
            let below_is : climb steps 0 above (place - half) (count - half) value hashes ≡ go_on height (place - half) (count - half) low_climb =
            climb-through height (place - half) (count - half) value hashes (omega (arith, h, width)) (omega (arith, full, same, high, mod-le place (2 ^ layer)))
            ∙ ap (λ p. go_on height (place - half) (count - half) (climb steps 0 layer p (2 ^ layer) value hashes)) same in
            climb-left steps 0 above place count value hashes (omega (arith, half_is))
            ∙ ap (λ k. up_with (steps.with_left k) (climb steps 0 above (place - 2 ^ k) (count - 2 ^ k) value hashes)) bottom
            ∙ ap (up_with (steps.with_left above)) below_is
            ∙ sym (go_on-left height place count low_climb high))
      ]

-- One layer up from a node, from this layer to the next, with one value.
module _ (H : List ℕ → List ℕ) (layer above : ℕ) (low : layer ≤ above) where
  reach : layer + (above - layer) ≡ above
  reach = omega (arith, low)

  next : suc above - layer ≡ suc (above - layer)
  next = omega (arith, low)

  one-left : (index count : ℕ) (value hash root : List ℕ) (hashes : List (List ℕ)) → 2 ^ above ≤ index →
      climb (one_value H) layer (above - layer) (index - 2 ^ above) (count - 2 ^ above) value hashes ≡ Some (root, []) →
      climb (one_value H) layer (suc above - layer) index count value (hashes ++ hash ∷ []) ≡ Some (parent_of H hash root, [])
  one-left index count value hash root hashes high h =
      let steps = one_value H in
      let width : 2 ^ (layer + (above - layer)) ≡ 2 ^ above = ap (λ k. 2 ^ k) reach in
      ap (λ k. climb steps layer k index count value (hashes ++ hash ∷ [])) next
      ∙ climb-left steps layer (above - layer) index count value (hashes ++ hash ∷ []) (omega (arith, width))
      ∙ ap (λ n. up_with (steps.with_left 0) (climb steps layer (above - layer) (index - n) (count - n) value (hashes ++ hash ∷ []))) width
      ∙ ap (up_with (steps.with_left 0)) (climb-more steps layer (above - layer) (index - 2 ^ above) (count - 2 ^ above) value hashes (hash ∷ []) root [] h)

  one-right : (index count : ℕ) (value hash root : List ℕ) (hashes : List (List ℕ)) → index < 2 ^ above → 2 ^ above < count →
      climb (one_value H) layer (above - layer) index count value hashes ≡ Some (root, []) →
      climb (one_value H) layer (suc above - layer) index count value (hashes ++ hash ∷ []) ≡ Some (parent_of H root hash, [])
  one-right index count value hash root hashes under more h =
      let steps = one_value H in
      let width : 2 ^ (layer + (above - layer)) ≡ 2 ^ above = ap (λ k. 2 ^ k) reach in
      ap (λ k. climb steps layer k index count value (hashes ++ hash ∷ [])) next
      ∙ climb-right steps layer (above - layer) index count value (hashes ++ hash ∷ []) (omega (arith, width)) (omega (arith, width))
      ∙ ap (up_with (steps.with_right 0)) (climb-more steps layer (above - layer) index count value hashes (hash ∷ []) root [] h)

  one-alone : (index count : ℕ) (value root : List ℕ) (hashes : List (List ℕ)) → index < 2 ^ above → count ≤ 2 ^ above →
      climb (one_value H) layer (above - layer) index count value hashes ≡ Some (root, []) →
      climb (one_value H) layer (suc above - layer) index count value hashes ≡ Some (parent_of H root [], [])
  one-alone index count value root hashes under last h =
      let steps = one_value H in
      let width : 2 ^ (layer + (above - layer)) ≡ 2 ^ above = ap (λ k. 2 ^ k) reach in
      ap (λ k. climb steps layer k index count value hashes) next
      ∙ climb-alone steps layer (above - layer) index count value hashes (omega (arith, width)) (omega (arith, width))
      ∙ ap (up_alone (steps.alone 0)) h

  -- in a tree of this depth the value stops at its root's layer
  older-up : (top index count : ℕ) (value root : List ℕ) (hashes : List (List ℕ)) → layer ≤ top → index < 2 ^ above → count ≤ 2 ^ above →
      climb (one_value H) layer (min above top - layer) index count value hashes ≡ Some (root, []) →
      climb (one_value H) layer (min (suc above) top - layer) index count value hashes
      ≡ Some (cond (ltb above top) (parent_of H root []) root, [])
  older-up top index count value root hashes inside under last h =
      let steps = one_value H in
      elim (cases_lt above top) [
        | inl below ↦
            (let here : min above top - layer ≡ above - layer = omega arith in
            let up : min (suc above) top - layer ≡ suc above - layer = omega arith in
            ap (λ k. climb steps layer k index count value hashes) up
            ∙ one-alone index count value root hashes under last (ap (λ k. climb steps layer k index count value hashes) (sym here) ∙ h)
            ∙ ap (λ v. Some (v, [])) (sym (cond-lt above top _ _ below)))
        | inr over ↦
            (let same : min (suc above) top - layer ≡ min above top - layer = omega arith in
            ap (λ k. climb steps layer k index count value hashes) same
            ∙ h
            ∙ ap (λ v. Some (v, [])) (sym (cond-ge above top _ _ over)))
      ]

-- where the path of an increment begins, the node is the one that ends the older tree
pub shared-first : (H : List ℕ → List ℕ) (top : ℕ) (way : Way) (index : ℕ) (first : List ℕ) (hashes : List (List ℕ)) (node : SharedNode) →
    way.height ≡ 0 → way.place < 2 ^ (way.from + way.height) → index ≤ way.place → way.from ≤ top → (way.place + 1) % 2 ^ way.from ≡ 0 →
    node.layer ≡ way.from → node.value ≡ first → node.older_siblings.items ≡ [] → node.newer_siblings.items ≡ [] → node.used ≡ 0 →
    IsShared H top way index (climbed_both H top way first hashes) hashes node
shared-first H top way index first hashes node flat room order begun ended layer value older newer used =
    let here : way.from + way.height ≡ way.from = omega (arith, flat) in
    let width : 2 ^ (way.from + way.height) ≡ 2 ^ way.from = ap (λ k. 2 ^ k) here in
    let node_width : 2 ^ node.layer ≡ 2 ^ way.from = ap (λ k. 2 ^ k) layer in
    let start : index % 2 ^ node.layer ≡ index = mod-eq_of_lt (omega (arith, width, node_width)) in
    let last : 2 ^ way.from ≤ way.place + 1 = elim (cases_lt (way.place + 1) (2 ^ way.from)) [
      | inl less ↦ absurd (omega (arith, ended, mod-eq_of_lt less))
      | inr fine ↦ fine
    ] in
    let climbs = λ (layers count : ℕ) (siblings : List (List ℕ)) (none : siblings ≡ []) (tall : layers - node.layer ≡ 0).
    ap (λ k. climb (one_value H) node.layer k index count node.value siblings) tall
    ∙ climb-none (one_value H) node.layer index count node.value siblings
    ∙ ap (λ v. Some (v, siblings)) value
    ∙ ap (λ hs. Some (first, hs)) none in
    record {
      low = omega (arith, here, layer);
      inside = omega (arith, layer, begun);
      full = omega (arith, start, last, node_width);
      versions = record { older = first; newer = first };
      reached = ap (λ k. climb (two_values H top) way.from k way.place way.count (let v : Versions = record { older = first; newer = first } in v) hashes) flat
          ∙ climb-none (two_values H top) way.from way.place way.count (let v : Versions = record { older = first; newer = first } in v) hashes
          ∙ ap (λ n. Some ((let v : Versions = record { older = first; newer = first } in v), drop n hashes)) (sym used);
      used = omega (arith, used);
      older = climbs (min (way.from + way.height) top) (way.place + 1) node.older_siblings.items older (omega (arith, here, layer, begun));
      newer = climbs (way.from + way.height) way.count node.newer_siblings.items newer (omega (arith, here, layer));
    }

-- One layer up on the path of an increment.
module _ (H : List ℕ → List ℕ) (top : ℕ) (way : Way) (height half index : ℕ) (first : List ℕ) (hashes : List (List ℕ))
    (up : suc height ≡ way.height) (half_is : half ≡ 2 ^ (way.from + height)) where
  abbrev pub left_way : Way
  left_way = record { from = way.from; height = height; place = way.place; count = way.count }

  abbrev pub right_way : Way
  right_way = record { from = way.from; height = height; place = way.place - half; count = way.count - half }

  abbrev both : Versions
  both = record { older = first; newer = first }

  both-left : half ≤ way.place →
      climbed_both H top way first hashes
      ≡ up_with ((two_values H top).with_left (way.from + height)) (climbed_both H top right_way first hashes)
  both-left high =
      let steps = two_values H top in
      ap (λ k. climb steps way.from k way.place way.count both hashes) (sym up)
      ∙ climb-left steps way.from height way.place way.count both hashes (omega (arith, half_is))
      ∙ ap (λ n. up_with (steps.with_left (way.from + height)) (climb steps way.from height (way.place - n) (way.count - n) both hashes)) (sym half_is)

  both-right : way.place < half → half < way.count →
      climbed_both H top way first hashes
      ≡ up_with ((two_values H top).with_right (way.from + height)) (climbed_both H top left_way first hashes)
  both-right low more =
      let steps = two_values H top in
      ap (λ k. climb steps way.from k way.place way.count both hashes) (sym up)
      ∙ climb-right steps way.from height way.place way.count both hashes (omega (arith, half_is)) (omega (arith, half_is))

  both-alone : way.place < half → way.count ≤ half →
      climbed_both H top way first hashes
      ≡ up_alone ((two_values H top).alone (way.from + height)) (climbed_both H top left_way first hashes)
  both-alone low last =
      let steps = two_values H top in
      ap (λ k. climb steps way.from k way.place way.count both hashes) (sym up)
      ∙ climb-alone steps way.from height way.place way.count both hashes (omega (arith, half_is)) (omega (arith, half_is))

  -- if nothing was reached below, nothing is reached above
  pub lost-left : half ≤ way.place → climbed_both H top right_way first hashes ≡ None → climbed_both H top way first hashes ≡ None
  lost-left high h = both-left high ∙ ap (up_with ((two_values H top).with_left (way.from + height))) h

  pub lost-right : way.place < half → climbed_both H top left_way first hashes ≡ None → climbed_both H top way first hashes ≡ None
  lost-right low h = elim (cases_lt half way.count) [
    | inl more ↦ both-right low more ∙ ap (up_with ((two_values H top).with_right (way.from + height))) h
    | inr last ↦ both-alone low last ∙ ap (up_alone ((two_values H top).alone (way.from + height))) h
  ]

  layers : way.from + way.height ≡ suc (way.from + height)
  layers = ap (λ k. way.from + k) (sym up) ∙ add-suc way.from height

  -- a place in the older tree's right half is below its root
  below_root : half ≤ way.place → way.place < 2 ^ top → way.from + height < top
  below_root high older = elim (cases_lt (way.from + height) top) [
    | inl fine ↦ fine
    | inr above ↦ absurd (omega (arith, half_is, pow_mono above))
  ]

  -- the node one layer up with the next hash on its left
  pub shared-left : (node over : SharedNode) → half ≤ way.place → half ≤ index → index ≤ way.place → way.place < 2 ^ top →
      IsShared H top right_way (index - half) (climbed_both H top right_way first hashes) hashes node → IsOverLeft hashes node over →
      IsShared H top way index (climbed_both H top way first hashes) hashes over
  shared-left node over high after order older shared taken =
      let steps = two_values H top in
      let above = way.from + height in
      let root = below_root high older in
      let versions = steps.with_left above shared.versions taken.hash in
      let width : 2 ^ over.layer ≡ 2 ^ node.layer = ap (λ k. 2 ^ k) taken.layer in
      let same : (index - half) % 2 ^ node.layer ≡ index % 2 ^ node.layer =
      ap (λ n. (index - n) % 2 ^ node.layer) half_is ∙ mod-after node.layer above index shared.low (omega (arith, half_is)) in
      let start : index % 2 ^ over.layer ≡ index % 2 ^ node.layer = ap (λ n. index % n) width in
      let climbs = λ (layers count count_below : ℕ) (siblings below : List (List ℕ)) (value : List ℕ)
      (joined : siblings ≡ below ++ taken.hash ∷ []) (counts : count_below ≡ count - 2 ^ above) (tall : layers ≡ suc above)
      (known : climb (one_value H) node.layer (above - node.layer) (index - half) count_below node.value below ≡ Some (value, [])).
      ap (λ k. climb (one_value H) k (layers - k) index count over.value siblings) taken.layer
      ∙ ap (λ v. climb (one_value H) node.layer (layers - node.layer) index count v siblings) taken.value
      ∙ ap (λ hs. climb (one_value H) node.layer (layers - node.layer) index count node.value hs) joined
      ∙ ap (λ k. climb (one_value H) node.layer (k - node.layer) index count node.value (below ++ taken.hash ∷ [])) tall
      ∙ one-left H node.layer above shared.low index count node.value taken.hash value below (omega (arith, half_is))
      (ap (λ n. climb (one_value H) node.layer (above - node.layer) (index - n) (count - 2 ^ above) node.value below) (sym half_is)
      ∙ ap (λ n. climb (one_value H) node.layer (above - node.layer) (index - half) n node.value below) (sym counts)
      ∙ known) in
      record {
        low = omega (arith, taken.layer, shared.low, layers);
        inside = omega (arith, taken.layer, shared.inside);
        full = omega (arith, shared.full, same, start, width, high, after, mod-le index (2 ^ node.layer));
        versions = versions;
        reached = both-left high ∙ ap (up_with (steps.with_left above)) shared.reached
            ∙ ap (λ hs. up_with (steps.with_left above) (Some (shared.versions, hs))) taken.taken;
        used = taken.used;
        older = climbs (min (way.from + way.height) top) (way.place + 1) (way.place - half + 1) over.older_siblings.items node.older_siblings.items
            shared.versions.older taken.older (omega (arith, half_is, high)) (omega (arith, layers, root))
            (ap (λ k. climb (one_value H) node.layer (k - node.layer) (index - half) (way.place - half + 1) node.value node.older_siblings.items)
            (let e : above ≡ min above top = omega (arith, root) in e) ∙ shared.older);
        newer = climbs (way.from + way.height) way.count (way.count - half) over.newer_siblings.items node.newer_siblings.items
            shared.versions.newer taken.newer (ap (λ n. way.count - n) half_is) layers shared.newer;
      }

  -- with the next hash on its right
  pub shared-right : (node over : SharedNode) → way.place < half → half < way.count → index ≤ way.place →
      IsShared H top left_way index (climbed_both H top left_way first hashes) hashes node → IsOverRight hashes node over →
      IsShared H top way index (climbed_both H top way first hashes) hashes over
  shared-right node over low more order shared taken =
      let steps = two_values H top in
      let above = way.from + height in
      let width : 2 ^ over.layer ≡ 2 ^ node.layer = ap (λ k. 2 ^ k) taken.layer in
      let start : index % 2 ^ over.layer ≡ index % 2 ^ node.layer = ap (λ n. index % n) width in
      let moved = λ (layers count : ℕ) (siblings below : List (List ℕ)) (joined : siblings ≡ below).
      ap (λ k. climb (one_value H) k (layers - k) index count over.value siblings) taken.layer
      ∙ ap (λ v. climb (one_value H) node.layer (layers - node.layer) index count v siblings) taken.value
      ∙ ap (λ hs. climb (one_value H) node.layer (layers - node.layer) index count node.value hs) joined in
      record {
        low = omega (arith, taken.layer, shared.low, layers);
        inside = omega (arith, taken.layer, shared.inside);
        full = omega (arith, shared.full, start, width);
        versions = steps.with_right above shared.versions taken.hash;
        reached = both-right low more ∙ ap (up_with (steps.with_right above)) shared.reached
            ∙ ap (λ hs. up_with (steps.with_right above) (Some (shared.versions, hs))) taken.taken;
        used = taken.used;
        older = moved (min (way.from + way.height) top) (way.place + 1) over.older_siblings.items node.older_siblings.items taken.older
            ∙ ap (λ k. climb (one_value H) node.layer (min k top - node.layer) index (way.place + 1) node.value node.older_siblings.items) layers
            ∙ older-up H node.layer above shared.low top index (way.place + 1) node.value shared.versions.older node.older_siblings.items shared.inside
            (omega (arith, half_is)) (omega (arith, half_is)) shared.older;
        newer = moved (way.from + way.height) way.count over.newer_siblings.items (node.newer_siblings.items ++ taken.hash ∷ []) taken.newer
            ∙ ap (λ k. climb (one_value H) node.layer (k - node.layer) index way.count node.value (node.newer_siblings.items ++ taken.hash ∷ [])) layers
            ∙ one-right H node.layer above shared.low index way.count node.value taken.hash shared.versions.newer node.newer_siblings.items
            (omega (arith, half_is)) (omega (arith, half_is)) shared.newer;
      }

  -- with no hash
  pub shared-alone : (node : SharedNode) → way.place < half → way.count ≤ half → index ≤ way.place →
      IsShared H top left_way index (climbed_both H top left_way first hashes) hashes node →
      IsShared H top way index (climbed_both H top way first hashes) hashes node
  shared-alone node low last order shared =
      let steps = two_values H top in
      let above = way.from + height in
      record {
        low = omega (arith, shared.low, layers);
        inside = shared.inside;
        full = shared.full;
        versions = steps.alone above shared.versions;
        reached = both-alone low last ∙ ap (up_alone (steps.alone above)) shared.reached;
        used = shared.used;
        older = ap (λ k. climb (one_value H) node.layer (min k top - node.layer) index (way.place + 1) node.value node.older_siblings.items) layers
            ∙ older-up H node.layer above shared.low top index (way.place + 1) node.value shared.versions.older node.older_siblings.items shared.inside
            (omega (arith, half_is)) (omega (arith, half_is)) shared.older;
        newer = ap (λ k. climb (one_value H) node.layer (k - node.layer) index way.count node.value node.newer_siblings.items) layers
            ∙ one-alone H node.layer above shared.low index way.count node.value shared.versions.newer node.newer_siblings.items
            (omega (arith, half_is)) (omega (arith, half_is)) shared.newer;
      }

  -- the left half itself, if the index is in it and the path isn't
  pub shared-half : (node : SharedNode) → half ≤ way.place → way.place < way.count → index < half → way.place < 2 ^ top →
      IsLeftHalf (way.from + height) (climbed_both H top right_way first hashes) hashes node →
      IsShared H top way index (climbed_both H top way first hashes) hashes node
  shared-half node high within under older lower =
      let steps = two_values H top in
      let above = way.from + height in
      let root = below_root high older in
      let width : 2 ^ node.layer ≡ half = ap (λ k. 2 ^ k) lower.layer ∙ sym half_is in
      let start : index % 2 ^ node.layer ≡ index = mod-eq_of_lt (omega (arith, width)) in
      let climbs = λ (layers count : ℕ) (siblings : List (List ℕ)) (sibling : List ℕ) (joined : siblings ≡ sibling ∷ []) (tall : layers ≡ suc above)
      (wide : half < count).
      ap (λ hs. climb (one_value H) node.layer (layers - node.layer) index count node.value hs) joined
      ∙ ap (λ k. climb (one_value H) node.layer (k - node.layer) index count node.value (sibling ∷ [])) (tall ∙ ap suc (sym lower.layer))
      ∙ one-right H node.layer node.layer (omega arith) index count node.value sibling node.value [] (omega (arith, width)) (omega (arith, width))
      (ap (λ k. climb (one_value H) node.layer k index count node.value []) (let e : node.layer - node.layer ≡ 0 = omega arith in e)
      ∙ climb-none (one_value H) node.layer index count node.value []) in
      record {
        low = omega (arith, lower.layer, layers);
        inside = omega (arith, lower.layer, root);
        full = omega (arith, start, width, high);
        versions = steps.with_left above lower.versions node.value;
        reached = both-left high ∙ ap (up_with (steps.with_left above)) lower.reached;
        used = lower.used;
        older = climbs (min (way.from + way.height) top) (way.place + 1) node.older_siblings.items lower.versions.older lower.older
            (omega (arith, layers, root)) (omega (arith, high));
        newer = climbs (way.from + way.height) way.count node.newer_siblings.items lower.versions.newer lower.newer layers (omega (arith, high, within));
      }

  -- if no hash is left for the left half, nothing is reached
  pub none-left : half ≤ way.place → (node : SharedNode) → drop node.used hashes ≡ [] →
      IsShared H top right_way (index - half) (climbed_both H top right_way first hashes) hashes node →
      climbed_both H top way first hashes ≡ None
  none-left high node empty shared =
      let f = (two_values H top).with_left (way.from + height) in
      both-left high ∙ ap (up_with f) shared.reached ∙ ap (λ hs. up_with f (Some (shared.versions, hs))) empty

  pub none-right : way.place < half → half < way.count → (node : SharedNode) → drop node.used hashes ≡ [] →
      IsShared H top left_way index (climbed_both H top left_way first hashes) hashes node →
      climbed_both H top way first hashes ≡ None
  none-right low more node empty shared =
      let f = (two_values H top).with_right (way.from + height) in
      both-right low more ∙ ap (up_with f) shared.reached ∙ ap (λ hs. up_with f (Some (shared.versions, hs))) empty

  pub none-half : half ≤ way.place →
      ((versions : Versions) (hash : List ℕ) (rest : List (List ℕ)) → climbed_both H top right_way first hashes ≡ Some (versions, hash ∷ rest) → ⊥) →
      climbed_both H top way first hashes ≡ None
  none-half high lost =
      let f = (two_values H top).with_left (way.from + height) in
      both-left high ∙ up_with-none f (climbed_both H top right_way first hashes) lost

  -- the same for the result of a function
  pub shares-half : {E : Type 0} (result : Result (Option SharedNode) E) →
      half ≤ way.place → way.place < way.count → index < half → way.place < 2 ^ top →
      IfOk result (LeftHalf (way.from + height) (climbed_both H top right_way first hashes) hashes) →
      IfOk result (Shares H top way index (climbed_both H top way first hashes) hashes)
  shares-half (Ok None) high within under older h = none-half high h
  shares-half (Ok (Some node)) high within under older h = shared-half node high within under older h
  shares-half (Err e) high within under older h = h

  pub shares-left : {E : Type 0} (result : Result (Option SharedNode) E) (node : SharedNode) →
      half ≤ way.place → half ≤ index → index ≤ way.place → way.place < 2 ^ top →
      IsShared H top right_way (index - half) (climbed_both H top right_way first hashes) hashes node →
      IfOk result (OverLeft hashes node) →
      IfOk result (Shares H top way index (climbed_both H top way first hashes) hashes)
  shares-left (Ok None) node high after order older shared h = none-left high node h shared
  shares-left (Ok (Some over)) node high after order older shared h = shared-left node over high after order older shared h
  shares-left (Err e) node high after order older shared h = h

  pub shares-right : {E : Type 0} (result : Result (Option SharedNode) E) (node : SharedNode) →
      way.place < half → half < way.count → index ≤ way.place →
      IsShared H top left_way index (climbed_both H top left_way first hashes) hashes node →
      IfOk result (OverRight hashes node) →
      IfOk result (Shares H top way index (climbed_both H top way first hashes) hashes)
  shares-right (Ok None) node low more order shared h = none-right low more node h shared
  shares-right (Ok (Some over)) node low more order shared h = shared-right node over low more order shared h
  shares-right (Err e) node low more order shared h = h
