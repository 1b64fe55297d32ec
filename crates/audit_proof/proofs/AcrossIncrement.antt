-- The node that an increment shares between two commitments, and a membership's path through it.
use Rattle.std.proofs.Common.{◌≡◌, ℕ, ◌+◌, ◌-◌, ◌%◌, ◌^◌, ◌<◌, ◌≤◌, min, List, [], ◌∷◌, Some, None, drop, sym, ap, ◌∙◌, arith}
use Rattle.std.specs.Int.{w64, trailing_zeros}
use Rattle.audit_tree.specs.Subtree.{depth}
use Rattle.audit_tree.proofs.Depth.{depth-room, depth-least}
use Rattle.audit_tree.proofs.OlderNode.{older_node}
use Rattle.audit_proof.specs.declared.commitment.Commitment.{Commitment}
use Rattle.audit_proof.specs.declared.shared_node.SharedNode.{SharedNode}
use Rattle.audit_proof.specs.declared.steps.Versions.{Versions}
use Rattle.audit_proof.specs.Acceptance.{AcceptsLeaf, roots_from_increment, way_between}
use Rattle.audit_proof.specs.Climb.{Climbed, climb, one_value, whole}
use Rattle.audit_proof.specs.SharedNode.{IsShared, IsSharedByBoth, climbed_both}
use Rattle.audit_proof.proofs.SharedNodes.{go_on, same_reached, climb-through}

-- if a climb uses all hashes, none is left over
whole-some : {V : Type 0} (climbed : Climbed V) (value : V) → whole climbed ≡ Some value → climbed ≡ Some (value, [])
whole-some None value h = absurd (cc h)
whole-some (Some (top, [])) value h = ap (λ v. Some (v, [])) (let e : top ≡ value = cc h in e)
whole-some (Some (top, hash ∷ rest)) value h = absurd (cc h)

-- an older tree is no deeper than a newer one
pub shallower : (older newer : ℕ) → older ≤ newer → depth older ≤ depth newer
shallower older newer order = depth-least older (depth newer) (omega (arith, depth-room newer))

-- the shared node's siblings lead to both roots of an accepted increment
pub shared-roots : (H : List ℕ → List ℕ) (older newer : Commitment) (index : ℕ) (first : List ℕ) (hashes : List (List ℕ)) (node : SharedNode) →
    1 ≤ older.count → older.count ≤ newer.count → newer.count ≤ 2 ^ 24 →
    roots_from_increment H older.count newer.count (first ∷ hashes) ≡ Some (record { older = older.root; newer = newer.root }) →
    IsShared H (depth older.count) (way_between older.count newer.count) index
    (climbed_both H (depth older.count) (way_between older.count newer.count) first hashes) hashes node →
    IsSharedByBoth H older newer index node
shared-roots H older newer index first hashes node some order small roots shared =
    let bottom = older_node older.count newer.count (omega arith) order small in
    let both : Versions = record { older = older.root; newer = newer.root } in
    let climbed = climbed_both H (depth older.count) (way_between older.count newer.count) first hashes in
    let reached = same_reached shared.versions both (drop node.used hashes) [] (sym shared.reached ∙ whole-some climbed both roots) in
    let top : trailing_zeros w64 older.count + (depth newer.count - trailing_zeros w64 older.count) ≡ depth newer.count = omega (arith, bottom.below) in
    let count : older.count - 1 + 1 ≡ older.count = omega arith in
    record {
      inside = shared.inside;
      full = omega (arith, shared.full, count);
      older_root = ap (λ k. climb (one_value H) node.layer (k - node.layer) index older.count node.value node.older_siblings.items)
          (let e : depth older.count ≡ min (trailing_zeros w64 older.count + (depth newer.count - trailing_zeros w64 older.count)) (depth older.count) =
          omega (arith, top, shallower older.count newer.count order) in e)
          ∙ ap (λ n. climb (one_value H) node.layer
          (min (trailing_zeros w64 older.count + (depth newer.count - trailing_zeros w64 older.count)) (depth older.count) - node.layer)
          index n node.value node.older_siblings.items) (sym count)
          ∙ shared.older
          ∙ ap (λ (v : Versions). Some (v.older, [])) reached.0;
      newer_root = ap (λ k. climb (one_value H) node.layer (k - node.layer) index newer.count node.value node.newer_siblings.items) (sym top)
          ∙ shared.newer
          ∙ ap (λ (v : Versions). Some (v.newer, [])) reached.0;
    }

module _ (H : List ℕ → List ℕ) (commitment : Commitment) (index layer : ℕ) (leaf : List ℕ) (hashes : List (List ℕ))
    (inside : layer ≤ depth commitment.count) (full : index - index % 2 ^ layer + 2 ^ layer ≤ commitment.count)
    (accepted : AcceptsLeaf H commitment index leaf hashes) where
  through : go_on (one_value H) layer (depth commitment.count - layer) index commitment.count
      (climb (one_value H) 0 layer (index % 2 ^ layer) (2 ^ layer) leaf hashes) ≡ Some (commitment.root, [])
  through =
      let top : layer + (depth commitment.count - layer) ≡ depth commitment.count = omega (arith, inside) in
      let room : index < 2 ^ (layer + (depth commitment.count - layer)) =
      omega (arith, ap (λ k. 2 ^ k) top, depth-room commitment.count, accepted.within) in
      sym (climb-through (one_value H) layer (depth commitment.count - layer) index commitment.count leaf hashes room full)
      ∙ ap (λ k. climb (one_value H) 0 k index commitment.count leaf hashes) top
      ∙ whole-some _ commitment.root accepted.root

  -- from what an accepted membership reaches at a full node on its path, its last hashes lead to the root
  pub climb-above : (value : List ℕ) (rest : List (List ℕ)) →
      climb (one_value H) 0 layer (index % 2 ^ layer) (2 ^ layer) leaf hashes ≡ Some (value, rest) →
      climb (one_value H) layer (depth commitment.count - layer) index commitment.count value rest ≡ Some (commitment.root, [])
  unfolding go_on
  climb-above value rest h = sym (ap (go_on (one_value H) layer (depth commitment.count - layer) index commitment.count) h) ∙ through

  -- an accepted membership reaches that node
  pub climb-below : climb (one_value H) 0 layer (index % 2 ^ layer) (2 ^ layer) leaf hashes ≡ None → ⊥
  unfolding go_on
  climb-below h =
      let lost : ◌≡◌ {A = Climbed (List ℕ)} None (Some (commitment.root, [])) =
      sym (ap (go_on (one_value H) layer (depth commitment.count - layer) index commitment.count) h) ∙ through in
      cc lost
