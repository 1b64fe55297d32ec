-- The incremental proof that a tree makes is accepted under its roots.
use Rattle.std.proofs.Common.{◌≡◌, ℕ, suc, ◌+◌, ◌-◌, ◌*◌, ◌/◌, ◌%◌, ◌^◌, ◌<◌, ◌≤◌, min, cond, ltb, List, [], ◌++◌, Some, length, take, drop, refl, sym, ap, ◌∙◌, arith, inl, inr, length-drop}
use Rattle.std.specs.Int.{w64, trailing_zeros}
use Rattle.std.proofs.lemmas.Bool.{cases_lt}
use Rattle.std.proofs.lemmas.List.{append-nil, drop-take, length-take-le}
use Rattle.std.proofs.lemmas.Nat.{pow_pos, div-mul-add}
use Rattle.std.proofs.Math.Pow.{pow_mono}
use Rattle.sha2.specs.Sha256.{sha256}
use Rattle.audit_tree.specs.Subtree.{subtree_hash, parent_of, depth, root_of}
use Rattle.audit_tree.specs.Paths.{path, increment_path}
use Rattle.audit_tree.proofs.Choices.{cond-lt, cond-ge}
use Rattle.audit_tree.proofs.Depth.{depth-room, depth-least}
use Rattle.audit_tree.proofs.OlderNode.{older_node}
use Rattle.audit_tree.proofs.PathLemmas.{aligned_place, start_of}
use Rattle.audit_tree.proofs.SubtreeLemmas.{subtree_hash-lone, subtree_hash-pair, subtree_hash-take, root_of-some}
use Rattle.audit_proof.specs.declared.commitment.Commitment.{Commitment}
use Rattle.audit_proof.specs.declared.steps.Versions.{Versions}
use Rattle.audit_proof.specs.Climb.{climb, two_values, whole}
use Rattle.audit_proof.specs.Acceptance.{AcceptsIncrement, IsMadeIncrement, roots_from_increment}
use Rattle.audit_proof.proofs.MadePaths.{IsMadeBy, way, way-start, climb-path}

module _ (H : List ℕ → List ℕ) (top : ℕ) where
  -- the node's value in the older tree, which ends at this place, and in the newer one
  pub both_made : ℕ → ℕ → List (List ℕ) → Versions
  both_made layer place leaves = record {
    older = subtree_hash H (min layer top) (take (suc place) leaves);
    newer = subtree_hash H layer leaves;
  }

  both_made-is : (layer place : ℕ) (leaves : List (List ℕ)) (older newer : List ℕ) →
      older ≡ subtree_hash H (min layer top) (take (suc place) leaves) → newer ≡ subtree_hash H layer leaves →
      (let v : Versions = record { older = older; newer = newer } in v) ≡ both_made layer place leaves
  unfolding both_made
  both_made-is layer place leaves older newer p q = cc

  -- the older value one layer up, if the node has no right sibling
  older-up : (layer place : ℕ) (leaves : List (List ℕ)) → place < length leaves → place < 2 ^ layer →
      cond (ltb layer top) (parent_of H (subtree_hash H (min layer top) (take (suc place) leaves)) []) (subtree_hash H (min layer top) (take (suc place) leaves))
      ≡ subtree_hash H (min (suc layer) top) (take (suc place) leaves)
  older-up layer place leaves h under =
      let mine = take (suc place) leaves in
      let long : length mine ≡ suc place = length-take-le (suc place) leaves h in
      elim (cases_lt layer top) [
        | inl low ↦
            (let here : min layer top ≡ layer = omega arith in
            let up : min (suc layer) top ≡ suc layer = omega arith in
            cond-lt layer top _ _ low
            ∙ ap (λ k. parent_of H (subtree_hash H k mine) []) here
            ∙ sym (subtree_hash-lone H layer mine (omega arith))
            ∙ ap (λ k. subtree_hash H k mine) (sym up))
        | inr high ↦
            (let same : min layer top ≡ min (suc layer) top = omega arith in
            cond-ge layer top _ _ high ∙ ap (λ k. subtree_hash H k mine) same)
      ]

  pub two_values-IsMadeBy : IsMadeBy H (two_values H top) (2 ^ top) both_made
  unfolding both_made
  two_values-IsMadeBy = record {
    alone = λ layer place leaves low h under last.
        both_made-is (suc layer) place leaves _ _ (older-up layer place leaves h under) (sym (subtree_hash-lone H layer leaves last));
    right = λ layer place leaves low h under more.
        both_made-is (suc layer) place leaves _ _ (older-up layer place leaves h under) (sym (subtree_hash-pair H layer leaves more));
    left = λ layer place leaves low h over.
        let half = 2 ^ layer in
        let mine = take (suc place) leaves in
        let long : length mine ≡ suc place = length-take-le (suc place) leaves h in
        let below : layer < top = (elim (cases_lt layer top) [
          | inl fine ↦ fine
          | inr above ↦ absurd (omega (arith, pow_mono above))
        ]) in
        let here : min layer top ≡ layer = omega arith in
        let up : min (suc layer) top ≡ suc layer = omega arith in
        let rest : take (suc (place - half)) (drop half leaves) ≡ drop half mine =
        ap (λ n. take n (drop half leaves)) (let e : suc (place - half) ≡ suc place - half = omega arith in e)
        ∙ sym (ap (λ n. drop half (take n leaves)) (let e : suc place ≡ half + (suc place - half) = omega arith in e)
        ∙ drop-take half (suc place - half) leaves) in
        both_made-is (suc layer) place leaves _ _
        (ap (λ k. parent_of H (subtree_hash H layer leaves) (subtree_hash H k (take (suc (place - half)) (drop half leaves)))) here
        ∙ ap (λ xs. parent_of H (subtree_hash H layer leaves) (subtree_hash H layer xs)) rest
        ∙ ap (λ a. parent_of H a (subtree_hash H layer (drop half mine))) (sym (subtree_hash-take H layer (suc place) leaves (omega arith) h))
        ∙ sym (subtree_hash-pair H layer mine (omega arith))
        ∙ ap (λ k. subtree_hash H k mine) (sym up))
        (sym (subtree_hash-pair H layer leaves (omega arith)));
  }

-- where the last full node of the older tree starts
older-start : (older layer : ℕ) → 2 ^ layer ≤ older → (older - 2 ^ layer) % 2 ^ layer ≡ 0 →
    start_of (older - 1) layer ≡ older - 2 ^ layer
older-start older layer h aligned =
    let w = 2 ^ layer in
    let s = older - w in
    let some : 0 < w = pow_pos layer in
    let start = aligned_place s layer aligned in
    let place : older - 1 ≡ s / w * w + (w - 1) = omega arith in
    ap (λ n. n / w * w) place
    ∙ ap (λ q. q * w) (div-mul-add (s / w) w (w - 1) (omega arith))
    ∙ start

-- The roots that a made proof gives
pub made_roots : (leaves : List (List ℕ)) (older : ℕ) → 1 ≤ older → older ≤ length leaves → length leaves ≤ 2 ^ 24 →
    roots_from_increment sha256 older (length leaves) (increment_path sha256 leaves older)
    ≡ Some (record { older = root_of sha256 (take older leaves); newer = root_of sha256 leaves })
made_roots leaves older some order small =
    let H = sha256 in
    let newer = length leaves in
    let layer = trailing_zeros w64 older in
    let top = depth older in
    let height = depth newer - layer in
    let w = 2 ^ layer in
    let start = older - w in
    let place = older - 1 in
    let node = older_node older newer some order small in
    let own = older_node older older some (omega arith) (omega arith) in
    let positive : 0 < w = pow_pos layer in
    let first = subtree_hash H layer (drop start leaves) in
    let made = both_made H top in
    let begun = older-start older layer node.width node.aligned in
    let full : layer + height ≡ depth newer = omega (arith, node.below) in
    let inside : place < 2 ^ (layer + height) = rw full (omega (arith, depth-room newer)) in
    let last : place - start ≡ w - 1 = omega (arith, node.width) in
    let after : length (drop start leaves) ≡ newer - start = length-drop start leaves in
    let fits : w ≤ length (drop start leaves) = omega (arith, node.width) in
    let low : min layer top ≡ layer = omega (arith, own.below) in
    let both : Versions = record { older = first; newer = first } in
    let back : suc (w - 1) ≡ w = omega arith in
    let older_first : first ≡ subtree_hash H (min layer top) (take (suc (w - 1)) (drop start leaves)) =
    sym (ap (λ k. subtree_hash H k (take (suc (w - 1)) (drop start leaves))) low
    ∙ ap (λ n. subtree_hash H layer (take n (drop start leaves))) back
    ∙ subtree_hash-take H layer w (drop start leaves) (omega arith) fits) in
    let bottom : way made layer height place leaves ≡ both =
    way-start made layer height place leaves inside
    ∙ ap (λ n. made layer (place - n) (drop n leaves)) begun
    ∙ ap (λ n. made layer n (drop start leaves)) last
    ∙ sym (both_made-is H top layer (w - 1) (drop start leaves) first first older_first refl) in
    let above : min (depth newer) top ≡ top = omega (arith, depth-least older (depth newer) (omega (arith, depth-room newer))) in
    let mine = take older leaves in
    let long : length mine ≡ older = length-take-le older leaves order in
    let whole_place : older ≡ suc place = omega arith in
    let older_root : root_of H mine ≡ subtree_hash H (min (depth newer) top) (take (suc place) leaves) =
    root_of-some H mine (omega arith)
    ∙ ap (λ n. subtree_hash H (depth n) mine) long
    ∙ ap (λ k. subtree_hash H k mine) (sym above)
    ∙ ap (λ n. subtree_hash H (min (depth newer) top) (take n leaves)) whole_place in
    ap (λ hs. whole (climb (two_values H top) layer height place newer both hs)) (sym (append-nil (path H layer height place leaves)))
    ∙ ap (λ v. whole (climb (two_values H top) layer height place newer v (path H layer height place leaves ++ []))) (sym bottom)
    ∙ ap whole (climb-path H (two_values H top) (2 ^ top) made (two_values-IsMadeBy H top) layer height place leaves []
    (omega (arith, depth-room older)) (omega arith))
    ∙ ap (λ k. Some (made k place leaves)) full
    ∙ ap Some (sym (both_made-is H top (depth newer) place leaves (root_of H mine) (root_of H leaves) older_root (root_of-some H leaves (omega arith))))

pub made_increment : (leaves : List (List ℕ)) (older newer : Commitment) (hashes : List (List ℕ)) →
    IsMadeIncrement leaves older newer hashes → AcceptsIncrement sha256 older newer hashes
made_increment leaves older newer hashes made = record {
  some = made.some;
  order = made.order;
  small = omega (arith, made.count, made.small);
  roots = ap (roots_from_increment sha256 older.count newer.count) made.path
      ∙ ap (λ n. roots_from_increment sha256 older.count n (increment_path sha256 leaves older.count)) made.count
      ∙ made_roots leaves older.count made.some (omega (arith, made.order, made.count)) made.small
      ∙ ap (λ r. Some (record { older = r; newer = root_of sha256 leaves })) (sym made.older_root)
      ∙ ap (λ r. Some (record { older = older.root; newer = r })) (sym made.newer_root);
}
