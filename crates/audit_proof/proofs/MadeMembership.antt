-- The membership proof that a tree makes is accepted under its root.
use Rattle.std.proofs.Common.{◌≡◌, ℕ, suc, ◌+◌, ◌^◌, ◌<◌, List, [], ◌++◌, Some, length, get_or, drop, sym, ap, ◌∙◌, arith, add-zero, zero-add, get_or-drop}
use Rattle.std.proofs.lemmas.List.{append-nil}
use Rattle.sha2.specs.Sha256.{sha256}
use Rattle.audit_tree.specs.Subtree.{subtree_hash, leaf_of, depth, root_of}
use Rattle.audit_tree.specs.Paths.{path}
use Rattle.audit_tree.proofs.Depth.{depth-room}
use Rattle.audit_tree.proofs.PathLemmas.{start_of}
use Rattle.audit_tree.proofs.SubtreeLemmas.{subtree_hash-leaf, subtree_hash-lone, subtree_hash-pair, root_of-some}
use Rattle.audit_proof.specs.declared.commitment.Commitment.{Commitment}
use Rattle.audit_proof.specs.Climb.{climb, one_value, whole}
use Rattle.audit_proof.specs.Acceptance.{AcceptsMembership, IsMadeMembership}
use Rattle.audit_proof.proofs.MadePaths.{IsMadeBy, way, way-start, climb-path}

one_value-IsMadeBy : (H : List ℕ → List ℕ) (limit : ℕ) → IsMadeBy H (one_value H) limit (λ layer place leaves. subtree_hash H layer leaves)
one_value-IsMadeBy H limit = record {
  alone = λ layer place leaves low h under last. sym (subtree_hash-lone H layer leaves last);
  right = λ layer place leaves low h under more. sym (subtree_hash-pair H layer leaves more);
  left = λ layer place leaves low h over. sym (subtree_hash-pair H layer leaves (omega arith));
}

pub made_membership : (leaves : List (List ℕ)) (commitment : Commitment) (place : ℕ) (text : List ℕ) (hashes : List (List ℕ)) →
    IsMadeMembership leaves commitment place text hashes → AcceptsMembership sha256 commitment place text hashes
made_membership leaves commitment place text hashes made =
    let H = sha256 in
    let d = depth (length leaves) in
    let made_at : ℕ → ℕ → List (List ℕ) → List ℕ = λ layer place leaves. subtree_hash H layer leaves in
    let top : place < 2 ^ (0 + d) = rw zero-add (omega (arith, depth-room (length leaves), made.within)) in
    let start : start_of place 0 ≡ place = omega arith in
    let leaf : way made_at 0 d place leaves ≡ leaf_of H text =
    way-start made_at 0 d place leaves top
    ∙ ap (λ n. subtree_hash H 0 (drop n leaves)) start
    ∙ subtree_hash-leaf H (drop place leaves)
    ∙ get_or-drop place leaves 0 []
    ∙ ap (λ n. get_or leaves n []) (add-zero place)
    ∙ made.leaf in
    let climbed : climb (one_value H) 0 d place (length leaves) (leaf_of H text) hashes ≡ Some (root_of H leaves, []) =
    ap (climb (one_value H) 0 d place (length leaves) (leaf_of H text)) (made.path ∙ sym (append-nil (path H 0 d place leaves)))
    ∙ ap (λ v. climb (one_value H) 0 d place (length leaves) v (path H 0 d place leaves ++ [])) (sym leaf)
    ∙ climb-path H (one_value H) (suc place) made_at (one_value-IsMadeBy H (suc place)) 0 d place leaves [] (omega arith) made.within
    ∙ ap (λ k. Some (subtree_hash H k leaves, [])) (zero-add d)
    ∙ ap (λ v. Some (v, [])) (sym (root_of-some H leaves (omega (arith, made.within)))) in
    record {
      within = omega (arith, made.count, made.within);
      small = omega (arith, made.count, made.small);
      root = ap (λ n. whole (climb (one_value H) 0 (depth n) place n (leaf_of H text) hashes)) made.count
          ∙ ap whole climbed
          ∙ ap Some (sym made.root);
    }
