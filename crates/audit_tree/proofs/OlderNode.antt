-- The largest full node that ends an older tree.
use Rattle.std.proofs.Common.{◌≡◌, ℕ, ◌+◌, ◌-◌, ◌%◌, ◌^◌, ◌<◌, ◌≤◌, List, ◌∷◌, length, take, drop, sym, ap, ◌∙◌, arith, inl, inr}
use Rattle.std.specs.Int.{w64, trailing_zeros}
use Rattle.std.proofs.lemmas.Bool.{cases_lt}
use Rattle.std.proofs.lemmas.List.{length-take-le}
use Rattle.std.proofs.lemmas.Nat.{pow_pos, pow_below}
use Rattle.std.proofs.Math.Nat.{add-mod_right, sub-add_cancel}
use Rattle.audit_tree.specs.Subtree.{depth, subtree_hash}
use Rattle.audit_tree.specs.Paths.{path, siblings_at, increment_at, increment_path}
use Rattle.audit_tree.proofs.SubtreeLemmas.{node_at-subtree_hash}
use Rattle.audit_tree.proofs.PathLemmas.{siblings_at-whole}
use Rattle.audit_tree.proofs.Depth.{depth-room, depth-least}
use Rattle.audit_tree.proofs.TrailingZeros.{last_layer}

-- The node's layer in a newer tree, and its start in the older one
pub record IsOlderNode (older newer : ℕ) : Type 0 where
  pub below : trailing_zeros w64 older ≤ depth newer
  pub top : depth newer ≤ 24
  pub width : 2 ^ trailing_zeros w64 older ≤ older
  pub aligned : (older - 2 ^ trailing_zeros w64 older) % 2 ^ trailing_zeros w64 older ≡ 0

pub older_node : (older newer : ℕ) → 0 < older → older ≤ newer → newer ≤ 2 ^ 24 → IsOlderNode older newer
older_node older newer some h small =
    let t = trailing_zeros w64 older in
    let last = last_layer older some (omega arith) in
    let back : older - 2 ^ t + 2 ^ t ≡ older = sub-add_cancel last.width in
    record {
      below = elim (cases_lt (depth newer) t) [
        | inl above ↦ absurd (omega (arith, depth-room newer, pow_below (depth newer) t above))
        | inr fine ↦ fine
      ];
      top = depth-least newer 24 small;
      width = last.width;
      aligned = sym (add-mod_right (older - 2 ^ t) (2 ^ t)) ∙ ap (λ n. n % 2 ^ t) back ∙ last.divides;
    }

-- the incremental proof defined by places equals the one defined by leaves
pub increment_at-path : (H : List ℕ → List ℕ) (older newer : ℕ) (leaves : List (List ℕ)) → 0 < older → older ≤ newer → newer ≤ length leaves →
    IsOlderNode older newer →
    increment_at H leaves older newer ≡ increment_path H (take newer leaves) older
increment_at-path H older newer leaves some order known node =
    let layer = trailing_zeros w64 older in
    let positive : 0 < 2 ^ layer = pow_pos layer in
    let top : layer + (depth newer - layer) ≡ depth newer = omega (arith, node.below) in
    ap (λ h. h ∷ siblings_at H leaves newer (older - 1) layer (depth newer - layer))
    (node_at-subtree_hash H layer (older - 2 ^ layer) newer leaves (omega (arith, node.width)) known)
    ∙ ap (λ hs. subtree_hash H layer (drop (older - 2 ^ layer) (take newer leaves)) ∷ hs)
    (siblings_at-whole H layer (depth newer - layer) (older - 1) newer leaves (omega arith) known (rw top (depth-room newer))
    ∙ ap (λ n. path H layer (depth n - layer) (older - 1) (take newer leaves)) (sym (length-take-le newer leaves known)))
