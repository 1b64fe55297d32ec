-- The commitment to two entries.
use Rattle.std.proofs.Common.{◌≡◌, ℕ, List, [], ◌∷◌, refl, sym, ap, ◌∙◌}
use Rattle.sha2.specs.Sha256.{sha256}
use Rattle.audit_tree.specs.Subtree.{leaf_hash_of, parent_of, root_of, depth, subtree_hash}
use Rattle.audit_proof.specs.Acceptance.{commitment_to}
use Rattle.audit_proof.specs.declared.commitment.Commitment.{Commitment}

root_of_two : (H : List ℕ → List ℕ) (left right : List ℕ) → root_of H (left ∷ right ∷ []) ≡ parent_of H left right
unfolding root_of depth subtree_hash
root_of_two H left right = refl

made : ℕ → List ℕ → Commitment
made count root = record { count = count; root = root }

pub commitment_of_two : (first second : List ℕ) (root left right : List ℕ) → root ≡ parent_of sha256 left right → left ≡ leaf_hash_of first → right ≡ leaf_hash_of second
    → record { count = 2; root = root } ≡ commitment_to (first ∷ second ∷ [])
unfolding made
commitment_of_two first second root left right is left_is right_is =
    ap (made 2) (is ∙ ap (λ l. parent_of sha256 l right) left_is ∙ ap (λ r. parent_of sha256 (leaf_hash_of first) r) right_is ∙ sym (root_of_two sha256 (leaf_hash_of first) (leaf_hash_of second)))
