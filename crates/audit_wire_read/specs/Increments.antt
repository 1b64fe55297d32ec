-- Where an accepted increment isn't the one that the newer tree makes: a collision of SHA-256 on the way up.
use Rattle.std.specs.Prelude.{◌⊎◌, ℕ, zero, suc, ◌+◌, ◌-◌, ◌^◌, nat_le, nat_lt, List, [], ◌∷◌, Some, None, length, map}
use Rattle.std.specs.Prelude.{if◌then◌else◌}
use Rattle.std.specs.Int.{w64, trailing_zeros}
use Rattle.sha2.specs.Sha256.{sha256}
use Rattle.audit_tree.specs.Subtree.{leaf_hash_of, depth}
use Rattle.audit_tree.specs.Paths.{increment_path}
use Rattle.audit_proof.specs.declared.side.Side.{Side}
use Rattle.audit_proof.specs.declared.side.Side.TheVariants.{Left, Right}
use Rattle.audit_proof.specs.declared.commitment.Commitment.{Commitment}
use Rattle.audit_proof.specs.Acceptance.{AcceptsIncrement, commitment_to}
use Rattle.audit_proof.specs.Climb.{Climbed, climb, one_value, text_with}
use Rattle.audit_proof.specs.Collision.{IsCollision}

-- the text of the node above what a climb has reached: without a sibling, and with the next hash as its sibling
abbrev pub text_alone : Climbed (List ℕ) → List ℕ
text_alone None = []
text_alone (Some (value, rest)) = text_with Right value []

abbrev pub text_beside : Side → Climbed (List ℕ) → List ℕ
text_beside side None = []
text_beside side (Some (value, [])) = []
text_beside side (Some (value, hash ∷ rest)) = text_with side value hash

-- the texts of all nodes on the way of a climb, from the top down
unfoldable pub texts_above : ℕ → ℕ → ℕ → ℕ → List ℕ → List (List ℕ) → List (List ℕ)
texts_above from zero place count value hashes = []
texts_above from (suc height) place count value hashes =
    let half = 2 ^ (from + height) in
    let left = climb (one_value sha256) from height place count value hashes in
    let right = climb (one_value sha256) from height (place - half) (count - half) value hashes in
    if nat_lt place half
    then (if nat_le count half then text_alone left else text_beside Right left)
    ∷ texts_above from height place count value hashes
    else text_beside Left right ∷ texts_above from height (place - half) (count - half) value hashes

-- the texts of the nodes of the newer tree that an increment gives
abbrev pub texts_of_increment : ℕ → ℕ → List (List ℕ) → List (List ℕ)
texts_of_increment older newer [] = []
texts_of_increment older newer (first ∷ hashes) =
    let layer = trailing_zeros w64 older in
    texts_above layer (depth newer - layer) (older - 1) newer first hashes

-- two texts at one place of both lists are a collision
abbrev pub TextsCollide : List (List ℕ) → List (List ℕ) → Type 0
TextsCollide [] others = ⊥
TextsCollide (text ∷ texts) [] = ⊥
TextsCollide (text ∷ texts) (other ∷ others) = IsCollision sha256 text other ⊎ TextsCollide texts others

-- An increment is accepted from some commitment to that of the entries with these texts; and a node on its way and the
-- same node of the tree are a collision.
pub record IncrementCollides (texts : List (List ℕ)) : Type 0 where
  pub older : Commitment
  pub hashes : List (List ℕ)
  pub accepted : AcceptsIncrement sha256 older (commitment_to texts) hashes
  pub collide : TextsCollide (texts_of_increment older.count (length texts) hashes)
      (texts_of_increment older.count (length texts) (increment_path sha256 (map leaf_hash_of texts) older.count))
