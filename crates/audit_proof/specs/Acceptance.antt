-- When a proof is accepted under a commitment, over any hash function H: all of its hashes are used,
-- none is missing, and the computed root or roots are the commitment's.
use Rattle.std.specs.Prelude.{◌≡◌, ℕ, ◌-◌, ◌<◌, ◌≤◌, List, [], ◌∷◌, Option, None, Some, length, map, take}
use Rattle.std.specs.Prelude.{slice_index_or}
use Rattle.std.specs.Int.{w64, trailing_zeros}
use Rattle.sha2.specs.Sha256.{sha256}
use Rattle.audit_base.specs.declared.limits.TheConstants.{MAX_COUNT}
use Rattle.audit_tree.specs.Subtree.{leaf_of, leaf_hash_of, depth, root_of}
use Rattle.audit_tree.specs.Paths.{membership_path, increment_path}
use Rattle.audit_proof.specs.declared.climb.Way.{Way}
use Rattle.audit_proof.specs.declared.commitment.Commitment.{Commitment}
use Rattle.audit_proof.specs.declared.steps.Versions.{Versions}
use Rattle.audit_proof.specs.Climb.{climb, whole, one_value, two_values}

-- the commitment to these leaf texts: their number, and the root of their tree with SHA-256
abbrev pub commitment_to : List (List ℕ) → Commitment
commitment_to texts = record { count = length texts; root = root_of sha256 (map leaf_hash_of texts) }

-- the root that a membership proof of a leaf hash at a place under a count gives
abbrev pub root_from_leaf : (List ℕ → List ℕ) → ℕ → ℕ → List ℕ → List (List ℕ) → Option (List ℕ)
root_from_leaf H place count leaf hashes =
    whole (climb (one_value H) 0 (depth count) place count leaf hashes)

-- the path of an incremental proof, from the largest full node that ends the older tree up to the newer root
abbrev pub way_between : ℕ → ℕ → Way
way_between older newer = record {
  from = trailing_zeros w64 older;
  height = depth newer - trailing_zeros w64 older;
  place = older - 1;
  count = newer;
}

-- the older and the newer root that an incremental proof gives
abbrev pub roots_from_increment : (List ℕ → List ℕ) → ℕ → ℕ → List (List ℕ) → Option Versions
roots_from_increment H older newer [] = None
roots_from_increment H older newer (first ∷ hashes) =
    let layer = trailing_zeros w64 older in
    whole (climb (two_values H (depth older)) layer (depth newer - layer) (older - 1) newer
    (record { older = first; newer = first }) hashes)

-- a membership proof is accepted for a leaf hash, and for a text
pub record AcceptsLeaf (H : List ℕ → List ℕ) (commitment : Commitment) (place : ℕ) (leaf : List ℕ)
    (hashes : List (List ℕ)) : Type 0 where
  pub within : place < commitment.count
  pub small : commitment.count ≤ MAX_COUNT
  pub root : root_from_leaf H place commitment.count leaf hashes ≡ Some commitment.root

abbrev pub AcceptsMembership : (List ℕ → List ℕ) → Commitment → ℕ → List ℕ → List (List ℕ) → Type 0
AcceptsMembership H commitment place text hashes = AcceptsLeaf H commitment place (leaf_of H text) hashes

-- the hashes of a membership proof lead from each leaf hash to a root: none is missing or left over
abbrev pub LeadsUp : (List ℕ → List ℕ) → ℕ → ℕ → List (List ℕ) → Type 0
LeadsUp H count place hashes =
    (leaf : List ℕ) → (root : List ℕ) × AcceptsLeaf H (record { count = count; root = root }) place leaf hashes

-- two membership proofs of one place are accepted
pub record AcceptsBoth (H : List ℕ → List ℕ) (commitment : Commitment) (place : ℕ) (text1 : List ℕ)
    (hashes1 : List (List ℕ)) (text2 : List ℕ) (hashes2 : List (List ℕ)) : Type 0 where
  pub first : AcceptsMembership H commitment place text1 hashes1
  pub second : AcceptsMembership H commitment place text2 hashes2

-- an incremental proof is accepted
pub record AcceptsIncrement (H : List ℕ → List ℕ) (older newer : Commitment) (hashes : List (List ℕ)) : Type 0 where
  pub some : 1 ≤ older.count
  pub order : older.count ≤ newer.count
  pub small : newer.count ≤ MAX_COUNT
  pub roots : roots_from_increment H older.count newer.count hashes
      ≡ Some (record { older = older.root; newer = newer.root })

-- an incremental proof between two commitments is accepted, and two membership proofs of one place, the first under
-- the older commitment and the second under the newer
pub record AcceptsThree (H : List ℕ → List ℕ) (older newer : Commitment) (steps : List (List ℕ)) (place : ℕ)
    (text1 : List ℕ) (hashes1 : List (List ℕ)) (text2 : List ℕ) (hashes2 : List (List ℕ)) : Type 0 where
  pub increment : AcceptsIncrement H older newer steps
  pub first : AcceptsMembership H older place text1 hashes1
  pub second : AcceptsMembership H newer place text2 hashes2

-- the commitment, the text and the membership proof are those of a tree over these leaf hashes
pub record IsMadeMembership (leaves : List (List ℕ)) (commitment : Commitment) (place : ℕ) (text : List ℕ)
    (hashes : List (List ℕ)) : Type 0 where
  pub count : commitment.count ≡ length leaves
  pub small : length leaves ≤ MAX_COUNT
  pub within : place < length leaves
  pub root : commitment.root ≡ root_of sha256 leaves
  pub leaf : slice_index_or leaves place [] ≡ leaf_hash_of text
  pub path : hashes ≡ membership_path sha256 leaves place

-- the two commitments and the incremental proof are those of a tree over these leaf hashes
pub record IsMadeIncrement (leaves : List (List ℕ)) (older newer : Commitment) (hashes : List (List ℕ)) : Type 0 where
  pub count : newer.count ≡ length leaves
  pub small : length leaves ≤ MAX_COUNT
  pub some : 1 ≤ older.count
  pub order : older.count ≤ newer.count
  pub older_root : older.root ≡ root_of sha256 (take older.count leaves)
  pub newer_root : newer.root ≡ root_of sha256 leaves
  pub path : hashes ≡ increment_path sha256 leaves older.count
