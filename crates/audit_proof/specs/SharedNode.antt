-- The full node whose value an increment gives for both of its trees, on the path of an index, and its siblings on the
-- path to either root.
use Rattle.std.specs.Prelude.{◌≡◌, ℕ, ◌+◌, ◌-◌, ◌%◌, ◌^◌, ◌≤◌, List, [], ◌∷◌, ◌++◌, Option, None, Some, length, drop}
use Rattle.std.specs.Prelude.{min}
use Rattle.audit_proof.specs.declared.climb.Way.{Way}
use Rattle.audit_proof.specs.declared.shared_node.SharedNode.{SharedNode}
use Rattle.audit_proof.specs.declared.steps.Versions.{Versions}
use Rattle.audit_tree.specs.Subtree.{depth}
use Rattle.audit_proof.specs.declared.commitment.Commitment.{Commitment}
use Rattle.audit_proof.specs.Climb.{Climbed, climb, one_value, two_values}

-- what the path of an increment reaches from its first hash, in an older tree of this depth and in a newer one
abbrev pub climbed_both : (List ℕ → List ℕ) → ℕ → Way → List ℕ → List (List ℕ) → Climbed Versions
climbed_both H top way first hashes =
    climb (two_values H top) way.from way.height way.place way.count (record { older = first; newer = first }) hashes

-- From the node's value, its siblings in either tree lead to what the path reaches there. The older tree ends at the
-- path's place, and its values stop at the layer of its root.
pub record IsShared (H : List ℕ → List ℕ) (top : ℕ) (way : Way) (index : ℕ) (climbed : Climbed Versions)
    (hashes : List (List ℕ)) (node : SharedNode) : Type 0 where
  pub low : node.layer ≤ way.from + way.height
  pub inside : node.layer ≤ top
  pub full : index - index % 2 ^ node.layer + 2 ^ node.layer ≤ way.place + 1
  pub versions : Versions
  pub reached : climbed ≡ Some (versions, drop node.used hashes)
  pub used : node.used ≤ length hashes
  pub older : climb (one_value H) node.layer (min (way.from + way.height) top - node.layer) index (way.place + 1)
      node.value node.older_siblings.items ≡ Some (versions.older, [])
  pub newer : climb (one_value H) node.layer (way.from + way.height - node.layer) index way.count
      node.value node.newer_siblings.items ≡ Some (versions.newer, [])

-- The same between two commitments: the node's siblings lead from its value to either root.
pub record IsSharedByBoth (H : List ℕ → List ℕ) (older newer : Commitment) (index : ℕ)
    (node : SharedNode) : Type 0 where
  pub inside : node.layer ≤ depth older.count
  pub full : index - index % 2 ^ node.layer + 2 ^ node.layer ≤ older.count
  pub older_root : climb (one_value H) node.layer (depth older.count - node.layer) index older.count
      node.value node.older_siblings.items ≡ Some (older.root, [])
  pub newer_root : climb (one_value H) node.layer (depth newer.count - node.layer) index newer.count
      node.value node.newer_siblings.items ≡ Some (newer.root, [])

-- there is such a node, or a hash was missing
abbrev pub Shares : (List ℕ → List ℕ) → ℕ → Way → ℕ → Climbed Versions → List (List ℕ) → Option SharedNode → Type 0
Shares H top way index climbed hashes None = climbed ≡ None
Shares H top way index climbed hashes (Some node) = IsShared H top way index climbed hashes node

-- one layer up with the next hash on the left, in both trees
pub record IsOverLeft (hashes : List (List ℕ)) (node over : SharedNode) : Type 0 where
  pub hash : List ℕ
  pub taken : drop node.used hashes ≡ hash ∷ drop over.used hashes
  pub used : over.used ≤ length hashes
  pub layer : over.layer ≡ node.layer
  pub value : over.value ≡ node.value
  pub older : over.older_siblings.items ≡ node.older_siblings.items ++ hash ∷ []
  pub newer : over.newer_siblings.items ≡ node.newer_siblings.items ++ hash ∷ []

-- one layer up with the next hash on the right, in the newer tree alone
pub record IsOverRight (hashes : List (List ℕ)) (node over : SharedNode) : Type 0 where
  pub hash : List ℕ
  pub taken : drop node.used hashes ≡ hash ∷ drop over.used hashes
  pub used : over.used ≤ length hashes
  pub layer : over.layer ≡ node.layer
  pub value : over.value ≡ node.value
  pub older : over.older_siblings.items ≡ node.older_siblings.items
  pub newer : over.newer_siblings.items ≡ node.newer_siblings.items ++ hash ∷ []

-- the node one layer up, or no hash is left
abbrev pub OverLeft : List (List ℕ) → SharedNode → Option SharedNode → Type 0
OverLeft hashes node None = drop node.used hashes ≡ []
OverLeft hashes node (Some over) = IsOverLeft hashes node over

abbrev pub OverRight : List (List ℕ) → SharedNode → Option SharedNode → Type 0
OverRight hashes node None = drop node.used hashes ≡ []
OverRight hashes node (Some over) = IsOverRight hashes node over

-- the left half of a node whose right half a climb of both values has reached: its sibling is that half
pub record IsLeftHalf (half_layer : ℕ) (lower : Climbed Versions) (hashes : List (List ℕ))
    (node : SharedNode) : Type 0 where
  pub versions : Versions
  pub reached : lower ≡ Some (versions, node.value ∷ drop node.used hashes)
  pub used : node.used ≤ length hashes
  pub layer : node.layer ≡ half_layer
  pub older : node.older_siblings.items ≡ versions.older ∷ []
  pub newer : node.newer_siblings.items ≡ versions.newer ∷ []

-- the same, or a hash was missing there or above it
abbrev pub LeftHalf : ℕ → Climbed Versions → List (List ℕ) → Option SharedNode → Type 0
LeftHalf layer lower hashes None = (versions : Versions) (hash : List ℕ) (rest : List (List ℕ))
    → lower ≡ Some (versions, hash ∷ rest) → ⊥
LeftHalf layer lower hashes (Some node) = IsLeftHalf layer lower hashes node
