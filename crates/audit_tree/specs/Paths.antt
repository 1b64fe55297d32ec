-- The hashes of the membership and incremental proofs of a history tree, over any hash function H. Which hashes they
-- contain, and in which order, is this store's own choice.
use Rattle.std.specs.Prelude.{ℕ, zero, suc, ◌+◌, ◌-◌, ◌*◌, ◌/◌, ◌%◌, ◌^◌, nat_le, nat_lt, ◌==◌, List, [], ◌∷◌, ◌++◌}
use Rattle.std.specs.Prelude.{length, drop, if◌then◌else◌}
use Rattle.std.specs.Int.{w64, trailing_zeros}
use Rattle.audit_tree.specs.Subtree.{subtree_hash, node_at, depth}

-- The siblings on the path from a node at layer `from` up to the node `height` layers above it. The list holds the
-- leaf hashes from the upper node's start on; the lower node contains the leaf at this place in the list. A right
-- sibling without leaves isn't listed.
unfoldable pub path : (List ℕ → List ℕ) → ℕ → ℕ → ℕ → List (List ℕ) → List (List ℕ)
path H from zero place leaves = []
path H from (suc height) place leaves =
    let half = 2 ^ (from + height) in
    if nat_lt place half
    then path H from height place leaves
    ++ (if nat_le (length leaves) half then [] else subtree_hash H (from + height) (drop half leaves) ∷ [])
    else path H from height (place - half) (drop half leaves)
    ++ subtree_hash H (from + height) leaves ∷ []

-- the membership proof of the leaf at this place among the leaf hashes
abbrev pub membership_path : (List ℕ → List ℕ) → List (List ℕ) → ℕ → List (List ℕ)
membership_path H leaves place = path H 0 (depth (length leaves)) place leaves

-- The incremental proof from `older` leaves to all of the leaf hashes: the largest full node that ends the older tree,
-- then the siblings on its path to the root of the newer one
abbrev pub increment_path : (List ℕ → List ℕ) → List (List ℕ) → ℕ → List (List ℕ)
increment_path H leaves older =
    let layer = trailing_zeros w64 older in
    subtree_hash H layer (drop (older - 2 ^ layer) leaves)
    ∷ path H layer (depth (length leaves) - layer) (older - 1) leaves

-- The same siblings by places, as the format states them: the sibling, at `layer`, of the node that contains the leaf
-- at `place`, under the first `count` leaves. A left sibling always exists; a right one only if it has leaves.
abbrev pub sibling_at : (List ℕ → List ℕ) → List (List ℕ) → ℕ → ℕ → ℕ → List (List ℕ)
sibling_at H leaves count place layer =
    let start = place / 2 ^ layer * 2 ^ layer in
    if place / 2 ^ layer % 2 == 1 then node_at H leaves count (start - 2 ^ layer) layer ∷ []
    else (if nat_lt (start + 2 ^ layer) count then node_at H leaves count (start + 2 ^ layer) layer ∷ [] else [])

-- the siblings at `height` layers in turn, starting at `from`
unfoldable pub siblings_at : (List ℕ → List ℕ) → List (List ℕ) → ℕ → ℕ → ℕ → ℕ → List (List ℕ)
siblings_at H leaves count place from zero = []
siblings_at H leaves count place from (suc height) =
    siblings_at H leaves count place from height ++ sibling_at H leaves count place (from + height)

-- the two proofs by places, under the first `count` and the first `newer` leaves
abbrev pub membership_at : (List ℕ → List ℕ) → List (List ℕ) → ℕ → ℕ → List (List ℕ)
membership_at H leaves count place = siblings_at H leaves count place 0 (depth count)

abbrev pub increment_at : (List ℕ → List ℕ) → List (List ℕ) → ℕ → ℕ → List (List ℕ)
increment_at H leaves older newer =
    let layer = trailing_zeros w64 older in
    node_at H leaves newer (older - 2 ^ layer) layer
    ∷ siblings_at H leaves newer (older - 1) layer (depth newer - layer)
