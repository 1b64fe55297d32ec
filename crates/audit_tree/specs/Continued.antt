-- A tree that continues from a frontier: the leaves of the frontier, of which only its nodes are known, and then the
-- leaves with these hashes. Any hashes may stand in a frontier, whether or not they are those of some leaves.
use Rattle.std.specs.Prelude.{ℕ, zero, suc, ◌+◌, ◌-◌, ◌*◌, ◌/◌, ◌%◌, ◌^◌, ◌==◌, nat_le, List, [], length, map, replicate}
use Rattle.std.specs.Prelude.{slice_index_or, if◌then◌else◌}
use Rattle.std.specs.List.{range_with_len}
use Rattle.sha2.specs.Sha256.{sha256}
use Rattle.audit_base.specs.declared.limits.TheConstants.{LAYERS}
use Rattle.audit_tree.specs.Subtree.{parent_of, depth}
use Rattle.audit_tree.specs.Frontier.{FrontierData}

-- 32 zero bytes
abbrev pub no_hash : List ℕ
no_hash = replicate 32 0

-- the hash of the node at `layer` whose first leaf is `start`; if all its leaves are the frontier's, it is its node
unfoldable pub node_after : FrontierData → List (List ℕ) → ℕ → ℕ → List ℕ
node_after frontier leaves start zero =
    if nat_le (start + 1) frontier.count then slice_index_or frontier.hashes 0 []
    else slice_index_or leaves (start - frontier.count) []
node_after frontier leaves start (suc layer) =
    if nat_le (start + 2 ^ suc layer) frontier.count then slice_index_or frontier.hashes (suc layer) []
    else parent_of sha256 (node_after frontier leaves start layer)
    (if nat_le (frontier.count + length leaves) (start + 2 ^ layer) then []
    else node_after frontier leaves (start + 2 ^ layer) layer)

-- the root; 32 zero bytes if there are no leaves
unfoldable pub root_after : FrontierData → List (List ℕ) → List ℕ
root_after frontier leaves =
    if nat_le (frontier.count + length leaves) 0 then no_hash
    else node_after frontier leaves 0 (depth (frontier.count + length leaves))

-- the first leaf after the nodes above `layer` that `count` leaves fill
abbrev pub start_at : ℕ → ℕ → ℕ
start_at count layer = count / 2 ^ suc layer * 2 ^ suc layer

-- the hash of the full node at `layer` whose parent isn't full: there is one if `count` in binary has a one there
abbrev pub hash_after : FrontierData → List (List ℕ) → ℕ → List ℕ
hash_after frontier leaves layer =
    let count = frontier.count + length leaves in
    if count / 2 ^ layer % 2 == 1 then node_after frontier leaves (start_at count layer) layer else no_hash

-- the frontier
abbrev pub frontier_after : FrontierData → List (List ℕ) → FrontierData
frontier_after frontier leaves = record {
  count = frontier.count + length leaves;
  hashes = map (hash_after frontier leaves) (range_with_len 0 LAYERS);
}

-- the frontier of a tree without leaves
abbrev pub empty_frontier : FrontierData
empty_frontier = record { count = 0; hashes = replicate LAYERS no_hash }
