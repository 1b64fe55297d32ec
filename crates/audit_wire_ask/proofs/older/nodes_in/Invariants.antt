use Rattle.std.proofs.Common.{◌≡◌, ◌≤◌, ℕ, List, length}
use Rattle.sha2.specs.Sha256.{sha256}
use Rattle.audit_tree.specs.Paths.{increment_path}
use Rattle.audit_wire_ask.proofs.OlderNodes.{HasNodes}
use Rattle.audit_wire_ask.proofs.older.nodes_in.Given as goal

-- of an increment that a tree makes, the nodes below this layer are the tree's
abbrev pub invariant-loop-layer : goal.invariant-loop-layer
invariant-loop-layer l = record {
  few : l.used ≤ l.layer;
  made : (leaves : List (List ℕ)) → length leaves ≡ l.fn.newer → l.fn.hashes ≡ increment_path sha256 leaves l.fn.older → HasNodes leaves l.fn.older l.layer l.used l.nodes;
}
