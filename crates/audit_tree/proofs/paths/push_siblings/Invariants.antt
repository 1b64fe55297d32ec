use Rattle.std.proofs.Common.{◌≡◌, ◌+◌, ◌-◌, ◌≤◌, ◌++◌, vec_len, vec_capacity}
use Rattle.sha2.specs.Sha256.{sha256}
use Rattle.audit_tree.specs.Paths.{siblings_at}
use Rattle.audit_tree.proofs.paths.push_siblings.Given as goal

abbrev pub invariant-loop-layer : goal.invariant-loop-layer
invariant-loop-layer l = record {
  items : l.hashes.items ≡ l.initial.hashes.items ++ siblings_at sha256 l.frozen.leaves l.count l.leaf l.from (l.layer - l.from);
  few : vec_len l.hashes ≤ vec_len l.initial.hashes + (l.layer - l.from);
  capacity : vec_capacity l.hashes ≡ vec_capacity l.initial.hashes;
}
