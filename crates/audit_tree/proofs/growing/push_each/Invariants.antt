use Rattle.std.proofs.Common.{◌≡◌, take}
use Rattle.audit_tree.specs.Continued.{frontier_after}
use Rattle.audit_tree.proofs.growing.push_each.Given as goal

abbrev pub invariant-loop-leaf : goal.invariant-loop-leaf
invariant-loop-leaf l = l.frontier ≡ frontier_after l.fn.frontier (take l.leaf-index l.leaves)
