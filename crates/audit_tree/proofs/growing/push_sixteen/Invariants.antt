use Rattle.std.proofs.Common.{◌≡◌, ◌*◌, take}
use Rattle.audit_tree.specs.Continued.{frontier_after}
use Rattle.audit_tree.proofs.growing.push_sixteen.Given as goal

abbrev pub invariant-loop-i : goal.invariant-loop-i
invariant-loop-i l = l.frontier ≡ frontier_after l.fn.frontier (take (4 * l.i) l.leaves)
