use Rattle.std.proofs.Common.{arith}
use Rattle.audit_tree.specs.Continued.{empty_frontier}
use Rattle.audit_tree.proofs.ContinuedTrees.{root_further, frontier_further, root_of_leaves, none_of_leaves, after_none}
use Rattle.audit_tree.proofs.laws.frontiers_continue.Goals as goal

pub returns-clause-root : goal.returns-clause-root
returns-clause-root c = root_further

pub returns-clause-frontier : goal.returns-clause-frontier
returns-clause-frontier c = frontier_further

pub returns-clause-none : goal.returns-clause-none
returns-clause-none c = after_none

pub returns-clause-leaves : goal.returns-clause-leaves
returns-clause-leaves c = root_of_leaves

pub returns-clause-empty : goal.returns-clause-empty
returns-clause-empty c = none_of_leaves empty_frontier (omega arith)
