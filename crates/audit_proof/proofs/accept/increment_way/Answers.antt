use Rattle.std.proofs.Common.{arith}
use Rattle.audit_tree.proofs.OlderNode.{older_node}
use Rattle.audit_proof.proofs.accept.increment_way.Goals as goal

pub overflow_sub-height : goal.overflow_sub-height
overflow_sub-height c =
    let node = older_node c.args.older.now.count c.args.newer.now.count c.requires.some c.requires.order c.requires.small in
    omega (arith, node.below, c.depth_of.ensures.depth)

pub returns-clause-top : goal.returns-clause-top
returns-clause-top c =
    let node = older_node c.args.older.now.count c.args.newer.now.count c.requires.some c.requires.order c.requires.small in
    omega (arith, node.below, c.depth_of.ensures.depth)
