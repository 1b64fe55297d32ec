use Rattle.std.proofs.Common.{arith}
use Rattle.audit_tree.proofs.OlderNode.{older_node}
use Rattle.audit_proof.proofs.accept.versions_of.Goals as goal

pub climb_from-requires-clause-top : goal.climb_from-requires-clause-top
climb_from-requires-clause-top g c =
    let node = older_node c.args.older.now.count c.args.newer.now.count (omega (arith, c.if-older-eq0.false)) c.if-newer-older.false c.if-newer-gt-MAX_COUNT.false in
    omega (arith, node.top, c.increment_way-way.ensures.top)
