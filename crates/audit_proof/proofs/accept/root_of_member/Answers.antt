use Rattle.std.proofs.Common.{arith}
use Rattle.audit_tree.proofs.Depth.{depth-least}
use Rattle.audit_proof.proofs.accept.root_of_member.Goals as goal

pub climb_from-requires-clause-top : goal.climb_from-requires-clause-top
climb_from-requires-clause-top g c =
    omega (arith, c.depth_of.ensures.depth, depth-least c.args.commitment.now.count 24 c.if-commitment-gt-MAX_COUNT.false)
