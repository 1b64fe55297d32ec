use Rattle.std.proofs.Common.{arith}
use Rattle.audit_tree.proofs.Depth.{depth-least}
use Rattle.audit_proof.proofs.collision_across.collision_above.Goals as goal

pub meet-requires-clause-top : goal.meet-requires-clause-top
meet-requires-clause-top g c =
    omega (arith, c.requires.layer, c.depth_of.ensures.depth, depth-least c.args.commitment.now.count 24 c.requires.small)
