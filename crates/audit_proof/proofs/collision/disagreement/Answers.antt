use Rattle.std.proofs.Common.{arith}
use Rattle.audit_tree.proofs.Depth.{depth-least}
use Rattle.audit_proof.proofs.collision.disagreement.Goals as goal

pub meet_leaves-requires-clause-top : goal.meet_leaves-requires-clause-top
meet_leaves-requires-clause-top g c =
    omega (arith, c.depth_of.ensures.depth, depth-least c.args.commitment.now.count 24 c.requires.left.small)
