use Rattle.std.proofs.Common.{◌≡◌, ◌<◌, ◌≤◌, ◌^◌, suc, arith}
use Rattle.std.proofs.Math.Nat.{pow-suc}
use Rattle.audit_tree.specs.Subtree.{depth}
use Rattle.audit_tree.proofs.Depth.{depth_is, depth-least, depth-IsLeastDepth}
use Rattle.audit_tree.proofs.depths.depth_of.Goals as goal

pub returns-then-count-le1-clause-depth : goal.returns-then-count-le1-clause-depth
returns-then-count-le1-clause-depth c =
    let most : depth c.args.count ≤ 0 = depth-least c.args.count 0 (omega arith) in
    omega arith

pub returns-then-count-le1-clause-least : goal.returns-then-count-le1-clause-least
returns-then-count-le1-clause-least c =
    let e : 0 ≡ depth c.args.count = returns-then-count-le1-clause-depth c in
    rw e (depth-IsLeastDepth c.args.count)

pub returns-clause-depth : goal.returns-clause-depth
returns-clause-depth c =
    let l = c.ilog2.result in
    let over : 2 ^ l < c.args.count = omega (arith, c.ilog2.ensures.power_le) in
    let room : c.args.count ≤ 2 ^ suc l = omega (arith, c.ilog2.ensures.next_power_gt, pow-suc 2 l) in
    let e : depth c.args.count ≡ suc l = depth_is c.args.count l over room in
    omega arith

pub returns-clause-least : goal.returns-clause-least
returns-clause-least c = rw (returns-clause-depth c) (depth-IsLeastDepth c.args.count)
