use Rattle.std.proofs.Common.{arith}
use Rattle.std.proofs.lemmas.Bool.Decides.{nat_tests}
use Rattle.audit_base.proofs.Differences.{gathers_more, gathered}
use Rattle.audit_base.proofs.hash.is_same_hash.Goals as goal

pub loop-place-preserved : goal.loop-place-preserved
loop-place-preserved c = gathers_more _ _ _ _ c.loop-place.invariant

pub returns : goal.returns
returns c =
    let all = gathered c.loop-place.difference c.loop-place.place c.args.left.now c.args.right.now (omega arith) (omega arith) c.loop-place.invariant in
    (λ yes. all.0 (grind (arith, nat_tests)), λ same. let none = all.1 same in grind (arith, nat_tests))
