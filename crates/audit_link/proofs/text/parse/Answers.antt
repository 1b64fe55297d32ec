use Rattle.std.proofs.Common.{◌≡◌, ◌<◌, List, length, arith, sym, subst}
use Rattle.std.proofs.lemmas.Grind.{common_steps}
use Rattle.audit_link.specs.declared.kind_count.KindCount.{KindCount}
use Rattle.audit_link.proofs.Lines.{IsHalfway, steps, stuck, ends}
use Rattle.audit_link.proofs.text.parse.Goals as goal

pub returns-in_default : goal.returns-in_default
returns-in_default c = λ counts ascends is.
    let some : 0 < length c.loop-rest.rest.now = grind (arith, common_steps) in
    stuck counts c.loop-rest.counts.items c.loop-rest.rest.now (c.loop-rest.invariant counts ascends is) some c.in_default.ensures.read

pub loop-rest-preserved : goal.loop-rest-preserved
loop-rest-preserved c = λ counts ascends is.
    let some : 0 < length c.loop-rest.rest.now = grind (arith, common_steps) in
    subst (λ (found : List KindCount). IsHalfway counts found c.in-Some.after.now) (sym c.in_ok-push.ensures.items)
    (steps counts c.loop-rest.counts.items c.loop-rest.rest.now c.in-Some.after.now c.in-Some.counted (c.loop-rest.invariant counts ascends is) some c.in-Some.ensures.read)

pub returns : goal.returns
returns c = λ counts ascends is.
    let none : length c.loop-rest.rest.now ≡ 0 = grind (arith, common_steps) in
    ends counts c.loop-rest.counts.items c.loop-rest.rest.now (c.loop-rest.invariant counts ascends is) none
