use Rattle.std.proofs.Common.{◌≡◌, ◌<◌, ◌≤◌, ◌+◌, ◌^◌, length, arith, rules}
use Rattle.std.specs.List.{insert}
use Rattle.std.proofs.lemmas.Grind.{common_steps}
use Rattle.audit_base.specs.declared.limits.TheConstants.{RESERVED_KIND}
use Rattle.audit_link.specs.declared.counts.TheConstants.{MAX_KINDS}
use Rattle.audit_link.proofs.Added.{too_many_events, too_many_kinds, set_are, insert_are}
use Rattle.audit_link.proofs.counts.Counts.add_event.Goals as goal

pub returns-in_default-clause-fault : goal.returns-in_default-clause-fault
returns-in_default-clause-fault c =
    let same : c.deref.result.now ≡ c.args.self.now = first_of (search rules, grind (arith, common_steps)) in
    let many : 2 ^ 64 ≤ c.in-At.count + 1 = first_of (omega (arith, c.in_default.ensures), grind (arith, c.in_default.ensures)) in
    too_many_events c.args.kind c.in-At.place c.in-At.count c.deref.result.now c.args.self.now same c.in-At.ensures many

pub invariant_of-self : goal.invariant_of-self
invariant_of-self c =
    let fits : c.args.kind < RESERVED_KIND = omega (arith, c.ranges.kind.fits, c.if-kind-eq-RESERVED_KIND.false) in
    let next = c.in-Some.ensures in
    set_are c.args.kind c.in-At.place c.in-At.count c.in-Some.count c.deref.result.now c.self.inside.counts.items c.deref.ensures.value c.self.invariant c.in-At.ensures fits next.1
    (omega (arith, next.0, next.1))

pub returns-then-len-ge-MAX_KINDS-clause-fault : goal.returns-then-len-ge-MAX_KINDS-clause-fault
returns-then-len-ge-MAX_KINDS-clause-fault c =
    let same : c.deref.result.now ≡ c.args.self.now = first_of (search rules, grind (arith, common_steps)) in
    let many : MAX_KINDS ≤ length c.args.self.now = first_of (omega arith, grind (arith, common_steps)) in
    too_many_kinds c.args.kind c.in-Before.place c.deref.result.now c.args.self.now same c.in-Before.ensures many

pub invariant_of-self-else-is_err : goal.invariant_of-self-else-is_err
invariant_of-self-else-is_err c =
    let fits : c.args.kind < RESERVED_KIND = omega (arith, c.ranges.kind.fits, c.if-kind-eq-RESERVED_KIND.false) in
    let few : length c.self.inside.counts.items < MAX_KINDS = first_of (omega arith, grind (arith, common_steps)) in
    let is : c.insert.new.self.items ≡ insert c.self.inside.counts.items c.in-Before.place (record { kind = c.args.kind; count = 1 }) = first_of (search rules, grind (arith, common_steps, c.insert.ensures.items)) in
    insert_are c.args.kind c.in-Before.place c.deref.result.now c.self.inside.counts.items c.insert.new.self.items c.deref.ensures.value c.self.invariant c.in-Before.ensures fits few is
