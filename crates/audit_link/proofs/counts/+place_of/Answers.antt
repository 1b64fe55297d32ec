use Rattle.std.proofs.Common.{◌+◌, List, arith, subst, sym}
use Rattle.audit_link.specs.Places.{IsAscending, IsBefore, IsAt}
use Rattle.audit_link.specs.declared.kind_count.KindCount.{KindCount}
use Rattle.audit_link.proofs.Added.{empty_before, at_here, before_here, at_later, before_later, no_counts_left}
use Rattle.audit_link.proofs.counts.+place_of.Goals as goal

pub returns-in_default : goal.returns-in_default
returns-in_default t c =
    subst (λ (cs : List KindCount). IsBefore c.args.kind cs 0) (sym (no_counts_left c.args.counts.now c.in_default.ensures.cases)) (empty_before c.args.kind)

pub returns-then-first-kind : goal.returns-then-first-kind
returns-then-first-kind t c =
    let whole = c.in-Some.ensures.cases.0 in
    subst (λ (cs : List KindCount). IsAt c.args.kind cs 0 c.in-Some.first.now.count) (sym whole)
    (at_here c.args.kind c.in-Some.first.now c.in-Some.more.now c.if-first-kind.true)

pub returns-then-kind-first : goal.returns-then-kind-first
returns-then-kind-first t c =
    let whole = c.in-Some.ensures.cases.0 in
    let ascending = subst IsAscending whole c.requires in
    subst (λ (cs : List KindCount). IsBefore c.args.kind cs 0) (sym whole)
    (before_here c.args.kind c.in-Some.first.now c.in-Some.more.now ascending.1.2 c.if-kind-first.true)

pub returns-in-At : goal.returns-in-At
returns-in-At t c =
    let whole = c.in-Some.ensures.cases.0 in
    subst (λ (cs : List KindCount). IsAt c.args.kind cs (c.in-At.place + 1) c.in-At.count) (sym whole)
    (at_later c.args.kind c.in-Some.first.now c.in-Some.more.now c.in-At.place c.in-At.count (λ same. grind (arith, same, c.if-first-kind.false)) (omega (arith, c.if-kind-first.false)) c.in-At.ensures)

pub returns-in-Before : goal.returns-in-Before
returns-in-Before t c =
    let whole = c.in-Some.ensures.cases.0 in
    subst (λ (cs : List KindCount). IsBefore c.args.kind cs (c.in-Before.place + 1)) (sym whole)
    (before_later c.args.kind c.in-Some.first.now c.in-Some.more.now c.in-Before.place (λ same. grind (arith, same, c.if-first-kind.false)) (omega (arith, c.if-kind-first.false)) c.in-Before.ensures)
