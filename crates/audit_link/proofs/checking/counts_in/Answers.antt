use Rattle.std.proofs.Common.{arith, ◌≡◌, List, ℕ, subst}
use Rattle.audit_link.specs.CountsText.{AreCountsIn}
use Rattle.audit_link.specs.Links.{keyed_in}
use Rattle.audit_link.proofs.Judged.{opens_some, counts_of, no_counts}
use Rattle.audit_link.proofs.checking.counts_in.Goals as goal

pub returns-then-opened-ne-LINK_KIND : goal.returns-then-opened-ne-LINK_KIND
returns-then-opened-ne-LINK_KIND c =
    let keyed = c.args.link.now.second in
    let opens = opens_some keyed.key c.deref.result.now keyed.entry.items c.in_ok-opened.field-0 c.in-Some.opened c.deref.ensures.value c.in-Some.is c.in_ok-opened.ensures in
    no_counts (keyed_in keyed) c.in-Some.opened opens (λ same. grind (arith, same, c.if-opened-ne-LINK_KIND.true))

pub returns : goal.returns
returns c =
    let keyed = c.args.link.now.second in
    let opens = opens_some keyed.key c.deref.result.now keyed.entry.items c.in_ok-opened.field-0 c.in-Some.opened c.deref.ensures.value c.in-Some.is c.in_ok-opened.ensures in
    let kind : c.in-Some.opened.kind ≡ 0 = grind (arith, c.if-opened-ne-LINK_KIND.false) in
    counts_of (keyed_in keyed) c.in-Some.opened c.in_ok-counts.counts opens kind
    (subst (λ (bytes : List ℕ). AreCountsIn bytes c.in_ok-counts.counts) c.deref-2.ensures.value c.in_ok-counts.ensures)
