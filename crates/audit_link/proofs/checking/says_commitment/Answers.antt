use Rattle.std.proofs.Common.{arith, ◌≡◌, ◌∙◌, sym}
use Rattle.std.proofs.lemmas.Bool.{false≢true}
use Rattle.audit_link.specs.Links.{commitment_event, keyed_in}
use Rattle.audit_link.proofs.Judged.{opens_some, says_no_other, says_event, says_payload}
use Rattle.audit_link.proofs.checking.says_commitment.Goals as goal

pub returns-then-opened-ne-LINK_KIND : goal.returns-then-opened-ne-LINK_KIND
returns-then-opened-ne-LINK_KIND c =
    let keyed = c.args.keyed.now in
    let opens = opens_some keyed.key c.deref.result.now keyed.entry.items c.in_ok-opened.field-0 c.in-Some.opened c.deref.ensures.value c.in-Some.is c.in_ok-opened.ensures in (
      λ impossible. absurd (false≢true impossible),
      λ says. absurd (says_no_other (keyed_in keyed) c.in-Some.opened (commitment_event c.args.commitment.now) opens (λ same. grind (arith, same, c.if-opened-ne-LINK_KIND.true)) says),
    )

pub returns : goal.returns
returns c =
    let keyed = c.args.keyed.now in
    let event = commitment_event c.args.commitment.now in
    let opens = opens_some keyed.key c.deref.result.now keyed.entry.items c.in_ok-opened.field-0 c.in-Some.opened c.deref.ensures.value c.in-Some.is c.in_ok-opened.ensures in
    let kind : c.in-Some.opened.kind ≡ 0 = grind (arith, c.if-opened-ne-LINK_KIND.false) in (
      λ equal. says_event (keyed_in keyed) c.in-Some.opened event opens kind (sym c.deref-2.ensures.value ∙ c.are_equal.ensures.0 equal ∙ c.deref-3.ensures.value ∙ c.in_ok-text.ensures),
      λ says. c.are_equal.ensures.1 (c.deref-2.ensures.value ∙ says_payload (keyed_in keyed) c.in-Some.opened event opens says ∙ sym (c.deref-3.ensures.value ∙ c.in_ok-text.ensures)),
    )
