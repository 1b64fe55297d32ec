use Rattle.std.proofs.Common.{◌∙◌, ℕ, List, ap, subst}
use Rattle.audit_base.specs.Bytes.{zeros}
use Rattle.audit_chain.specs.Event.{IsEvent}
use Rattle.audit_chain.specs.Key.{next_key, entry_key}
use Rattle.audit_chain.specs.Entry.{link_after, sealed_entry}
use Rattle.audit_chain.specs.Entries.{first_link}
use Rattle.audit_link.specs.Links.{commitment_event}
use Rattle.audit_link.proofs.Judged.{made_link}
use Rattle.audit_link.proofs.Said.{made_accepted}
use Rattle.audit_link.proofs.making.make_link.Goals as goal

pub returns-clause-made : goal.returns-clause-made
unfolding zeros
returns-clause-made c =
    let key = c.args.first_key.now in
    made_link _ key c.args.old.now c.args.counts.now c.entry_key.ensures
    (c.in_ok-first.ensures.entry ∙ ap (sealed_entry key first_link) c.in_ok-commitment.ensures)
    (c.entry_key-2.ensures ∙ ap (λ k. entry_key k 0) c.in_ok-first.ensures.next)
    (c.in_ok-second.ensures.entry
    ∙ ap (λ (k : List ℕ). sealed_entry k c.in_ok-first.first.link c.in_ok-numbers.numbers) c.in_ok-first.ensures.next
    ∙ ap (λ (l : List ℕ). sealed_entry (next_key key) l c.in_ok-numbers.numbers) (c.in_ok-first.ensures.link ∙ ap (link_after key first_link) c.in_ok-commitment.ensures)
    ∙ ap (sealed_entry (next_key key) (link_after key first_link (commitment_event c.args.old.now))) c.in_ok-numbers.ensures.event)

pub returns-clause-accepted : goal.returns-clause-accepted
unfolding zeros
returns-clause-accepted c = λ half.
    made_accepted c.args.first_key.now c.args.old.now c.args.counts.now c.args.last c.args.hashes.items _ (returns-clause-made c)
    (subst IsEvent c.in_ok-commitment.ensures c.in_ok-first.ensures.event) c.in_ok-numbers.ensures.counts
    (subst IsEvent c.in_ok-numbers.ensures.event c.in_ok-second.ensures.event) half
