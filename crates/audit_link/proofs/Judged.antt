-- What entries say, and how a link is judged.
use Rattle.std.specs.Prelude.{IsTrue, ◌↔◌, is_some}
use Rattle.std.proofs.Common.{◌≡◌, ℕ, Option, Some, None, List, refl, sym, ap, subst, ◌∙◌}
use Rattle.std.proofs.lemmas.Bool.{false≢true}
use Rattle.audit_chain.specs.EventData.{EventData}
use Rattle.audit_chain.specs.Key.{next_key, entry_key}
use Rattle.audit_chain.specs.Entry.{link_after, sealed_entry}
use Rattle.audit_chain.specs.Entries.{first_link}
use Rattle.audit_proof.specs.Acceptance.{commitment_to}
use Rattle.audit_proof.specs.declared.commitment.Commitment.{Commitment}
use Rattle.audit_link.specs.declared.kind_count.KindCount.{KindCount}
use Rattle.audit_link.specs.declared.opening.OpenedEvent.{OpenedEvent}
use Rattle.audit_link.specs.CountsText.{AreCountsIn}
use Rattle.audit_link.specs.OpenedEntry.{read_under, ReadsAs, OpensAs, event_in}
use Rattle.audit_link.specs.Links.{Keyed, LinkData, entries_in, commitment_event, counts_event, link_between}
use Rattle.audit_link.specs.Accepted.{SaysEvent, AcceptsNewHalf, AreCountsOf}
use Rattle.audit_link.proofs.Opened.{one_alone}
use Rattle.audit_link.proofs.OneReading.{same_data}

-- what an entry was opened as is all that it says
pub opened_alone : (key bytes : List ℕ) (opened : OpenedEvent) (event : EventData) → OpensAs key bytes (Some opened) → ReadsAs key bytes event → event_in opened ≡ event
opened_alone key bytes opened event opens reads =
    opens.2 ∙ ap (read_under key) (one_alone bytes opens.0 reads.0 opens.1 reads.1) ∙ sym reads.2

pub opened_reads : (key bytes : List ℕ) (opened : OpenedEvent) (event : EventData) → OpensAs key bytes (Some opened) → event_in opened ≡ event → ReadsAs key bytes event
opened_reads key bytes opened event opens same = (opens.0, opens.1, sym same ∙ opens.2)

pub unopened : (key bytes : List ℕ) (event : EventData) → OpensAs key bytes None → ReadsAs key bytes event → ⊥
unopened key bytes event opens reads = opens reads.0 reads.1

event_of : ℕ → List ℕ → EventData
event_of kind payload = record { kind = kind; payload = payload }

-- an opened event of this kind and payload
pub opened_is : (opened : OpenedEvent) (event : EventData) → opened.kind ≡ event.kind → opened.payload.items ≡ event.payload → event_in opened ≡ event
unfolding event_of
opened_is opened event kind payload = ap (λ k. event_of k opened.payload.items) kind ∙ ap (event_of event.kind) payload

pub kind_is : (opened : OpenedEvent) (event : EventData) → event_in opened ≡ event → opened.kind ≡ event.kind
kind_is opened event same = ap (λ (e : EventData). e.kind) same

pub payload_is : (opened : OpenedEvent) (event : EventData) → event_in opened ≡ event → opened.payload.items ≡ event.payload
payload_is opened event same = ap (λ (e : EventData). e.payload) same

-- the numbers that an opened event is the text of
pub counts_of : (keyed : Keyed) (opened : OpenedEvent) (found : Option (List KindCount)) → OpensAs keyed.key keyed.entry (Some opened) → opened.kind ≡ 0 → AreCountsIn opened.payload.items found → AreCountsOf keyed found
counts_of keyed opened None opens kind read = λ counts are says.
    read counts record { counts_are = are; text_is = payload_is opened (counts_event counts) (opened_alone keyed.key keyed.entry opened (counts_event counts) opens says) }
counts_of keyed opened (Some counts) opens kind read = (
  read.counts_are,
  opened_reads keyed.key keyed.entry opened (counts_event counts) opens (opened_is opened (counts_event counts) kind read.text_is),
)

pub no_counts : (keyed : Keyed) (opened : OpenedEvent) → OpensAs keyed.key keyed.entry (Some opened) → (opened.kind ≡ 0 → ⊥) → AreCountsOf keyed None
no_counts keyed opened opens other = λ counts are says. other (kind_is opened (counts_event counts) (opened_alone keyed.key keyed.entry opened (counts_event counts) opens says))

-- the new half, if the commitment and the first entry are so
pub new_half : (old new : Commitment) (link : LinkData) (found : Option (List KindCount)) → new ≡ commitment_to (entries_in link) → SaysEvent link.first (commitment_event old) → AreCountsOf link.second found
    → IsTrue (is_some found) ↔ AcceptsNewHalf old new link
new_half old new link None commitment first none = (
  λ impossible. absurd (false≢true impossible),
  λ accepted. absurd (none accepted.0 accepted.1.counts_are accepted.1.second),
)
new_half old new link (Some counts) commitment first says = (
  λ found. (counts, record { commitment = commitment; first = first; counts_are = says.0; second = says.1 }),
  λ accepted. refl,
)

-- a link with the same parts as a link that was made
pub made_link : (link : LinkData) (first_key : List ℕ) (old : Commitment) (counts : List KindCount) → link.first.key ≡ entry_key first_key 0 → link.first.entry ≡ sealed_entry first_key first_link (commitment_event old)
    → link.second.key ≡ entry_key (next_key first_key) 0 → link.second.entry ≡ sealed_entry (next_key first_key) (link_after first_key first_link (commitment_event old)) (counts_event counts)
    → link ≡ link_between first_key old counts link.last link.hashes
made_link link first_key old counts first_key_is first_is second_key_is second_is =
    same_data link (link_between first_key old counts link.last link.hashes) refl record {
      last_link = refl;
      last_tag = refl;
      first_key = first_key_is;
      second_key = second_key_is;
      first = first_is;
      second = second_is;
    }

-- what was found when an entry was opened
pub opens_some : (key bytes entry : List ℕ) (found : Option OpenedEvent) (opened : OpenedEvent) → bytes ≡ entry → found ≡ Some opened → OpensAs key bytes found → OpensAs key entry (Some opened)
opens_some key bytes entry found opened same is opens = subst (λ (b : List ℕ). OpensAs key b (Some opened)) same (subst (OpensAs key bytes) is opens)

pub says_no_other : (keyed : Keyed) (opened : OpenedEvent) (event : EventData) → OpensAs keyed.key keyed.entry (Some opened) → (opened.kind ≡ event.kind → ⊥) → SaysEvent keyed event → ⊥
says_no_other keyed opened event opens other says = other (kind_is opened event (opened_alone keyed.key keyed.entry opened event opens says))

pub says_event : (keyed : Keyed) (opened : OpenedEvent) (event : EventData) → OpensAs keyed.key keyed.entry (Some opened) → opened.kind ≡ event.kind → opened.payload.items ≡ event.payload → SaysEvent keyed event
says_event keyed opened event opens kind payload = opened_reads keyed.key keyed.entry opened event opens (opened_is opened event kind payload)

pub says_payload : (keyed : Keyed) (opened : OpenedEvent) (event : EventData) → OpensAs keyed.key keyed.entry (Some opened) → SaysEvent keyed event → opened.payload.items ≡ event.payload
says_payload keyed opened event opens says = payload_is opened event (opened_alone keyed.key keyed.entry opened event opens says)
