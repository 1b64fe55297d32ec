-- What the entries of a link say, and that two links to one log say the same.
use Rattle.std.specs.Prelude.{codes}
use Rattle.std.specs.Fmt.{decimal}
use Rattle.std.specs.Result.{result_ok}
use Rattle.std.proofs.Common.{inl, inr, ◌≡◌, ◌⊎◌, ◌≢◌, ℕ, Some, List, [], ◌∷◌, ◌++◌, length, get_or, refl, sym, ap, subst, ◌∙◌, arith, bytes_eq, length-append}
use Rattle.std.proofs.lemmas.Bool.{cases_Bool, true≢false}
use Rattle.std.proofs.lemmas.Slice.Eq.{bytes_eq-Decides}
use Rattle.hex.specs.Hex.{encode_lower, lower_digits, decode_sized}
use Rattle.hex.proofs.HexLemmas.{length-encode_with}
use Rattle.audit_base.specs.declared.limits.TheConstants.{HASH_LEN}
use Rattle.audit_text.specs.Number.{number_in_text}
use Rattle.audit_chain.specs.Event.{EventData, IsEvent}
use Rattle.audit_chain.specs.EntryForm.{EntryParts, sealed_parts}
use Rattle.audit_chain.specs.Entry.{link_after}
use Rattle.audit_chain.specs.Entries.{first_link, log_entries}
use Rattle.audit_chain.specs.Key.{next_key}
use Rattle.audit_chain.proofs.Opening.{sealed_parts_fit, opened_event-cipher_of}
use Rattle.audit_proof.specs.Acceptance.{commitment_to}
use Rattle.audit_proof.specs.declared.commitment.Commitment.{Commitment}
use Rattle.audit_proof.specs.SoundCommitment.{IsSoundCommitment}
use Rattle.audit_proof.specs.TreesCollide.{TreesCollide}
use Rattle.audit_text.proofs.FieldLines.{hex_read}
use Rattle.audit_text.proofs.FieldLines.{number_read, same_some, same_number}
use Rattle.audit_proof.proofs.SameEntries.{same_entries}
use Rattle.audit_link.specs.declared.kind_count.KindCount.{KindCount}
use Rattle.audit_link.specs.declared.link.ClosingEntry.{ClosingEntry}
use Rattle.audit_link.specs.Counts.{AreCounts}
use Rattle.audit_link.specs.CountsText.{counts_text}
use Rattle.audit_link.specs.OpenedEntry.{IsEntryOf, read_under}
use Rattle.audit_link.specs.Links.{Keyed, LinkData, entries_in, commitment_payload, commitment_event, counts_event, keyed_entry, link_between}
use Rattle.audit_link.specs.Accepted.{SaysEvent, SaysCounts, AcceptsLink, AcceptsOldHalf, ShowTwoTexts}
use Rattle.audit_link.proofs.Opened.{one_alone}
use Rattle.audit_link.proofs.OneReading.{cut_alike}
use Rattle.audit_link.proofs.Lines.{one_text}

same_or_not : (one other : List ℕ) → (one ≡ other) ⊎ (one ≢ other)
same_or_not one other =
    let judged = bytes_eq-Decides one other in
    elim (cases_Bool (bytes_eq one other)) [
      | inl found ↦ inl (judged.0 found)
      | inr found ↦ inr (λ is. true≢false (sym (judged.1 is) ∙ found))
    ]

event_of : ℕ → List ℕ → EventData
event_of kind payload = record { kind = kind; payload = payload }

same_event_or_not : (event another : EventData) → event.kind ≡ another.kind → (event ≡ another) ⊎ (event ≢ another)
unfolding event_of
same_event_or_not event another kinds = elim (same_or_not event.payload another.payload) [
  | inl same ↦ inl (ap (λ k. event_of k event.payload) kinds ∙ ap (λ p. event_of another.kind p) same)
  | inr other ↦ inr (λ is. other (ap (λ (e : EventData). e.payload) is))
]

-- one entry reads as one event, or as two under two keys
pub said_alike : (one other : Keyed) (event another : EventData) → one.entry ≡ other.entry → SaysEvent one event → SaysEvent other another → (event ≡ another) ⊎ ShowTwoTexts one other event another
said_alike one other event another entries says also =
    let is : IsEntryOf other.entry says.0 = (says.1.0, sym entries ∙ says.1.1) in
    let parts : says.0 ≡ also.0 = one_alone other.entry says.0 also.0 is also.1 in
    let kinds : event.kind ≡ another.kind = ap (λ (e : EventData). e.kind) says.2 ∙ ap (λ (p : EntryParts). p.kind) parts ∙ sym (ap (λ (e : EventData). e.kind) also.2) in
    elim (same_or_not one.key other.key) [
      | inl same ↦ inl (says.2 ∙ ap (λ k. read_under k says.0) same ∙ ap (read_under other.key) parts ∙ sym also.2)
      | inr keys ↦ elim (same_event_or_not event another kinds) [
        | inl same ↦ inl same
        | inr events ↦ inr record { same_entry = entries; other_key = keys; one_says = says; other_says = also; other_event = events }
      ]
    ]

given : ℕ → List ℕ → Commitment
given count root = record { count = count; root = root }

-- a text is that of one commitment
commitment_alike : (old other : Commitment) → IsSoundCommitment old → IsSoundCommitment other → commitment_payload old ≡ commitment_payload other → old ≡ other
unfolding given
commitment_alike old other is also same =
    let front : List ℕ = decimal old.count ++ codes ":" in
    let back : List ℕ = decimal other.count ++ codes ":" in
    let roots : length (encode_lower old.root) ≡ length (encode_lower other.root) =
    omega (arith, length-encode_with lower_digits old.root, length-encode_with lower_digits other.root, is.root.long, also.root.long) in
    let fronts : length front ≡ length back =
    omega (arith, ap length same, length-append front (encode_lower old.root), length-append back (encode_lower other.root), roots) in
    let cut = cut_alike front back (encode_lower old.root) (encode_lower other.root) fronts same in
    let digits : length (decimal old.count) ≡ length (decimal other.count) =
    omega (arith, fronts, length-append (decimal old.count) (codes ":"), length-append (decimal other.count) (codes ":")) in
    let counts = (cut_alike (decimal old.count) (decimal other.count) (codes ":") (codes ":") digits cut.0).0 in
    let count : Some old.count ≡ Some other.count = sym (number_read old.count is.count) ∙ ap number_in_text counts ∙ number_read other.count also.count in
    let root : Some old.root ≡ Some other.root = sym (hex_read old.root is.root.long is.root.bytes) ∙ ap (λ d. result_ok (decode_sized d HASH_LEN)) cut.1 ∙ hex_read other.root also.root.long also.root.bytes in
    ap (λ k. given k old.root) (same_number old.count other.count count) ∙ ap (λ r. given other.count r) (same_some old.root other.root root)

payload_alike : (event another : EventData) → event ≡ another → event.payload ≡ another.payload
payload_alike event another same = ap (λ (e : EventData). e.payload) same

pub one_old : (old other new : Commitment) (link another : LinkData) → IsSoundCommitment old → IsSoundCommitment other → AcceptsLink old new link → AcceptsLink other new another
    → (old ≡ other) ⊎ (TreesCollide (entries_in link) (entries_in another) ⊎ ShowTwoTexts link.first another.first (commitment_event old) (commitment_event other))
one_old old other new link another is also first second =
    let says = first.new_half.1 in
    let said = second.new_half.1 in
    elim (same_entries (entries_in link) (entries_in another) (sym says.commitment ∙ said.commitment)) [
      | inr collision ↦ inr (inl collision)
      | inl entries ↦ elim (said_alike link.first another.first (commitment_event old) (commitment_event other) (ap (λ (es : List (List ℕ)). get_or es 0 []) entries) says.first said.first) [
        | inl same ↦ inl (commitment_alike old other is also (payload_alike (commitment_event old) (commitment_event other) same))
        | inr keys ↦ inr (inr keys)
      ]
    ]

pub one_list : (old other new : Commitment) (link another : LinkData) (counts others : List KindCount) → SaysCounts old new link counts → SaysCounts other new another others
    → (counts ≡ others) ⊎ (TreesCollide (entries_in link) (entries_in another) ⊎ ShowTwoTexts link.second another.second (counts_event counts) (counts_event others))
one_list old other new link another counts others says said =
    elim (same_entries (entries_in link) (entries_in another) (sym says.commitment ∙ said.commitment)) [
      | inr collision ↦ inr (inl collision)
      | inl entries ↦ elim (said_alike link.second another.second (counts_event counts) (counts_event others) (ap (λ (es : List (List ℕ)). get_or es 1 []) entries) says.second said.second) [
        | inl same ↦ inl (one_text (counts_text counts) counts others record { counts_are = says.counts_are; text_is = refl }
            record { counts_are = said.counts_are; text_is = payload_alike (counts_event counts) (counts_event others) same })
        | inr keys ↦ inr (inr keys)
      ]
    ]

-- an entry that is sealed says its event
sealed_says : (key last_link : List ℕ) (event : EventData) → IsEvent event → SaysEvent (keyed_entry key last_link event) event
sealed_says key last_link event is = (sealed_parts key last_link event, (sealed_parts_fit key last_link event is, refl), sym (opened_event-cipher_of key event))

made_says : (first_key : List ℕ) (old : Commitment) (counts : List KindCount) (last : ClosingEntry) (hashes : List (List ℕ)) → IsEvent (commitment_event old) → AreCounts counts → IsEvent (counts_event counts)
    → SaysCounts old (commitment_to (log_entries first_key (commitment_event old ∷ counts_event counts ∷ []))) (link_between first_key old counts last hashes) counts
made_says first_key old counts last hashes first are second = record {
  commitment = refl;
  first = sealed_says first_key first_link (commitment_event old) first;
  counts_are = are;
  second = sealed_says (next_key first_key) (link_after first_key first_link (commitment_event old)) (counts_event counts) second;
}

pub made_accepted : (first_key : List ℕ) (old : Commitment) (counts : List KindCount) (last : ClosingEntry) (hashes : List (List ℕ)) (link : LinkData) → link ≡ link_between first_key old counts last hashes
    → IsEvent (commitment_event old) → AreCounts counts → IsEvent (counts_event counts) → AcceptsOldHalf old link
    → AcceptsLink old (commitment_to (log_entries first_key (commitment_event old ∷ counts_event counts ∷ []))) link
made_accepted first_key old counts last hashes link is first are second half =
    let new : Commitment = commitment_to (log_entries first_key (commitment_event old ∷ counts_event counts ∷ [])) in
    let says : SaysCounts old new link counts = subst (λ (l : LinkData). SaysCounts old new l counts) (sym is) (made_says first_key old counts last hashes first are second) in
    record { old_half = half; new_half = (counts, says) }
