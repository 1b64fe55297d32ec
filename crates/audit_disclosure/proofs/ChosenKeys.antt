-- The keys of chosen entries, and what they open.
use Rattle.std.proofs.Common.{inl, inr, ◌≡◌, ◌∙◌, ℕ, suc, ◌+◌, ◌<◌, cond, Some, None, List, [], ◌∷◌, ◌++◌, length, refl, sym, ap, arith, append_assoc, append-nil}
use Rattle.std.proofs.lemmas.Bool.{cases_Bool, ne_eqb, eq-eqb}
use Rattle.audit_chain.specs.Key.{next_key, entry_key, evolved_key}
use Rattle.audit_chain.specs.Event.{EventData}
use Rattle.audit_chain.specs.Entry.{link_after}
use Rattle.audit_chain.specs.EntryForm.{EntryParts, sealed_parts}
use Rattle.audit_chain.proofs.Chaining.{evolved_key-next}
use Rattle.audit_chain.proofs.Opening.{opened_event-cipher_of}
use Rattle.audit_link.specs.OpenedEntry.{read_under}
use Rattle.audit_disclosure.specs.declared.choice.Choice.{Choice}
use Rattle.audit_disclosure.specs.declared.disclosure.DisclosedKey.{DisclosedKey}
use Rattle.audit_disclosure.specs.Choosing.{is_chosen, chosen_key, chosen_keys}
use Rattle.audit_disclosure.specs.ShownEntries.{key_at, shown_event, shown_entries, chosen_events, parts_from}

-- one more event
pub chosen_keys_more : (choice : Choice) (key : List ℕ) (first : ℕ) (events : List EventData) (event : EventData)
    → chosen_keys choice key first (events ++ event ∷ []) ≡ chosen_keys choice key first events ++ chosen_key choice (evolved_key key (length events)) (first + length events) event.kind
chosen_keys_more choice key first [] event = append-nil (chosen_key choice key first event.kind) ∙ ap (λ n. chosen_key choice key n event.kind) (let e : first ≡ first + 0 = omega arith in e)
chosen_keys_more choice key first (one ∷ events) event =
    ap (λ ks. chosen_key choice key first one.kind ++ ks) (chosen_keys_more choice (next_key key) (first + 1) events event)
    ∙ sym (append_assoc (chosen_key choice key first one.kind) (chosen_keys choice (next_key key) (first + 1) events) _)
    ∙ ap (λ ks. (chosen_key choice key first one.kind ++ chosen_keys choice (next_key key) (first + 1) events) ++ ks)
    (ap (λ k. chosen_key choice k (first + 1 + length events) event.kind) (evolved_key-next key (length events))
    ∙ ap (λ n. chosen_key choice (evolved_key key (suc (length events))) n event.kind) (let e : first + 1 + length events ≡ first + suc (length events) = omega arith in e))

-- ---- what the keys open

-- the key of its keystream opens an entry
pub opens_its_entry : (key last_link : List ℕ) (event : EventData) → read_under (entry_key key event.kind) (sealed_parts key last_link event) ≡ event
opens_its_entry key last_link event = opened_event-cipher_of key event

-- no key of a later entry is that of an earlier one
no_key_before : (choice : Choice) (key : List ℕ) (first index : ℕ) (events : List EventData) → index < first → key_at (chosen_keys choice key first events) index ≡ None
no_key_before choice key first index [] before = refl
no_key_before choice key first index (event ∷ events) before =
    let later = no_key_before choice (next_key key) (first + 1) index events (omega (arith, before)) in
    elim (cases_Bool (is_chosen choice first event.kind)) [
      | inl has ↦
          ap (λ b. key_at (cond b (record { index = first; key = entry_key key event.kind } ∷ []) [] ++ chosen_keys choice (next_key key) (first + 1) events) index) has
          ∙ ap (λ b. cond b (Some (entry_key key event.kind)) (key_at (chosen_keys choice (next_key key) (first + 1) events) index)) (ne_eqb first index (λ same. omega (arith, same, before)))
          ∙ later
      | inr lacks ↦
          ap (λ b. key_at (cond b (record { index = first; key = entry_key key event.kind } ∷ []) [] ++ chosen_keys choice (next_key key) (first + 1) events) index) lacks
          ∙ later
    ]

-- keys of earlier entries show nothing of later ones
shown_later : (one : DisclosedKey) (keys : List DisclosedKey) (index : ℕ) (entries : List EntryParts) → one.index < index → shown_entries (one ∷ keys) index entries ≡ shown_entries keys index entries
shown_later one keys index [] before = refl
shown_later one keys index (parts ∷ entries) before =
    ap (λ b. shown_event (cond b (Some one.key) (key_at keys index)) parts ∷ shown_entries (one ∷ keys) (index + 1) entries) (ne_eqb one.index index (λ same. omega (arith, same, before)))
    ∙ ap (λ es. shown_event (key_at keys index) parts ∷ es) (shown_later one keys (index + 1) entries (omega (arith, before)))

pub shows_chosen : (choice : Choice) (key last_link : List ℕ) (first : ℕ) (events : List EventData)
    → shown_entries (chosen_keys choice key first events) first (parts_from key last_link events) ≡ chosen_events choice first events
shows_chosen choice key last_link first [] = refl
shows_chosen choice key last_link first (event ∷ events) =
    let parts = sealed_parts key last_link event in
    let rest = parts_from (next_key key) (link_after key last_link event) events in
    let later = chosen_keys choice (next_key key) (first + 1) events in
    let one : DisclosedKey = record { index = first; key = entry_key key event.kind } in
    let tail = shows_chosen choice (next_key key) (link_after key last_link event) (first + 1) events in
    elim (cases_Bool (is_chosen choice first event.kind)) [
      | inl has ↦
          ap (λ b. shown_entries (cond b (one ∷ []) [] ++ later) first (parts ∷ rest)) has
          ∙ ap (λ b. shown_event (cond b (Some one.key) (key_at later first)) parts ∷ shown_entries (one ∷ later) (first + 1) rest) (eq-eqb first first refl)
          ∙ ap (λ e. Some e ∷ shown_entries (one ∷ later) (first + 1) rest) (opens_its_entry key last_link event)
          ∙ ap (λ es. Some event ∷ es) (shown_later one later (first + 1) rest (omega arith) ∙ tail)
          ∙ ap (λ b. cond b (Some event) None ∷ chosen_events choice (first + 1) events) (sym has)
      | inr lacks ↦
          ap (λ b. shown_entries (cond b (one ∷ []) [] ++ later) first (parts ∷ rest)) lacks
          ∙ ap (λ k. shown_event k parts ∷ shown_entries later (first + 1) rest) (no_key_before choice (next_key key) (first + 1) first events (omega arith))
          ∙ ap (λ es. None ∷ es) tail
          ∙ ap (λ b. cond b (Some event) None ∷ chosen_events choice (first + 1) events) (sym lacks)
    ]
