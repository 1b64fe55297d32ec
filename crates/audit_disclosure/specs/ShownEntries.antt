-- What a disclosure shows of an export.
use Rattle.std.specs.Prelude.{ℕ, ◌+◌, ◌==◌, Option, Some, None, List, [], ◌∷◌, if◌then◌else◌}
use Rattle.audit_chain.specs.Key.{next_key}
use Rattle.audit_chain.specs.EventData.{EventData}
use Rattle.audit_chain.specs.Entry.{link_after}
use Rattle.audit_chain.specs.EntryForm.{EntryParts, sealed_parts}
use Rattle.audit_link.specs.OpenedEntry.{read_under}
use Rattle.audit_disclosure.specs.declared.choice.Choice.{Choice}
use Rattle.audit_disclosure.specs.declared.disclosure.DisclosedKey.{DisclosedKey}
use Rattle.audit_disclosure.specs.Choosing.{is_chosen}

-- the key of the entry with this index, if there is one
abbrev pub key_at : List DisclosedKey → ℕ → Option (List ℕ)
key_at [] index = None
key_at (one ∷ keys) index = if one.index == index then Some one.key else key_at keys index

-- the event that an entry reads as under its key; nothing if it is sealed
abbrev pub shown_event : Option (List ℕ) → EntryParts → Option EventData
shown_event None parts = None
shown_event (Some key) parts = Some (read_under key parts)

-- what is shown of entries, of which the first has this index
abbrev pub shown_entries : List DisclosedKey → ℕ → List EntryParts → List (Option EventData)
shown_entries keys index [] = []
shown_entries keys index (parts ∷ entries) = shown_event (key_at keys index) parts ∷ shown_entries keys (index + 1) entries

-- the events that are chosen, and nothing in the place of others
abbrev pub chosen_events : Choice → ℕ → List EventData → List (Option EventData)
chosen_events choice index [] = []
chosen_events choice index (event ∷ events) =
    (if is_chosen choice index event.kind then Some event else None) ∷ chosen_events choice (index + 1) events

-- the parts of the entries that seal these events
abbrev pub parts_from : List ℕ → List ℕ → List EventData → List EntryParts
parts_from key last_link [] = []
parts_from key last_link (event ∷ events) =
    sealed_parts key last_link event ∷ parts_from (next_key key) (link_after key last_link event) events
