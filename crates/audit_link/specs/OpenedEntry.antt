-- What an entry says to whoever has the key of its keystream.
use Rattle.std.specs.Prelude.{◌≡◌, ℕ, List, Option, Some, None, length}
use Rattle.audit_chain.specs.EventData.{EventData}
use Rattle.audit_chain.specs.EntryForm.{EntryParts, AreParts, bytes_of_parts}
use Rattle.audit_chain.specs.Keystream.{keystream, xor_bytes}
use Rattle.audit_link.specs.declared.opening.OpenedEvent.{OpenedEvent}

-- the bytes are one entry with these parts, and nothing else
abbrev pub IsEntryOf : List ℕ → EntryParts → Type 0
IsEntryOf bytes parts = AreParts parts × (bytes ≡ bytes_of_parts parts)

abbrev pub IsSoleEntry : List ℕ → Type 0
IsSoleEntry bytes = (parts : EntryParts) × IsEntryOf bytes parts

-- the event that an entry reads as under a key of a keystream
abbrev pub read_under : List ℕ → EntryParts → EventData
read_under key parts = record {
  kind = parts.kind;
  payload = xor_bytes parts.cipher (keystream key (length parts.cipher));
}

-- the bytes are one entry, which reads as this event under this key
abbrev pub ReadsAs : List ℕ → List ℕ → EventData → Type 0
ReadsAs key bytes event = (parts : EntryParts) × IsEntryOf bytes parts × (event ≡ read_under key parts)

-- an opened event, as contracts see it
abbrev pub event_in : OpenedEvent → EventData
event_in opened = record { kind = opened.kind; payload = opened.payload.items }

-- the event that bytes read as under a key, if they are one entry; otherwise nothing
abbrev pub OpensAs : List ℕ → List ℕ → Option OpenedEvent → Type 0
OpensAs key bytes (Some opened) = (parts : EntryParts) × IsEntryOf bytes parts × (event_in opened ≡ read_under key parts)
OpensAs key bytes None = (parts : EntryParts) → ¬ IsEntryOf bytes parts
