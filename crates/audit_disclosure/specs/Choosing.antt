-- Which entries are disclosed, and their keys.
use Rattle.std.specs.Prelude.{◌≡◌, ◌≢◌, ◌⊎◌, ◌||◌, ℕ, ◌+◌, ◌==◌, nat_le, ◌&&◌, Bool, Option, Some, None, List, [], ◌∷◌, ◌++◌, map}
use Rattle.std.specs.Prelude.{length, if◌then◌else◌}
use Rattle.std.specs.List.{AllByRecursion, list_any, slice_split, before_first, after_first}
use Rattle.audit_chain.specs.Key.{next_key, entry_key}
use Rattle.audit_chain.specs.Event.{EventData, IsEvent}
use Rattle.audit_chain.specs.Closing.{is_closed}
use Rattle.audit_chain.specs.Entries.{last_link_from}
use Rattle.audit_proof.specs.declared.commitment.Commitment.{Commitment}
use Rattle.audit_text.specs.Number.{number_in_text}
use Rattle.audit_verify.specs.declared.accepted.Accepted.{Accepted}
use Rattle.audit_verify.specs.declared.fault.Cause.TheVariants.{WrongCommitment, Memory}
use Rattle.audit_verify.specs.declared.fault.VerifyFault.{VerifyFault}
use Rattle.audit_verify.specs.Reading.{IsFaultThen}
use Rattle.audit_verify.specs.State.{StateData, bytes_from_state, next_state}
use Rattle.audit_verify.specs.Continuing.{IsVerifiedFrom, IsFaultFrom}
use Rattle.audit_verify.specs.Links.{LinksCollide}
use Rattle.audit_disclosure.specs.declared.choice.Choice.{Choice}
use Rattle.audit_disclosure.specs.declared.choice.Choice.TheVariants.{Kinds, Spans}
use Rattle.audit_disclosure.specs.declared.choice.Span.{Span}
use Rattle.audit_disclosure.specs.declared.disclosure.DisclosedKey.{DisclosedKey}
use Rattle.audit_disclosure.specs.declared.disclosure.Start.{Start}

-- the index is one of the span's
abbrev pub has_index : ℕ → Span → Bool
has_index index span = nat_le span.first index && nat_le index span.last

-- whether an entry with this index and of this kind is chosen
abbrev pub is_chosen : Choice → ℕ → ℕ → Bool
is_chosen (Kinds kinds) index kind = list_any (λ one. one == kind) kinds.items
is_chosen (Spans chosen) index kind = list_any (has_index index) chosen.items

-- the key of an entry's keystream, if the entry is chosen
abbrev pub chosen_key : Choice → List ℕ → ℕ → ℕ → List DisclosedKey
chosen_key choice key index kind =
    if is_chosen choice index kind then record { index = index; key = entry_key key kind } ∷ [] else []

-- the keys of those of these events that are chosen; the first is sealed under this key and has this index
abbrev pub chosen_keys : Choice → List ℕ → ℕ → List EventData → List DisclosedKey
chosen_keys choice key index [] = []
chosen_keys choice key index (event ∷ events) =
    chosen_key choice key index event.kind ++ chosen_keys choice (next_key key) (index + 1) events

-- where an export after a state begins
abbrev pub start_after : StateData → Start
start_after state = record { link = state.link; tree = state.frontier }

-- The first bytes are verified. In the second ones the log ends in the same way: its events are the same, or some link of
-- both is the SHA-256 of two texts. The keys are those of the chosen events.
pub record DisclosesChosen (choice : Choice) (state : StateData) (commitment : Commitment) (bytes : List ℕ) (start : Start)
    (keys : List DisclosedKey) (count : ℕ) : Type 0 where
  pub events : List EventData
  pub others : List EventData
  pub verified : IsVerifiedFrom state commitment bytes events
  pub same : (others ≡ events) ⊎ LinksCollide state.key state.link state.link events others
  pub start_is : start ≡ start_after state
  pub keys_are : keys ≡ chosen_keys choice state.key state.frontier.count others
  pub count_is : count ≡ (next_state state events).frontier.count

abbrev pub is_comma_byte : ℕ → Bool
is_comma_byte byte = byte == 44

abbrev pub is_dash : ℕ → Bool
is_dash byte = byte == 45

abbrev pub span_with : Option ℕ → Option ℕ → Option Span
span_with None last = None
span_with (Some first) None = None
span_with (Some first) (Some last) = if nat_le first last then Some (record { first = first; last = last }) else None

-- a number, or two with a dash between them
abbrev pub span_in_word : List ℕ → Option Span
span_in_word word =
    if list_any is_dash word
    then span_with (number_in_text (before_first is_dash word)) (number_in_text (after_first is_dash word))
    else span_with (number_in_text word) (number_in_text word)

-- the parts of the word between its commas are these spans
abbrev pub AreSpansInWord : List ℕ → List Span → Type 0
AreSpansInWord word found = map span_in_word (slice_split is_comma_byte word) ≡ map (λ span. Some span) found

-- how the log ends after the entries of these events
abbrev pub log_end_after : StateData → List EventData → Accepted
log_end_after state events = record {
  count = state.frontier.count + length events;
  last_link = last_link_from state.key state.link events;
  closed = state.closed || is_closed events;
}

-- these bytes are the entries of events after which the log ends as the accepted one does, and the keys are those of the
-- chosen ones
pub record TakesKeys (choice : Choice) (state : StateData) (accepted : Accepted) (again : List ℕ)
    (keys : List DisclosedKey) : Type 0 where
  pub events : List EventData
  pub each : AllByRecursion IsEvent events
  pub same_end : accepted ≡ log_end_after state events
  pub whole : again ≡ bytes_from_state state events
  pub keys_are : keys ≡ chosen_keys choice state.key state.frontier.count events

-- the second bytes have a fault after the entries of events, or their log ends otherwise, or memory was refused
pub record StopsKeys (state : StateData) (accepted : Accepted) (again : List ℕ) (fault : VerifyFault) : Type 0 where
  pub events : List EventData
  pub wrong : IsFaultThen state again events fault
      ⊎ (((fault.cause ≡ WrongCommitment) × (again ≡ bytes_from_state state events)
      × (accepted ≢ log_end_after state events)) ⊎ (fault.cause ≡ Memory))

-- the first bytes have this fault, or they are verified and the second ones have it
abbrev pub FailsDisclosing : StateData → Commitment → List ℕ → List ℕ → VerifyFault → Type 0
FailsDisclosing state commitment bytes again fault = IsFaultFrom state commitment bytes fault
    ⊎ ((events : List EventData) × IsVerifiedFrom state commitment bytes events
    × StopsKeys state (log_end_after state events) again fault)
