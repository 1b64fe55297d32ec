-- Who of the connections that wait comes next, and when a vacant place is left vacant.
use Rattle.std.specs.Prelude.{◌≡◌, ◌≢◌, ◌⊎◌, ℕ, Bool, true, false, Option, Some, None, is_some, IfSome, List, [], ◌∷◌}
use Rattle.std.specs.Ordering.{nat_cmp}
use Rattle.std.specs.BTreeMap.{get}
use Rattle.audit_serve_door.specs.declared.choice.Heads.{Heads}
use Rattle.audit_serve_door.specs.declared.choice.Taken.{Taken}
use Rattle.audit_serve_door.specs.declared.waiting.Waiting.{Waiting}
use Rattle.audit_serve_door.specs.Choice.{next_entry}
use Rattle.audit_serve_door.specs.Notes.{NoteModel}
use Rattle.audit_serve_door.specs.Waits.{heard_at, NoArrival, ChangesWaiters}

-- the first number of those with one, in rising order, and the first of several numbers
abbrev pub first_number : {A : Type 0} → List (ℕ × A) → Option ℕ
first_number [] = None
first_number (one ∷ others) = Some one.0

abbrev pub first_of_all : List ℕ → Option ℕ
first_of_all [] = None
first_of_all (number ∷ numbers) = Some number

abbrev pub has_some : {A : Type 0} → List A → Bool
has_some [] = false
has_some (one ∷ others) = true

module _ {S : Type 0} where
  -- one waits that has sent something and only reads, or doesn't only read
  abbrev pub has_reader : Waiting S → Bool
  has_reader waiting = has_some waiting.readers.entries

  abbrev pub has_other : Waiting S → Bool
  has_other waiting = has_some waiting.others.entries

  -- one with this number waits that has sent something and doesn't only read
  abbrev pub waits_as_other : Option ℕ → Waiting S → Bool
  waits_as_other None waiting = false
  waits_as_other (Some number) waiting = is_some (get nat_cmp waiting.others number)

  -- those that come next
  abbrev pub heads_of : Waiting S → Heads
  heads_of waiting = record {
    reader = first_number waiting.readers.entries;
    other = first_number waiting.others.entries;
    closing = first_of_all waiting.closing.keys;
    closing_waits = waits_as_other (first_of_all waiting.closing.keys) waiting;
  }

  -- nobody who waits may have a place
  abbrev pub NobodyEnters : Taken → Waiting S → Type 0
  NobodyEnters taken waiting = IfSome (next_entry (heads_of waiting) taken) (λ number. heard_at waiting number ≡ None)

-- Nobody came to a vacant place: nobody who waits may have one, or somebody who was next was turned away.
pub record LeavesVacant {S J : Type 0} (N : NoteModel J) (taken : Taken) (old new : Waiting S) (before after : J)
    : Type 0 where
  pub turned : ChangesWaiters N NoArrival old new before after
  pub why : NobodyEnters taken new ⊎ (turned.gone ≢ [])
