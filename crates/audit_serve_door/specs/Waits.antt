-- The connections that wait for a place, by their numbers.
use Rattle.std.specs.Prelude.{◌≡◌, ◌⊎◌, ℕ, Bool, true, false, Option, Some, None, List, [], ◌∷◌}
use Rattle.std.specs.Prelude.{Contains, option_to_list}
use Rattle.std.specs.Ordering.{nat_cmp}
use Rattle.std.specs.BTreeMap.{BTreeMap, get}
use Rattle.audit_serve_ready.specs.declared.departure.Departure.TheVariants.{Memory}
use Rattle.audit_serve_door.specs.Notes.{NoteCall, a_note, a_silent_note, NoteModel}
use Rattle.audit_serve_door.specs.declared.entrance.Arrival.{Arrival}
use Rattle.audit_serve_door.specs.declared.waiting.Waiting.{Waiting}

module _ {S : Type 0} where
  -- the connection with a number among those that have sent nothing
  abbrev pub silent_at : Waiting S → ℕ → Option (Arrival S)
  silent_at waiting number = get nat_cmp waiting.silent number

  -- and among those that have sent something: those that only read, or all others
  abbrev pub heard_among : Bool → Waiting S → ℕ → Option (Arrival S)
  heard_among true waiting number = get nat_cmp waiting.readers number
  heard_among false waiting number = get nat_cmp waiting.others number

abbrev pub first_found : {A : Type 0} → Option A → Option A → Option A
first_found None other = other
first_found (Some one) other = Some one

module _ {S : Type 0} where
  -- and among all those that have sent something
  abbrev pub heard_at : Waiting S → ℕ → Option (Arrival S)
  heard_at waiting number = first_found (heard_among false waiting number) (heard_among true waiting number)

  -- A connection was put among others that have numbers. If there was no room for it, or another one had its number,
  -- one of the two is no longer there.
  pub record IsPut (number : ℕ) (arrival : Arrival S) (is_put : Bool) (old new : BTreeMap ℕ (Arrival S)) : Type 0 where
    pub others : (other : ℕ) → (other ≡ number → ⊥) → get nat_cmp new other ≡ get nat_cmp old other
    pub added : is_put ≡ true → (get nat_cmp old number ≡ None) × (get nat_cmp new number ≡ Some arrival)
    pub lost : is_put ≡ false
        → ((other : Arrival S) × (get nat_cmp old number ≡ Some other) × (get nat_cmp new number ≡ Some arrival))
        ⊎ ((get nat_cmp old number ≡ None) × (get nat_cmp new number ≡ None))

  -- Who waits with another number is the same.
  pub record KeepsOthers (number : ℕ) (old new : Waiting S) : Type 0 where
    pub silent : (other : ℕ) → (other ≡ number → ⊥) → silent_at new other ≡ silent_at old other
    pub heard : (reads : Bool) (other : ℕ) → (other ≡ number → ⊥)
        → heard_among reads new other ≡ heard_among reads old other

  -- a connection waits with this number
  abbrev pub WaitsWith : Waiting S → ℕ → Arrival S → Type 0
  WaitsWith waiting number arrival = (silent_at waiting number ≡ Some arrival)
      ⊎ (heard_among true waiting number ≡ Some arrival)
      ⊎ (heard_among false waiting number ≡ Some arrival)

  abbrev pub NobodyWaits : Waiting S → Type 0
  NobodyWaits waiting = (number : ℕ) (arrival : Arrival S) → WaitsWith waiting number arrival → ⊥

  -- no connection
  abbrev pub NoArrival : Arrival S → Type 0
  NoArrival arrival = ⊥

  -- Whoever waits now waited before with the same number, or has come. Whoever waited before waits with the same number
  -- or is gone, and whoever has come waits or is gone: nobody else is lost.
  pub record Passes (Came : Arrival S → Type 0) (gone : List (Arrival S)) (old new : Waiting S) : Type 0 where
    pub came : (number : ℕ) (arrival : Arrival S) → WaitsWith new number arrival
        → WaitsWith old number arrival ⊎ Came arrival
    pub kept : (number : ℕ) (arrival : Arrival S) → WaitsWith old number arrival
        → WaitsWith new number arrival ⊎ Contains gone arrival
    pub entered : (arrival : Arrival S) → Came arrival
        → ((number : ℕ) × WaitsWith new number arrival) ⊎ Contains gone arrival

  -- A connection that had sent something was taken out. If two had the same number, it is the one that doesn't only
  -- read.
  pub record IsTakenOut (number : ℕ) (old new : Waiting S) : Type 0 where
    pub passes : Passes NoArrival (option_to_list (heard_at old number)) old new
    pub other : heard_among false new number ≡ None
    pub reader : heard_among false old number ≡ None → heard_among true new number ≡ None

-- a connection was turned away: memory was refused for it, or the system gave no further descriptor
abbrev pub IsTurningAway : NoteCall → Type 0
IsTurningAway (a_note Memory) = Unit {0}
IsTurningAway a_silent_note = Unit {0}
IsTurningAway _ = ⊥

-- for each of these connections there is a note why it was turned away
abbrev pub AreTurnedAway : {S : Type 0} → List (Arrival S) → List NoteCall → Type 0
AreTurnedAway [] [] = Unit {0}
AreTurnedAway (arrival ∷ gone) (note ∷ notes) = IsTurningAway note × AreTurnedAway gone notes
AreTurnedAway _ _ = ⊥

-- Those who are gone were turned away, and it was noted why.
pub record ChangesWaiters {S J : Type 0} (N : NoteModel J) (Came : Arrival S → Type 0) (old new : Waiting S)
    (before after : J) : Type 0 where
  pub gone : List (Arrival S)
  pub passes : Passes Came gone old new
  pub notes : List NoteCall
  pub noted : N.DidNote before after notes
  pub each : AreTurnedAway gone notes
