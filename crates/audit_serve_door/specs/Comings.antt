-- The calls of a door over sockets: who comes in, who waits, and who is given a place.
use Rattle.std.specs.Prelude.{◌≡◌, ◌⊎◌, ℕ, ◌&&◌, not, Bool, true, Option, Some, None, List, [], ◌∷◌, length}
use Rattle.std.specs.Prelude.{Contains}
use Rattle.std.specs.List.{list_all}
use Rattle.std.specs.declared.time.Instant.{Instant}
use Rattle.audit_serve_passes.specs.declared.rights.Rights.{Rights}
use Rattle.audit_serve_ready.specs.declared.departure.Departure.{Departure}
use Rattle.audit_serve_ready.specs.declared.newcomer.Newcomer.{Newcomer}
use Rattle.audit_serve_ready.specs.declared.next.Next.{Next}
use Rattle.audit_serve_ready.specs.declared.next.Next.TheVariants as next
use Rattle.audit_serve_ready.specs.Door.{DoorCall, a_judging, a_release, an_offer, a_parting, a_pause}
use Rattle.audit_serve_passes.specs.Rights.{only_reads}
use Rattle.audit_serve_door.specs.Accepting.{AcceptModel}
use Rattle.audit_serve_door.specs.Notes.{NoteModel, a_note}
use Rattle.audit_serve_door.specs.Nonblocking.{inner_of_nonblocking}
use Rattle.audit_serve_door.specs.Metered.{inner_of_metered, moves_of_metered}
use Rattle.audit_serve_door.specs.Choice.{next_entry}
use Rattle.audit_serve_door.specs.Idle.{places_held, is_taken, seated, vacated, is_idle, is_due, noted, candidates_for}
use Rattle.audit_serve_door.specs.Idle.{ChoosesDue}
use Rattle.audit_serve_door.specs.Entering.{has_reader, has_other, heads_of, LeavesVacant}
use Rattle.audit_serve_door.specs.declared.choice.Taken.{Taken}
use Rattle.audit_serve_door.specs.declared.places.Candidates.{Candidates}
use Rattle.audit_serve_door.specs.declared.places.Places.{Places}
use Rattle.audit_serve_door.specs.declared.entrance.Arrival.{Arrival}
use Rattle.audit_serve_door.specs.declared.entrance.Entrance.{Entrance}
use Rattle.audit_serve_door.specs.declared.metered.Metered.{Metered}
use Rattle.audit_serve_door.specs.declared.nonblocking.Nonblocking.{Nonblocking}
use Rattle.audit_serve_door.specs.declared.stop_orders.StopOrders.{StopOrders}
use Rattle.audit_serve_door.specs.declared.waiting.Waiting.{Waiting}
use Rattle.audit_serve_door.specs.declared.socket_door.SocketDoor.{SocketDoor}
use Rattle.audit_serve_door.specs.Waits.{heard_at, NoArrival, Passes, IsTakenOut, ChangesWaiters}
use Rattle.audit_serve_door.specs.Finishing.{has_order, SaysNext}
use Rattle.audit_serve_door.specs.Entrances.{rights_at_arrival, stream_at_arrival, ComeIn, IsOneOf}

-- the client of a connection that came in: nothing was read of it or written to it, and it has the rights with which it
-- came
pub record IsClientOf {S : Type 0} (arrival : Arrival S) (newcomer : Newcomer (Metered (Nonblocking S))) : Type 0 where
  pub stream : inner_of_nonblocking (inner_of_metered newcomer.stream) ≡ stream_at_arrival arrival
  pub rights : newcomer.rights ≡ rights_at_arrival arrival

-- whoever is given a place by a call has one of these rights
abbrev pub GivesAllowed : {S : Type 0} → List Rights → DoorCall S → Type 0
GivesAllowed allowed (an_offer place (Some newcomer)) = Contains allowed newcomer.rights
GivesAllowed allowed _ = Unit {0}

module _ {J S : Type 0} (N : NoteModel J) where
  -- A connection that waited, and had sent something, was given out, since it was next: it was taken out of those that
  -- waited. Others may have been turned away before it.
  pub record IsGivenOut (taken : Taken) (newcomer : Newcomer (Metered (Nonblocking S))) (old new : Waiting S)
      (before after : J) : Type 0 where
    pub left : Waiting S
    pub turned : ChangesWaiters N NoArrival old left before after
    pub number : ℕ
    pub next : next_entry (heads_of left) taken ≡ Some number
    pub arrival : Arrival S
    pub waited : heard_at left number ≡ Some arrival
    pub client : IsClientOf arrival newcomer
    pub out : IsTakenOut number left new

  -- who waits is the same, and why a client has left was noted
  pub record IsParting (departure : Departure) (old new : Waiting S) (before after : J) : Type 0 where
    pub passes : Passes NoArrival [] old new
    pub noted : N.DidNote before after (a_note departure ∷ [])

-- These came in by each socket. They and those that waited before wait now, but for those that were turned away.
pub record Receives {L S J : Type 0} (A : AcceptModel L S) (N : NoteModel J) (before after : List (Entrance L))
    (old new : Waiting S) (was now : J) : Type 0 where
  pub each : ℕ → List (Arrival S)
  pub accepted : ComeIn A each before after
  pub waits : ChangesWaiters N (IsOneOf (length before) each) old new was now

-- the places behind a door
abbrev pub places_of : {C J W L S : Type 0} → SocketDoor C J W L S → Places
places_of door = door.places

-- whose leaving would give a place to one that waits for want of one
abbrev pub candidates_at : {S : Type 0} → Waiting S → Places → Candidates
candidates_at waiting places = candidates_for (has_reader waiting) (has_other waiting)
    (list_all is_taken places.places) (places_held places)

abbrev pub candidates_of : {C J W L S : Type 0} → SocketDoor C J W L S → Candidates
candidates_of door = candidates_at door.waiting door.places

-- the orders to stop that came to a door, and what it has noted of its clients
abbrev pub orders_of : {C J W L S : Type 0} → SocketDoor C J W L S → StopOrders
orders_of door = door.orders

abbrev pub journal_of : {C J W L S : Type 0} → SocketDoor C J W L S → J
journal_of door = door.journal

-- the order to stop has come at a door
abbrev pub was_told : {C J W L S : Type 0} → SocketDoor C J W L S → Bool
was_told door = has_order door.orders

-- the connections that wait at a door
abbrev pub who_waits : {C J W L S : Type 0} → SocketDoor C J W L S → Waiting S
who_waits door = door.waiting

-- what watches whether that which is served is in its place; whether it was found not to be; and whether the system's
-- readiness or clock failed
abbrev pub watch_of : {C J W L S : Type 0} → SocketDoor C J W L S → W
watch_of door = door.watch

abbrev pub is_replaced : {C J W L S : Type 0} → SocketDoor C J W L S → Bool
is_replaced door = door.is_replaced

abbrev pub has_failed : {C J W L S : Type 0} → SocketDoor C J W L S → Bool
has_failed door = door.has_failed

-- what a door has noted: until when clients may take their replies after the order to stop, and these two
abbrev pub flags_of : {C J W L S : Type 0} → SocketDoor C J W L S → Option Instant × (Bool × Bool)
flags_of door = (door.until, (door.is_replaced, door.has_failed))

-- nobody came in, who waits is the same, and so is the time until when clients may take their replies
pub record KeepsWaiters {C J W L S : Type 0} (old new : SocketDoor C J W L S) : Type 0 where
  pub entrances : new.entrances ≡ old.entrances
  pub waiting : new.waiting ≡ old.waiting
  pub journal : new.journal ≡ old.journal
  pub until : new.until ≡ old.until

-- nobody came in, and of those that waited this is true
pub record KeepsSockets {C J W L S : Type 0} (Waits : Waiting S → Waiting S → J → J → Type 0)
    (old new : SocketDoor C J W L S) : Type 0 where
  pub entrances : new.entrances ≡ old.entrances
  pub until : new.until ≡ old.until
  pub waits : Waits old.waiting new.waiting old.journal new.journal

-- What a pause does to the places: if it goes on before the order to stop, the client that has to make room is chosen.
abbrev pub PausesPlaces : Next → Option Instant → Candidates → Instant → Places → Places → Type 0
PausesPlaces next.Stop until who now old new = new ≡ old
PausesPlaces next.Again None who now old new = ChoosesDue who now old new
PausesPlaces next.Again (Some last) who now old new = new ≡ old

-- What a call does to the places. The client of a place is dismissed exactly if it has to make room, and hasn't moved a
-- byte since that was chosen.
abbrev pub ChangesSeats : {C J W L S : Type 0} → SocketDoor C J W L S → DoorCall (Metered (Nonblocking S))
    → SocketDoor C J W L S → Type 0
ChangesSeats old (a_judging place client said) new =
    (said ≡ (is_idle place (moves_of_metered client) old.places && is_due place old.places))
    × (new.places ≡ noted place (moves_of_metered client) old.now old.places)
ChangesSeats old (an_offer place (Some newcomer)) new =
    (number : ℕ) × (new.places ≡ seated place number (only_reads newcomer.rights) old.now old.places)
ChangesSeats old (a_parting place client departure) new = new.places ≡ vacated place old.places
ChangesSeats old (a_pause moved answer) new =
    PausesPlaces answer old.until (candidates_of new) new.now old.places new.places
ChangesSeats old _ new = new.places ≡ old.places

-- nothing is noted of what is served, or of the system
pub record KeepsFlags {C J W L S : Type 0} (old new : SocketDoor C J W L S) : Type 0 where
  pub replaced : new.is_replaced ≡ old.is_replaced
  pub failed : new.has_failed ≡ old.has_failed

-- Replies may leave unless what is served was found out of its place, now or before. It is found so by the watch alone.
pub record IsRelease {C J W L S : Type 0} (Left : W → Type 0) (lets : Bool) (old new : SocketDoor C J W L S) : Type 0
  where
    pub lets_is : lets ≡ not new.is_replaced
    pub found : new.is_replaced ≡ true → (old.is_replaced ≡ true) ⊎ Left new.watch
    pub noted : old.is_replaced ≡ true → new.is_replaced ≡ true
    pub failed : new.has_failed ≡ old.has_failed

-- A pause notes nothing of what is served. One that goes on notes no failure of the system.
pub record IsPauseOfFlags {C J W L S : Type 0} (answer : Next) (old new : SocketDoor C J W L S) : Type 0 where
  pub replaced : new.is_replaced ≡ old.is_replaced
  pub failed : new.has_failed ≡ true → (old.has_failed ≡ true) ⊎ (answer ≡ next.Stop)
  pub noted : old.has_failed ≡ true → new.has_failed ≡ true

-- what a call notes
abbrev pub ChangesFlags : {C J W L S : Type 0} → (W → Type 0) → SocketDoor C J W L S
    → DoorCall (Metered (Nonblocking S)) → SocketDoor C J W L S → Type 0
ChangesFlags Left old (a_release lets) new = IsRelease Left lets old new
ChangesFlags Left old (a_pause moved answer) new = IsPauseOfFlags answer old new
ChangesFlags Left old _ new = KeepsFlags old new

module _ {C J W L S : Type 0} (A : AcceptModel L S) (N : NoteModel J) where
  pub record IsPauseOfDoor (answer : Next) (old new : SocketDoor C J W L S) : Type 0 where
    pub received : Receives A N old.entrances.items new.entrances.items old.waiting new.waiting old.journal new.journal
    pub says : SaysNext answer (old.is_replaced) (new.has_failed) (has_order new.orders) new.now old.until new.until

  -- what a call does to those that wait
  abbrev pub ChangesDoor : SocketDoor C J W L S → DoorCall (Metered (Nonblocking S)) → SocketDoor C J W L S → Type 0
  ChangesDoor old (an_offer place (Some newcomer)) new =
      KeepsSockets (IsGivenOut N (places_held old.places) newcomer) old new
  ChangesDoor old (an_offer place None) new = KeepsSockets (LeavesVacant N (places_held old.places)) old new
  ChangesDoor old (a_parting place client departure) new = KeepsSockets (IsParting N departure) old new
  ChangesDoor old (a_pause moved answer) new = IsPauseOfDoor answer old new
  ChangesDoor old _ new = KeepsWaiters old new

-- `Left` says of the watch that it found what is served out of its place.
module _ {C J W L S : Type 0} (A : AcceptModel L S) (N : NoteModel J) (Left : W → Type 0) where
  -- what a call does: to those that wait, to the places, and to what is noted
  abbrev pub IsDoorCall : SocketDoor C J W L S → DoorCall (Metered (Nonblocking S)) → SocketDoor C J W L S → Type 0
  IsDoorCall old call new = ChangesDoor A N old call new × (ChangesSeats old call new × ChangesFlags Left old call new)

  abbrev pub AreDoorCalls : SocketDoor C J W L S → List (DoorCall (Metered (Nonblocking S))) → SocketDoor C J W L S
      → Type 0
  AreDoorCalls old [] new = new ≡ old
  AreDoorCalls old (call ∷ calls) new =
      (mid : SocketDoor C J W L S) × IsDoorCall old call mid × AreDoorCalls mid calls new
