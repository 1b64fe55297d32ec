-- The calls of a door, by which clients come and serving is stopped.
use Rattle.std.specs.Prelude.{ℕ, zero, suc, Bool, Option, List, [], ◌++◌}
use Rattle.audit_serve_ready.specs.declared.departure.Departure.{Departure}
use Rattle.audit_serve_ready.specs.declared.newcomer.Newcomer.{Newcomer}
use Rattle.audit_serve_ready.specs.declared.next.Next.{Next}

pub data DoorCall (S : Type 0) : Type 0 where
  -- whether the client of a place has to go
  a_judging : ℕ → S → Bool → DoorCall S
  -- whether clients are asked again, after a reading that found something or not
  an_asking : Bool → Bool → DoorCall S
  -- whether replies may leave
  a_release : Bool → DoorCall S
  -- a client of a place was handed back
  a_parting : ℕ → S → Departure → DoorCall S
  -- a place was offered to whoever comes next: a client came, or nobody did
  an_offer : ℕ → Option (Newcomer S) → DoorCall S
  -- a pause, after something moved or not, and what is to be done then
  a_pause : Bool → Next → DoorCall S

-- How contracts see a door.
pub record DoorModel (D S : Type 0) : Type 1 where
  -- these calls led from one state to another
  pub DidCalls : D → D → List (DoorCall S) → Type 0
  pub nothing_called : (door : D) → DidCalls door door []
  pub more_called : (old mid new : D) (calls later : List (DoorCall S)) → DidCalls old mid calls
      → DidCalls mid new later → DidCalls old new (calls ++ later)

-- a door of whose calls nothing is known
abbrev pub unknown_door : {D S : Type 0} → DoorModel D S
unknown_door = record {
  DidCalls = λ old new calls. Unit {0};
  nothing_called = λ door. tt;
  more_called = λ old mid new calls later first second. tt;
}

-- what there is for each number below one, in rising order
abbrev pub joined_below : {A : Type 0} → ℕ → (ℕ → List A) → List A
joined_below zero each = []
joined_below (suc k) each = joined_below k each ++ each k
