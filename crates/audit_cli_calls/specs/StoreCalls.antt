-- The calls by which a command opens stores, makes devices for new ones, and lets stores go.
use Rattle.std.specs.Prelude.{◌⊎◌, ℕ, Option, List, [], ◌∷◌, ◌++◌, Result, Ok, Err}
use Rattle.audit_cli_base.specs.declared.fault.CommandError.{CommandError}
use Rattle.audit_cli_base.specs.declared.files.Opened.{Opened}
use Rattle.audit_proof.specs.declared.commitment.Commitment.{Commitment}
use Rattle.audit_cli_calls.specs.declared.stores.SystemStores.{SystemStores}

pub data StoreCall (S : Type 0) : Type 0 where
  -- the store in the file at this path was opened, or this is why it wasn't
  an_opening : List ℕ → Result S CommandError → StoreCall S
  -- a file with a device of this many sectors was made at this path, or this is why it wasn't
  a_making : List ℕ → ℕ → Result (Unit {0}) CommandError → StoreCall S
  -- a store was let go, which was then this
  a_letting_go : S → StoreCall S

-- what an opening gave
abbrev pub opened_by : {S : Type 0} → Result (Opened S) CommandError → Result S CommandError
opened_by (Ok opened) = Ok opened.content
opened_by (Err fault) = Err fault

-- whether a device was made
abbrev pub made_by : {D : Type 0} → Result (Opened D) CommandError → Result (Unit {0}) CommandError
made_by (Ok opened) = Ok tt
made_by (Err fault) = Err fault

-- How contracts see a system on which stores are opened. Each call establishes that it was made: code that is generic
-- over the system can have that from nothing else.
pub record StoresModel (O S : Type 0) : Type 1 where
  -- these calls, and no others, led from one state to another
  pub DidCalls : O → O → List (StoreCall S) → Type 0
  pub nothing_called : (stores : O) → DidCalls stores stores []
  pub more_called : (old mid new : O) (calls later : List (StoreCall S)) → DidCalls old mid calls
      → DidCalls mid new later → DidCalls old new (calls ++ later)

-- a system of whose calls nothing is known
abbrev pub unknown_stores : {O S : Type 0} → StoresModel O S
unknown_stores = record {
  DidCalls = λ old new calls. Unit {0};
  nothing_called = λ stores. tt;
  more_called = λ old mid new calls later first second. tt;
}

module _ {O S : Type 0} (stores : StoresModel O S) where
  -- this store was let go, and no other call was made
  abbrev pub LetsGo : O → O → S → Type 0
  LetsGo was now left = stores.DidCalls was now (a_letting_go left ∷ [])

  -- the store in the file at this path was opened, and let go as this one; no other call was made
  abbrev pub OpensAndLetsGo : List ℕ → O → O → S → S → Type 0
  OpensAndLetsGo path was now opened left =
      stores.DidCalls was now (an_opening path (Ok opened) ∷ a_letting_go left ∷ [])

  -- the same, with these calls in between
  abbrev pub OpensAndLetsGoAfter : List ℕ → O → O → S → List (StoreCall S) → S → Type 0
  OpensAndLetsGoAfter path was now opened between left =
      stores.DidCalls was now ((an_opening path (Ok opened) ∷ between) ++ a_letting_go left ∷ [])

  -- no store was opened: no call was made, or the opening of the one in the file at this path failed with this error
  abbrev pub OpensNone : List ℕ → O → O → CommandError → Type 0
  OpensNone path was now fault =
      stores.DidCalls was now [] ⊎ stores.DidCalls was now (an_opening path (Err fault) ∷ [])

module _ {R : Type 0} where
  -- the commitment that the log of the next store has to extend, if it has to
  abbrev pub commitment_to_extend : SystemStores R → Option Commitment
  commitment_to_extend stores = stores.older
