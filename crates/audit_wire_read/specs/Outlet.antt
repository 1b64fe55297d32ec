-- The calls of an outlet, by which verified events go out, and by which it is kept from what reading continues.
use Rattle.std.specs.Prelude.{ℕ, ◌+◌, List, [], ◌∷◌, ◌++◌, length}
use Rattle.audit_chain.specs.EventData.{EventData}
use Rattle.audit_proof.specs.declared.commitment.Commitment.{Commitment}
use Rattle.audit_verify.specs.State.{StateData}

pub data OutletCall : Type 0 where
  -- a state was kept, and the newest commitment, to which its log leads
  a_keeping : StateData → Commitment → OutletCall
  -- events were printed, of which the first has this index
  a_printing : ℕ → List EventData → OutletCall

-- How contracts see an outlet.
pub record OutletModel (O : Type 0) : Type 1 where
  -- these calls led from one state to another, and each succeeded
  pub DidCalls : O → O → List OutletCall → Type 0
  -- this call led from one state to another, and failed
  pub Tried : O → O → OutletCall → Type 0
  pub nothing_called : (outlet : O) → DidCalls outlet outlet []
  pub more_called : (old mid new : O) (calls later : List OutletCall) → DidCalls old mid calls
      → DidCalls mid new later → DidCalls old new (calls ++ later)
  -- events that were printed by two calls were printed
  pub printed_on : (old mid new : O) (first : ℕ) (events later : List EventData)
      → DidCalls old mid (a_printing first events ∷ [])
      → DidCalls mid new (a_printing (first + length events) later ∷ [])
      → DidCalls old new (a_printing first (events ++ later) ∷ [])
  -- and if the second one failed, they were tried to be printed
  pub tried_on : (old mid new : O) (first : ℕ) (events later : List EventData)
      → DidCalls old mid (a_printing first events ∷ []) → Tried mid new (a_printing (first + length events) later)
      → Tried old new (a_printing first (events ++ later))
