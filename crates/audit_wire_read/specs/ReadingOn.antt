-- Reading a log on: pieces of verified events, each of which leads to the newest commitment, are printed one after
-- another, and what reading continues from is kept before the first of them and after each.
use Rattle.std.specs.Prelude.{◌≡◌, ◌⊎◌, ◌≤◌, List, [], ◌∷◌, ◌++◌, length}
use Rattle.audit_chain.specs.EventData.{EventData}
use Rattle.audit_proof.specs.declared.commitment.Commitment.{Commitment}
use Rattle.audit_verify.specs.State.{StateData, bytes_from_state, next_state, commitment_after}
use Rattle.audit_verify.specs.Continuing.{IsContinuation}
use Rattle.audit_wire_ask.specs.Joined.{IsVouchedFor}
use Rattle.audit_wire_read.specs.Outlet.{OutletCall, a_keeping, a_printing, OutletModel}
use Rattle.audit_wire_read.specs.declared.piece.TheConstants.{PIECE_ENTRIES}

-- the events follow the state, they are few, and the newest commitment vouches for the log with them
pub record IsPiece (state : StateData) (newest : Commitment) (events : List EventData) : Type 0 where
  pub follows : IsContinuation state (bytes_from_state state events) events
  pub few : length events ≤ PIECE_ENTRIES
  pub leads : IsVouchedFor (commitment_after (next_state state events) []) newest

-- each piece follows those before it
abbrev pub AreReadPieces : StateData → Commitment → List (List EventData) → Type 0
AreReadPieces state newest [] = Unit {0}
AreReadPieces state newest (piece ∷ pieces) =
    IsPiece state newest piece × AreReadPieces (next_state state piece) newest pieces

-- the state after the pieces
abbrev pub state_of_pieces : StateData → List (List EventData) → StateData
state_of_pieces state [] = state
state_of_pieces state (piece ∷ pieces) = state_of_pieces (next_state state piece) pieces

-- What is kept and printed: first the newest commitment, before any line of what leads to it; then each piece, and the
-- state after it.
abbrev pub reading_calls : StateData → Commitment → List (List EventData) → List OutletCall
reading_calls state newest [] = a_keeping state newest ∷ []
reading_calls state newest (piece ∷ pieces) = a_keeping state newest ∷ a_printing state.frontier.count piece
    ∷ reading_calls (next_state state piece) newest pieces

module _ {O : Type 0} (E : OutletModel O) where
  -- the first of these calls was tried, and failed
  abbrev pub TriesFirst : List OutletCall → O → O → Type 0
  TriesFirst [] old new = ⊥
  TriesFirst (call ∷ calls) old new = E.Tried old new call

  -- The calls of some pieces were made from the first one on; the next one may have been tried, and no other was. None
  -- is made before a piece is verified and leads to the newest commitment, if there are entries after the state.
  pub record ReadsFront (state : StateData) (newest : Commitment) (old new : O) : Type 0 where
    pub pieces : List (List EventData)
    pub are : AreReadPieces state newest pieces
    pub begun : pieces ≡ [] → newest.count ≡ state.frontier.count
    pub done : List OutletCall
    pub rest : List OutletCall
    pub split : reading_calls state newest pieces ≡ done ++ rest
    pub mid : O
    pub did : E.DidCalls old mid done
    pub then : (new ≡ mid) ⊎ TriesFirst rest mid new

  -- All calls of some pieces were made, which lead to the newest commitment, and this is the state after them.
  pub record ReadsAll (state : StateData) (newest : Commitment) (old new : O) (reached : StateData) : Type 0 where
    pub pieces : List (List EventData)
    pub are : AreReadPieces state newest pieces
    pub did : E.DidCalls old new (reading_calls state newest pieces)
    pub reached_is : reached ≡ state_of_pieces state pieces
    pub whole : commitment_after reached [] ≡ newest
