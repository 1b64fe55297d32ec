-- How far calls of an outlet came.
use Rattle.std.specs.Prelude.{◌≡◌, ◌⊎◌, List, [], ◌∷◌, ◌++◌}
use Rattle.audit_chain.specs.EventData.{EventData}
use Rattle.audit_verify.specs.State.{StateData}
use Rattle.audit_wire_read.specs.Outlet.{OutletCall, a_keeping, a_printing}
use Rattle.audit_wire_read.specs.ReadingOn.{state_of_pieces}

-- the events that were printed
abbrev pub printed_by_calls : List OutletCall → List EventData
printed_by_calls [] = []
printed_by_calls (a_keeping state newest ∷ calls) = printed_by_calls calls
printed_by_calls (a_printing first events ∷ calls) = events ++ printed_by_calls calls

-- the state that is kept, which was this one before
abbrev pub kept_after_calls : StateData → List OutletCall → StateData
kept_after_calls state [] = state
kept_after_calls state (a_keeping next newest ∷ calls) = kept_after_calls next calls
kept_after_calls state (a_printing first events ∷ calls) = kept_after_calls state calls

-- the events of the pieces, one after another
abbrev pub events_of_pieces : List (List EventData) → List EventData
events_of_pieces [] = []
events_of_pieces (piece ∷ pieces) = piece ++ events_of_pieces pieces

-- it is the state after these pieces, or the one before the last of them
abbrev pub IsKeptBy : StateData → List (List EventData) → StateData → Type 0
IsKeptBy state shown kept = (kept ≡ state_of_pieces state shown)
    ⊎ ((earlier : List (List EventData)) × (last : List EventData) × (shown ≡ earlier ++ last ∷ [])
    × (kept ≡ state_of_pieces state earlier))

-- the first of these pieces were printed and no others, and the state that is kept is one of theirs
pub record CameTo (state : StateData) (pieces : List (List EventData)) (calls : List OutletCall) : Type 0 where
  pub shown : List (List EventData)
  pub later : List (List EventData)
  pub split : pieces ≡ shown ++ later
  pub printed : printed_by_calls calls ≡ events_of_pieces shown
  pub kept : IsKeptBy state shown (kept_after_calls state calls)
