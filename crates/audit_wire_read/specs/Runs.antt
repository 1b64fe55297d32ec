-- Several runs of reading on, one after another: each continues from what the one before it left.
use Rattle.std.specs.Prelude.{◌≡◌, ◌⊎◌, ◌≤◌, ℕ, ◌+◌, List, [], ◌∷◌, ◌++◌, length, take}
use Rattle.audit_chain.specs.EventData.{EventData}
use Rattle.audit_proof.specs.declared.commitment.Commitment.{Commitment}
use Rattle.audit_proof.specs.Acceptance.{commitment_to}
use Rattle.audit_verify.specs.State.{StateData}
use Rattle.audit_proof.specs.TreesCollide.{TreesCollide}
use Rattle.audit_wire_read.specs.Front.{kept_after_calls}
use Rattle.audit_wire_read.specs.Increments.{IncrementCollides}
use Rattle.audit_wire_read.specs.Newest.{Extends}
use Rattle.audit_wire_read.specs.Outlet.{OutletCall, a_keeping, a_printing, OutletModel}
use Rattle.audit_wire_read.specs.ReadingOn.{AreReadPieces, reading_calls, TriesFirst}

-- the events with their indices, of which the first has this one
abbrev pub with_indices : ℕ → List EventData → List (ℕ × EventData)
with_indices first [] = []
with_indices first (event ∷ events) = (first, event) ∷ with_indices (first + 1) events

-- the lines that calls print: each event with its index
abbrev pub lines_by_calls : List OutletCall → List (ℕ × EventData)
lines_by_calls [] = []
lines_by_calls (a_keeping state newest ∷ calls) = lines_by_calls calls
lines_by_calls (a_printing first events ∷ calls) = with_indices first events ++ lines_by_calls calls

-- the newest commitment that is kept, which was this one before
abbrev pub newest_after_calls : Commitment → List OutletCall → Commitment
newest_after_calls kept [] = kept
newest_after_calls kept (a_keeping next newest ∷ calls) = newest_after_calls newest calls
newest_after_calls kept (a_printing first events ∷ calls) = newest_after_calls kept calls

-- of a call that prints, the first lines were printed
abbrev pub IsPrintedPart : OutletCall → OutletCall → Type 0
IsPrintedPart (a_printing first shown) (a_printing index events) =
    (first ≡ index) × (later : List EventData) × (events ≡ shown ++ later)
IsPrintedPart _ _ = ⊥

-- calls were made in order, and cut off anywhere: between two of them, or within one that prints
abbrev pub WereCutOff : List OutletCall → List OutletCall → Type 0
WereCutOff [] calls = Unit {0}
WereCutOff (made ∷ others) [] = ⊥
WereCutOff (made ∷ others) (call ∷ calls) =
    ((made ≡ call) × WereCutOff others calls) ⊎ ((others ≡ []) × IsPrintedPart made call)

-- One run: the commitment after which it read on (the one that was kept, or a witness's), the newest one, the pieces
-- that it read, and the calls that it made until it ended or was cut off.
pub record ReadRun : Type 0 where
  pub after : Commitment
  pub newest : Commitment
  pub pieces : List (List EventData)
  pub calls : List OutletCall

-- It continued from this state and this commitment that were kept, as a reading does.
pub record IsReadRun (state : StateData) (kept : Commitment) (run : ReadRun) : Type 0 where
  pub witnessed : Extends kept run.after
  pub extends : Extends run.after run.newest
  pub are : AreReadPieces state run.newest run.pieces
  pub cut_off : WereCutOff run.calls (reading_calls state run.newest run.pieces)

-- An outlet was called by a run, and by the next of its pieces' calls at most, which failed.
pub record LeavesRun {O : Type 0} (E : OutletModel O) (state : StateData) (kept : Commitment) (old new : O)
    : Type 0 where
  pub run : ReadRun
  pub is : IsReadRun state kept run
  pub mid : O
  pub did : E.DidCalls old mid run.calls
  pub rest : List OutletCall
  pub split : reading_calls state run.newest run.pieces ≡ run.calls ++ rest
  pub then : (new ≡ mid) ⊎ TriesFirst E rest mid new

-- each continued from what was kept by then
abbrev pub AreReadRuns : StateData → Commitment → List ReadRun → Type 0
AreReadRuns state kept [] = Unit {0}
AreReadRuns state kept (run ∷ runs) = IsReadRun state kept run
    × AreReadRuns (kept_after_calls state run.calls) (newest_after_calls kept run.calls) runs

-- what is kept after all runs, and the lines that they printed
abbrev pub state_after_runs : StateData → List ReadRun → StateData
state_after_runs state [] = state
state_after_runs state (run ∷ runs) = state_after_runs (kept_after_calls state run.calls) runs

abbrev pub newest_after_runs : Commitment → List ReadRun → Commitment
newest_after_runs kept [] = kept
newest_after_runs kept (run ∷ runs) = newest_after_runs (newest_after_calls kept run.calls) runs

abbrev pub lines_of_runs : List ReadRun → List (ℕ × EventData)
lines_of_runs [] = []
lines_of_runs (run ∷ runs) = lines_by_calls run.calls ++ lines_of_runs runs

-- the line is that of a log: its event has its index there
abbrev pub IsLineOf : List EventData → ℕ × EventData → Type 0
IsLineOf log line =
    (before : List EventData) × (after : List EventData) × (log ≡ before ++ line.1 ∷ after) × (length before ≡ line.0)

-- one of the lines has this index
abbrev pub HasLine : ℕ → List (ℕ × EventData) → Type 0
HasLine index [] = ⊥
HasLine index (line ∷ lines) = (line.0 ≡ index) ⊎ HasLine index lines

-- Two texts with one SHA-256, in what was accepted under the commitment to the first of these entries: in the tree of
-- other entries with the same commitment, or in an increment to it.
pub record HasCollision (texts : List (List ℕ)) : Type 0 where
  pub size : ℕ
  pub within : size ≤ length texts
  pub found : IncrementCollides (take size texts) ⊎ ((others : List (List ℕ))
      × (commitment_to others ≡ commitment_to (take size texts)) × TreesCollide others (take size texts))
