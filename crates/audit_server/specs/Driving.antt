-- Steps of a core, done in order.
use Rattle.std.specs.Prelude.{◌≡◌, ℕ, ◌<◌, Bool, true, false, if◌then◌else◌, Result, Ok, Err, List, [], ◌∷◌, ◌++◌, length}
use Rattle.std.specs.Prelude.{map, take, drop}
use Rattle.audit_disk_model.specs.declared.sectors.Sectors as sectors
use Rattle.audit_chain.specs.Event.{EventData}
use Rattle.audit_store_commit.specs.Origin.{Origin}
use Rattle.audit_base.specs.declared.limits.TheConstants.{SESSIONS}
use Rattle.audit_store.specs.Store.{Holds}
use Rattle.audit_store.specs.declared.store_error.StoreError.{StoreError}
use Rattle.audit_store.specs.declared.store_error.StoreError.TheVariants.{Broken}
use Rattle.audit_server_commit.specs.Committer.{store_of}
use Rattle.audit_server_commit.specs.Flush.{FlushOutcome, IsFlush}
use Rattle.audit_serve_passes.specs.Steps.{StepData, a_piece, an_end, a_flush}
use Rattle.audit_server.specs.declared.step.Step.{Step}
use Rattle.audit_server.specs.declared.step.Step.TheVariants.{Feed, End, Flush}
use Rattle.audit_server.specs.declared.feed_fault.FeedFault.{FeedFault}
use Rattle.audit_server.specs.declared.drive_fault.DriveFault.{DriveFault}
use Rattle.audit_server.specs.declared.server_core.Core.{Core}
use Rattle.audit_server.specs.Core.{committer_of, sessions_of, PieceOutcome, EndOutcome, HasDone}

-- a step as contracts see it
abbrev pub step_data : Step → StepData
step_data (Feed session piece) = a_piece session piece.now
step_data (End session) = an_end session
step_data Flush = a_flush

-- the step is about one of the sessions
abbrev pub IsOfSession : Step → Type 0
IsOfSession (Feed session piece) = session < SESSIONS
IsOfSession (End session) = session < SESSIONS
IsOfSession Flush = Unit {0}

-- ---- the steps that were done

-- whether this is the error of a core that was broken before
abbrev pub is_of_broken : StoreError → Bool
is_of_broken Broken = true
is_of_broken error = false

-- What was done of a refused step: the bytes of its piece that were taken. A core that was broken before does nothing.
abbrev pub part_done : FeedFault → StepData → List StepData
part_done fault (a_piece session piece) = if is_of_broken fault.error then []
    else a_piece session (take fault.taken piece) ∷ []
part_done fault (an_end session) = []
part_done fault a_flush = []

-- what was done of a step: all of it, or the part done before it was refused
abbrev pub step_done : StepData → Result (Unit {0}) FeedFault → List StepData
step_done step (Ok done) = step ∷ []
step_done step (Err fault) = part_done fault step

-- what was done of a piece: the bytes that were taken
abbrev pub piece_done : ℕ → List ℕ → Result ℕ FeedFault → List StepData
piece_done session piece (Ok taken) = a_piece session (take taken piece) ∷ []
piece_done session piece (Err fault) = part_done fault (a_piece session piece)

-- what was done of a step that can't be done in part
abbrev pub whole_done : StepData → Result (Unit {0}) StoreError → List StepData
whole_done step (Ok done) = step ∷ []
whole_done step (Err error) = []

-- what was done of several steps: all of them, or those before the refused one, and the part of that one
abbrev pub next_done : FeedFault → List StepData → List StepData
next_done fault [] = []
next_done fault (step ∷ later) = part_done fault step

abbrev pub steps_done : List StepData → Result (Unit {0}) DriveFault → List StepData
steps_done steps (Ok done) = steps
steps_done steps (Err fault) = take fault.step steps
    ++ next_done (record { taken = fault.taken; error = fault.error }) (drop fault.step steps)

-- the result of steps on a broken core: it refuses the first, if there is one
abbrev pub broken_drive : List Step → Result (Unit {0}) DriveFault
broken_drive [] = Ok tt
broken_drive (step ∷ later) = Err (record { step = 0; taken = 0; error = Broken })

-- ---- the state after them

module _ {D : Type 0} {g : sectors.Ghosts D} where
  -- a flush that was refused
  pub record IsFlushRefused (fault : FeedFault) (old new : Core D g) : Type 0 where
    pub taken : fault.taken ≡ 0
    pub sessions : sessions_of new ≡ sessions_of old
    pub end : FlushOutcome (committer_of old) (committer_of new) (Err fault.error)
    pub flush : (origin : Origin) (events : List EventData) → Holds (store_of (committer_of old)) origin events
        → (after : List EventData) × IsFlush origin (committer_of old) (committer_of new) events after (Err fault.error)

  -- the outcome of a refused step
  abbrev pub IsStepRefused : StepData → FeedFault → Core D g → Core D g → Type 0
  IsStepRefused (a_piece session piece) fault old new = PieceOutcome session piece old new (Err fault)
  IsStepRefused (an_end session) fault old new = (fault.taken ≡ 0) × EndOutcome session old new (Err fault.error)
  IsStepRefused a_flush fault old new = IsFlushRefused fault old new

  -- all steps before one were done, and that one was refused
  pub record IsDriveStopped (steps : List Step) (fault : DriveFault) (old new : Core D g) : Type 0 where
    pub before : List StepData
    pub step : StepData
    pub later : List StepData
    pub are : map step_data steps ≡ before ++ step ∷ later
    pub count : length before ≡ fault.step
    pub mid : Core D g
    pub done : HasDone before old mid
    pub refused : IsStepRefused step (record { taken = fault.taken; error = fault.error }) mid new
