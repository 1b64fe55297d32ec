-- The effect of a call that serves the sessions of several streams.
use Rattle.std.specs.Prelude.{◌≡◌, ◌⊎◌, ℕ, ◌+◌, ◌<◌, ◌≤◌, Bool, true, List, [], ◌∷◌, length, map, slice_index_or}
use Rattle.audit_base.specs.declared.limits.TheConstants.{SESSIONS}
use Rattle.audit_serve_passes.specs.declared.limits.TheConstants.{MAX_PIECE}
use Rattle.audit_serve_passes.specs.Steps.{StepData, an_end, IsAbout, AreAbout, bytes_fed, ends_in}
use Rattle.audit_serve_passes.specs.Rounds.{live_below, IsVisit, AreVisits, AreEndsOfClosed, IsFlushAndEnds}
use Rattle.audit_serve_passes.specs.Rounds.{IsWholeRun, IsCutRun, IsInterrupted, IsStoppedInPass, IsStoppedAfter}
use Rattle.audit_serve_passes.specs.Streams.{StreamCall, StreamModel, IsStreamed, calls_for, ends_of_calls}
use Rattle.audit_serve_passes.specs.Streams.{has_failed_write}
use Rattle.audit_serve_passes.specs.Core.{CoreModel, bytes_for}

-- whether a write failed on the stream of session k
abbrev pub closed_by : (ℕ → List StreamCall) → ℕ → Bool
closed_by calls k = has_failed_write (calls k)

-- no session below a number was ended more often than a call of its stream found the end or failed
abbrev pub AreEndsByCalls : ℕ → (ℕ → List StreamCall) → List StepData → Type 0
AreEndsByCalls count calls steps = (k : ℕ) → k < count → ends_in k steps ≤ ends_of_calls (calls k)

-- The core did steps of a shape, and each stream had its calls. These returned what the steps feed, accepted what was
-- taken from the session's output, and ended the session as often as the steps do.
pub record Transition {C S : Type 0} (M : CoreModel C) (N : StreamModel S) (old new : C) (before after : List S)
    (Shape : (ℕ → List StreamCall) → List StepData → Type 0) : Type 0 where
  pub count : length after ≡ length before
  pub steps : List StepData
  pub taken : ℕ → List ℕ
  pub calls : ℕ → List StreamCall
  pub did : M.DidSteps old new steps taken
  -- no output was taken from a session without a stream
  pub others : (k : ℕ) → length before ≤ k → taken k ≡ []
  pub shape : Shape calls steps
  pub streamed : (k : ℕ) (none : S) → k < length before → IsStreamed N k steps [] (taken k) (calls k)
      (slice_index_or before k none) (slice_index_or after k none)
  pub ends : (k : ℕ) → k < length before → ends_in k steps ≡ ends_of_calls (calls k)

-- The same for one session and its stream.
pub record SessionTransition {C S : Type 0} (M : CoreModel C) (N : StreamModel S) (k : ℕ) (old new : C)
    (before after : S) (Shape : (ℕ → List StreamCall) → List StepData → Type 0) : Type 0 where
  pub steps : List StepData
  pub sent : List ℕ
  pub calls : List StreamCall
  pub did : M.DidSteps old new steps (bytes_for k sent)
  pub about : AreAbout k steps
  pub shape : Shape (calls_for k calls) steps
  pub streamed : IsStreamed N k steps [] sent calls before after
  pub ends : ends_in k steps ≡ ends_of_calls calls

-- The core did some steps of a shape, and no stream was used.
pub record CoreTransition {C : Type 0} (M : CoreModel C) (old new : C) (Shape : List StepData → Type 0) : Type 0 where
  pub steps : List StepData
  pub taken : ℕ → List ℕ
  pub did : M.DidSteps old new steps taken
  pub none : (k : ℕ) → taken k ≡ []
  pub shape : Shape steps

-- The same, but sessions may have been ended before the end of their streams.
pub record EndsAs {C S : Type 0} (M : CoreModel C) (N : StreamModel S) (old new : C) (before after : List S)
    (Shape : (ℕ → List StreamCall) → List StepData → Type 0) : Type 0 where
  pub count : length after ≡ length before
  pub steps : List StepData
  pub taken : ℕ → List ℕ
  pub calls : ℕ → List StreamCall
  pub did : M.DidSteps old new steps taken
  -- no output was taken from a session without a stream
  pub others : (k : ℕ) → length before ≤ k → taken k ≡ []
  pub shape : Shape calls steps
  pub streamed : (k : ℕ) (none : S) → k < length before → IsStreamed N k steps [] (taken k) (calls k)
      (slice_index_or before k none) (slice_index_or after k none)

-- ---- calls, the last of which may have been refused

-- The core did steps of a shape, perhaps only a part of the last one, and each stream had its calls. A refused call
-- lost at most one piece that was read for one session.
pub record Reached {C S : Type 0} (M : CoreModel C) (N : StreamModel S) (old new : C) (before after : List S)
    (Shape : (ℕ → List StreamCall) → List StepData → Type 0) : Type 0 where
  pub count : length after ≡ length before
  pub steps : List StepData
  pub taken : ℕ → List ℕ
  pub calls : ℕ → List StreamCall
  pub reaches : M.DidStepsInPart old new steps taken
  -- no output was taken from a session without a stream
  pub others : (k : ℕ) → length before ≤ k → taken k ≡ []
  -- the session whose bytes were lost, and these bytes
  pub refused : ℕ
  pub lost : List ℕ
  pub most : length lost ≤ MAX_PIECE
  pub shape : Shape calls steps
  pub streamed : (k : ℕ) (none : S) → k < length before
      → IsStreamed N k steps (bytes_for refused lost k) (taken k) (calls k)
      (slice_index_or before k none) (slice_index_or after k none)

-- The same for one session and its stream.
pub record SessionReached {C S : Type 0} (M : CoreModel C) (N : StreamModel S) (k : ℕ) (old new : C)
    (before after : S) (Shape : (ℕ → List StreamCall) → List StepData → Type 0) : Type 0 where
  pub steps : List StepData
  pub sent : List ℕ
  pub calls : List StreamCall
  pub reaches : M.DidStepsInPart old new steps (bytes_for k sent)
  pub about : AreAbout k steps
  pub lost : List ℕ
  pub most : length lost ≤ MAX_PIECE
  pub shape : Shape (calls_for k calls) steps
  pub streamed : IsStreamed N k steps lost sent calls before after
  pub ends : ends_in k steps ≤ ends_of_calls calls

-- The core did steps of a shape, perhaps only a part of the last one, and no stream was used.
pub record CoreReached {C : Type 0} (M : CoreModel C) (old new : C) (Shape : List StepData → Type 0) : Type 0 where
  pub steps : List StepData
  pub taken : ℕ → List ℕ
  pub reaches : M.DidStepsInPart old new steps taken
  pub none : (k : ℕ) → taken k ≡ []
  pub brings : (k : ℕ) → bytes_fed k steps ≡ []
  pub shape : Shape steps

-- ---- shapes

-- any steps
abbrev pub AnySteps : (ℕ → List StreamCall) → List StepData → Type 0
AnySteps calls steps = Unit {0}

-- Steps of a shape, the last of which was refused. Each end of a session is due to a call of its stream.
pub record IsRefusedIn (count : ℕ) (Shape : List StepData → Type 0) (calls : ℕ → List StreamCall)
    (steps : List StepData) : Type 0 where
  pub refused : IsInterrupted Shape steps
  pub ends : AreEndsByCalls count calls steps

-- one visit of a session
abbrev pub IsOneVisit : ℕ → List StepData → Type 0
IsOneVisit k steps = (step : StepData) × (steps ≡ step ∷ []) × IsVisit k step

-- no step is about a session
abbrev pub AreElsewhere : ℕ → List StepData → Type 0
AreElsewhere k [] = Unit {0}
AreElsewhere k (step ∷ steps) = (IsAbout k step → ⊥) × AreElsewhere k steps

-- a visit of each live session below a number, and no step about another
pub record AreVisitsBelow (count : ℕ) (ended : ℕ → Bool) (steps : List StepData) : Type 0 where
  pub each : AreVisits (live_below count ended) steps
  pub below : (k : ℕ) → count ≤ k → AreElsewhere k steps

-- the end of each live session below a number, and no step about another
pub record AreEndsBelow (count : ℕ) (ended : ℕ → Bool) (steps : List StepData) : Type 0 where
  pub each : steps ≡ map an_end (live_below count ended)
  pub below : (k : ℕ) → count ≤ k → AreElsewhere k steps

-- nothing waits for the sessions below a number
abbrev pub AreEmpty : {C : Type 0} → CoreModel C → ℕ → C → Type 0
AreEmpty M count core = (k : ℕ) → k < count → M.output core k ≡ []

-- the end of a session on whose stream a write failed
pub record IsEndOfClosed (k : ℕ) (calls : ℕ → List StreamCall) (steps : List StepData) : Type 0 where
  pub one : steps ≡ an_end k ∷ []
  pub closed : closed_by calls k ≡ true

-- The output of a session was taken, and those of the others are the same. If it couldn't be written, the session was
-- ended; there was no other step.
pub record IsOutputTaken {C : Type 0} (M : CoreModel C) (k : ℕ) (old new : C) (calls : ℕ → List StreamCall)
    (steps : List StepData) : Type 0 where
  pub ends : (steps ≡ []) ⊎ IsEndOfClosed k calls steps
  pub waiting : M.waiting new ≤ M.waiting old + 1
  pub empty : M.waiting old < SESSIONS → M.output new k ≡ []
  pub others : M.waiting old < SESSIONS → (other : ℕ) → (other ≡ k → ⊥) → M.output new other ≡ M.output old other

-- The outputs of the sessions below a number were taken, so that none is pending, whichever writes failed.
pub record AreTaken {C : Type 0} (M : CoreModel C) (count : ℕ) (old new : C) (calls : ℕ → List StreamCall)
    (steps : List StepData) : Type 0 where
  pub ends : AreEndsOfClosed (closed_by calls) steps
  pub waiting : M.waiting new ≤ M.waiting old + count
  pub empty : M.waiting old + count ≤ SESSIONS → AreEmpty M count new

-- one flush, after which nothing waits for the sessions below a number
pub record IsFlushStep {C : Type 0} (M : CoreModel C) (count : ℕ) (new : C) (calls : ℕ → List StreamCall)
    (steps : List StepData) : Type 0 where
  pub one : IsFlushAndEnds (closed_by calls) steps
  pub empty : AreEmpty M count new

-- passes until the last session has ended or the limit is reached, after which no output is pending
pub record IsServed {C : Type 0} (M : CoreModel C) (count turns : ℕ) (old new : C) (calls : ℕ → List StreamCall)
    (steps : List StepData) : Type 0 where
  pub run : IsWholeRun count (M.ended old) (closed_by calls) turns steps
  pub empty : AreEmpty M count new

pub record IsCut {C : Type 0} (M : CoreModel C) (count : ℕ) (old new : C) (calls : ℕ → List StreamCall)
    (steps : List StepData) : Type 0 where
  pub run : IsCutRun count (M.ended old) (closed_by calls) steps
  -- up to the limit
  pub ends : AreEndsByCalls count calls run.rounds
  pub empty : AreEmpty M count new

-- Passes up to a refused step, which is in the last of them or after it. In these passes each end of a session is due
-- to a call of its stream.
abbrev pub IsStoppedBy : {C : Type 0} → CoreModel C → ℕ → ℕ → C → (ℕ → List StreamCall) → List StepData → Type 0
IsStoppedBy M count turns old calls steps =
    (IsStoppedInPass count (M.ended old) (closed_by calls) turns steps × AreEndsByCalls count calls steps)
    ⊎ ((after : IsStoppedAfter count (M.ended old) (closed_by calls) turns steps)
    × AreEndsByCalls count calls after.rounds)
