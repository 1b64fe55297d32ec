-- Passes: each live session has one step in rising order, followed by a flush.
use Rattle.std.specs.Prelude.{◌≡◌, ◌≢◌, ◌⊎◌, ℕ, zero, suc, ◌≤◌, Bool, true, if◌then◌else◌, List, [], ◌∷◌, ◌++◌}
use Rattle.std.specs.Prelude.{length, map}
use Rattle.audit_serve_passes.specs.declared.limits.TheConstants.{MAX_PIECE, MAX_TURNS}
use Rattle.audit_serve_passes.specs.Steps.{StepData, a_piece, an_end, a_flush, IsPartOf}

-- the sessions below a number that have not ended, in rising order
abbrev pub live_below : ℕ → (ℕ → Bool) → List ℕ
live_below zero ended = []
live_below (suc k) ended = live_below k ended ++ (if ended k then [] else k ∷ [])

-- a visit of a session: its next bytes, or its end
abbrev pub IsVisit : ℕ → StepData → Type 0
IsVisit k (a_piece session piece) = (session ≡ k) × (1 ≤ length piece) × (length piece ≤ MAX_PIECE)
IsVisit k (an_end session) = session ≡ k
IsVisit k a_flush = ⊥

-- one visit of each of these sessions
abbrev pub AreVisits : List ℕ → List StepData → Type 0
AreVisits [] [] = Unit {0}
AreVisits [] (step ∷ steps) = ⊥
AreVisits (k ∷ sessions) [] = ⊥
AreVisits (k ∷ sessions) (step ∷ steps) = IsVisit k step × AreVisits sessions steps

-- a write failed on the stream of each of these sessions
abbrev pub AreClosed : (ℕ → Bool) → List ℕ → Type 0
AreClosed closed [] = Unit {0}
AreClosed closed (k ∷ sessions) = (closed k ≡ true) × AreClosed closed sessions

-- the steps end sessions on whose streams a write failed
pub record AreEndsOfClosed (closed : ℕ → Bool) (steps : List StepData) : Type 0 where
  pub sessions : List ℕ
  pub are : steps ≡ map an_end sessions
  pub each : AreClosed closed sessions

-- a flush, and the ends of sessions to which its replies couldn't be written
pub record IsFlushAndEnds (closed : ℕ → Bool) (steps : List StepData) : Type 0 where
  pub ends : List StepData
  pub are : steps ≡ a_flush ∷ ends
  pub each : AreEndsOfClosed closed ends

-- a visit of each live session below a number, followed by a flush
pub record IsPass (count : ℕ) (ended closed : ℕ → Bool) (steps : List StepData) : Type 0 where
  pub turns : List StepData
  pub last : List StepData
  pub are : steps ≡ turns ++ last
  pub each : AreVisits (live_below count ended) turns
  pub flush : IsFlushAndEnds closed last

-- this many passes, each over the sessions that are live after the earlier steps, and at least one
abbrev pub ArePasses : ℕ → (List StepData → ℕ → Bool) → (ℕ → Bool) → ℕ → List StepData → Type 0
ArePasses count ended closed zero steps = steps ≡ []
ArePasses count ended closed (suc turns) steps =
    (earlier : List StepData) × (round : List StepData) × (steps ≡ earlier ++ round)
    × ArePasses count ended closed turns earlier
    × (live_below count (ended earlier) ≢ []) × IsPass count (ended earlier) closed round

-- what follows the passes: each live session is ended, followed by one more flush
pub record IsLastFlush (count : ℕ) (ended closed : ℕ → Bool) (steps : List StepData) : Type 0 where
  pub last : List StepData
  pub are : steps ≡ map an_end (live_below count ended) ++ last
  pub flush : IsFlushAndEnds closed last

-- passes until the last session has ended, followed by one more flush
pub record IsWholeRun (count : ℕ) (ended : List StepData → ℕ → Bool) (closed : ℕ → Bool) (turns : ℕ)
    (steps : List StepData) : Type 0 where
  pub rounds : List StepData
  pub last : List StepData
  pub are : steps ≡ rounds ++ last
  pub each : ArePasses count ended closed turns rounds
  pub all_ended : live_below count (ended rounds) ≡ []
  pub flush : IsFlushAndEnds closed last

-- as many passes as the limit allows, after which sessions are still live: each of them is ended, followed by one more
-- flush
pub record IsCutRun (count : ℕ) (ended : List StepData → ℕ → Bool) (closed : ℕ → Bool)
    (steps : List StepData) : Type 0 where
  pub rounds : List StepData
  pub last : List StepData
  pub are : steps ≡ rounds ++ last
  pub each : ArePasses count ended closed MAX_TURNS rounds
  pub live : live_below count (ended rounds) ≢ []
  pub ends : IsLastFlush count (ended rounds) closed last

-- ---- steps, the last of which was refused

-- the steps of a shape up to a refused one, and a part of the refused step
pub record IsInterrupted (Shape : List StepData → Type 0) (steps : List StepData) : Type 0 where
  pub front : List StepData
  pub step : StepData
  pub part : List StepData
  pub later : List StepData
  pub are : steps ≡ front ++ part
  pub of : IsPartOf step part
  pub shape : Shape (front ++ step ∷ later)

-- this many passes were begun, and a step of the last one was refused
pub record IsStoppedInPass (count : ℕ) (ended : List StepData → ℕ → Bool) (closed : ℕ → Bool) (turns : ℕ)
    (steps : List StepData) : Type 0 where
  pub earlier : List StepData
  pub last : List StepData
  pub are : steps ≡ earlier ++ last
  pub whole : ℕ
  pub begun : turns ≡ suc whole
  pub each : ArePasses count ended closed whole earlier
  pub live : live_below count (ended earlier) ≢ []
  pub pass : IsInterrupted (IsPass count (ended earlier) closed) last

-- this many passes were made, until no session was live or up to the limit, and a step after them was refused
pub record IsStoppedAfter (count : ℕ) (ended : List StepData → ℕ → Bool) (closed : ℕ → Bool) (turns : ℕ)
    (steps : List StepData) : Type 0 where
  pub rounds : List StepData
  pub last : List StepData
  pub are : steps ≡ rounds ++ last
  pub each : ArePasses count ended closed turns rounds
  pub over : (live_below count (ended rounds) ≡ []) ⊎ (turns ≡ MAX_TURNS)
  pub ends : IsInterrupted (IsLastFlush count (ended rounds) closed) last
