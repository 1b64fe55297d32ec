-- Reading in a pass: the turns of the sessions.
use Rattle.std.specs.Prelude.{◌≡◌, ◌≢◌, ◌⊎◌, ℕ, ◌+◌, ◌-◌, ◌%◌, ◌<◌, ◌≤◌, nat_le, Bool, true, false, ◌==◌, if◌then◌else◌}
use Rattle.std.specs.Prelude.{List, [], ◌∷◌, length, slice_index_or}
use Rattle.std.specs.List.{AllByRecursion}
use Rattle.audit_serve_ready.specs.declared.limits.TheConstants.{MAX_ASKED, MAX_READ}
use Rattle.audit_serve_passes.specs.Steps.{StepData, a_piece, an_end, a_flush}
use Rattle.audit_serve_passes.specs.Streams.{StreamCall, CallModel, bytes_read, bytes_sent}
use Rattle.audit_serve_passes.specs.Core.{CoreModel, asked_by, no_bytes}
use Rattle.audit_serve_ready.specs.declared.slot.Look.{Look}
use Rattle.audit_serve_ready.specs.declared.slot.Look.TheVariants as look
use Rattle.audit_serve_ready.specs.declared.turns.Turn.{Turn}
use Rattle.audit_serve_ready.specs.declared.turns.Turn.TheVariants as turn
use Rattle.audit_serve_ready.specs.Slot.{SlotData, unread_of, is_shut, IsAskedForBytes, IsSamePlace}
use Rattle.audit_serve_ready.specs.Places.{slot_at, has_last_read, IsServedAt, IsReadyPass}
use Rattle.audit_serve_ready.specs.Backlog.{IsPutOff, TakesUp}

-- A session's turn: its next bytes, none of them if they have to wait, or its end.
abbrev pub IsTurn : ℕ → StepData → Type 0
IsTurn k (a_piece session piece) = (session ≡ k) × (length piece ≤ MAX_READ)
IsTurn k (an_end session) = session ≡ k
IsTurn k a_flush = ⊥

-- how many of these steps are about session k
abbrev pub is_about : ℕ → StepData → Bool
is_about k (a_piece session piece) = session == k
is_about k (an_end session) = session == k
is_about k a_flush = false

abbrev pub steps_about : ℕ → List StepData → ℕ
steps_about k [] = 0
steps_about k (step ∷ steps) = (if is_about k step then 1 else 0) + steps_about k steps

-- the number of the turn of session `k`, of `count` sessions that have turns in a ring from session `first` on
abbrev pub turn_number : ℕ → ℕ → ℕ → ℕ
turn_number first count k =
    if nat_le (first % count) k then k - first % count else (k + count) - first % count

-- whether a session is marked as one that has had its turn, as a number
abbrev pub mark : List Bool → ℕ → ℕ
mark marks k = if slice_index_or marks k true then 1 else 0

-- what a look at a client's bytes found: the stream was read to its end or failed, or not; and bytes are unread or not
abbrev pub IsFound : {S : Type 0} → Look → List StreamCall → SlotData S → Type 0
IsFound look.Nothing calls slot = (has_last_read calls ≡ false) × (unread_of slot ≡ [])
IsFound look.Over calls slot = (has_last_read calls ≡ true) × (unread_of slot ≡ [])
IsFound look.Bytes calls slot = has_last_read calls ≡ false

-- in a turn something was taken, or has to wait, or the session was ended
abbrev pub is_had : Turn → Bool
is_had turn.Idle = false
is_had turn.Held = true
is_had turn.Moved = true

abbrev pub has_moved : Turn → Bool
has_moved turn.Idle = false
has_moved turn.Held = false
has_moved turn.Moved = true

-- bytes of a session have to wait
abbrev pub IsWait : StepData → Type 0
IsWait step = (k : ℕ) × (step ≡ a_piece k [])

-- one step, which is a turn, or none
abbrev pub IsTurnTaken : ℕ → Bool → List StepData → Type 0
IsTurnTaken k true steps = (step : StepData) × (steps ≡ step ∷ []) × IsTurn k step
IsTurnTaken k false steps = steps ≡ []

module _ {C S : Type 0} (M : CoreModel C) where
  -- A session had no turn: of its client nothing was read, and the others' turns don't matter to it.
  pub record IsLeftOut (k : ℕ) (calls : List StreamCall) (old new : C) (before after : SlotData S) : Type 0 where
    pub ended : M.ended new [] k ≡ M.ended old [] k
    pub requests : (bytes : List ℕ) → (M.requests new k bytes ≡ M.requests old k bytes)
        × (M.replies new k bytes ≡ M.replies old k bytes)
    pub unread : unread_of after ≡ unread_of before
    pub read : bytes_read calls ≡ []

module _ {C S : Type 0} (M : CoreModel C) (N : CallModel S) where
  -- A session whose place is shut is ended; the client of another one was asked for bytes.
  abbrev pub IsAttended : ℕ → List StreamCall → C → SlotData S → Type 0
  IsAttended k calls new before = ((is_shut before ≡ true) × (M.ended new [] k ≡ true)) ⊎ IsAskedForBytes calls before

  -- a step is the turn of a session below a number that is live
  abbrev pub IsTurnOfLive : ℕ → C → StepData → Type 0
  IsTurnOfLive count core step = (k : ℕ) × (k < count) × (M.ended core [] k ≡ false) × IsTurn k step

-- the longest replies to the questions that these steps feed to a core, if each session is fed once
abbrev pub asked_in : {C : Type 0} → CoreModel C → C → List StepData → ℕ
asked_in M core [] = 0
asked_in M core (a_piece k piece ∷ steps) = asked_by (M.requests core k piece) + asked_in M core steps
asked_in M core (an_end k ∷ steps) = asked_in M core steps
asked_in M core (a_flush ∷ steps) = asked_in M core steps

-- With a reply of this length, those to the questions in these steps are more than the questions of a pass may ask for.
abbrev pub HasAskedMost : {C : Type 0} → CoreModel C → C → List StepData → ℕ → Type 0
HasAskedMost M core steps reply = MAX_ASKED < asked_in M core steps + reply

-- Of what questions might ask for before these steps, in bytes of replies, this remains: the rest are replies to them.
pub record SpendsShare {C : Type 0} (M : CoreModel C) (given remains : ℕ) (core : C) (steps : List StepData)
    : Type 0 where
  pub fewer : remains ≤ given
  pub spent : given ≤ remains + asked_in M core steps

-- what remains has no room for a reply of this length
abbrev pub IsShort : ℕ → ℕ → Type 0
IsShort remains reply = remains < reply

module _ {C S : Type 0} (M : CoreModel C) (N : CallModel S) (backlog given remains : ℕ) where
  -- A session was fed the first of what is unread, or had to wait.
  pub record IsFedPiece (moved : Bool) (k : ℕ) (old new : C) (before after : SlotData S) : Type 0 where
    pub piece : List ℕ
    pub most : length piece ≤ MAX_READ
    pub held : moved ≡ false → piece ≡ []
    pub moves : moved ≡ true → piece ≢ []
    pub did : M.DidSteps old new (a_piece k piece ∷ []) no_bytes
    pub served : IsServedAt N k (a_piece k piece ∷ []) [] [] [] before after
    pub left : (unread_of after ≡ []) ⊎ IsPutOff M backlog (IsShort remains) k old piece (unread_of after) before
    pub same : IsSamePlace [] before after
    pub share : SpendsShare M given remains old (a_piece k piece ∷ [])

  -- the turn of a session
  pub record HasTurn (moved : Bool) (k : ℕ) (had : Bool) (old new : C) (before after : SlotData S) : Type 0 where
    pub steps : List StepData
    pub calls : List StreamCall
    pub did : M.DidSteps old new steps no_bytes
    pub taken : IsTurnTaken k had steps
    pub waits : moved ≡ false → AllByRecursion IsWait steps
    pub moves : moved ≡ true → AllByRecursion IsWait steps → ⊥
    pub served : IsServedAt N k steps [] [] calls before after
    pub seen : IsAttended M N k calls new before
    pub last : has_last_read calls ≡ true → M.ended new [] k ≡ true
    pub same : IsSamePlace calls before after
    pub quiet : bytes_sent calls ≡ []
    pub left : is_shut before ≡ false → TakesUp M backlog (IsShort remains) k calls old before after
    pub share : SpendsShare M given remains old steps
    pub none : had ≡ false → (unread_of after ≡ unread_of before) × (bytes_read calls ≡ [])

  -- Some sessions had their turns, each at most one: those that are marked now and weren't before. Whoever else is
  -- meant was asked for bytes in vain.
  pub record TakesTurns (moved : Bool) (Meant : ℕ → Type 0) (had now : List Bool) (old new : C)
      (before after : List (SlotData S)) : Type 0 where
    pub steps : List StepData
    pub calls : ℕ → List StreamCall
    pub pass : IsReadyPass N (M.DidSteps old new) no_bytes steps no_bytes calls before after
    pub turns : AllByRecursion (IsTurnOfLive M N (length before) old) steps
    pub once : (k : ℕ) → steps_about k steps + mark had k ≤ mark now k
    pub waits : moved ≡ false → AllByRecursion IsWait steps
    pub moves : moved ≡ true → AllByRecursion IsWait steps → ⊥
    pub marks : (k : ℕ) → slice_index_or had k true ≡ true → slice_index_or now k true ≡ true
    pub seen : (k : ℕ) → k < length before → slice_index_or had k true ≡ false → M.ended old [] k ≡ false
        → (Meant k ⊎ (slice_index_or now k true ≡ true)) → IsAttended M N k (calls k) new (slot_at k before)
    pub last : (k : ℕ) → k < length before → has_last_read (calls k) ≡ true → M.ended new [] k ≡ true
    pub same : (k : ℕ) → IsSamePlace (calls k) (slot_at k before) (slot_at k after)
    pub quiet : (k : ℕ) → bytes_sent (calls k) ≡ []
    pub left : (k : ℕ) → k < length before → slice_index_or had k true ≡ false → M.ended old [] k ≡ false
        → is_shut (slot_at k before) ≡ false → (Meant k ⊎ (slice_index_or now k true ≡ true))
        → TakesUp M backlog (IsShort remains) k (calls k) old (slot_at k before) (slot_at k after)
    pub share : SpendsShare M given remains old steps
    pub alone : (k : ℕ) → slice_index_or now k true ≡ false
        → IsLeftOut M k (calls k) old new (slot_at k before) (slot_at k after)
    pub over : (k : ℕ) → slice_index_or had k true ≡ true
        → (bytes_read (calls k) ≡ []) × (unread_of (slot_at k after) ≡ unread_of (slot_at k before))

module _ {C S : Type 0} (M : CoreModel C) (N : CallModel S) (backlog : ℕ) where
  -- What reading does in a pass: each live session has at most one turn, and it has one or is asked for bytes in vain.
  -- Whoever's stream is over then is ended, and so is whoever's place is shut. Of the others' bytes all is taken, up to
  -- a request that has to wait. Nothing is written. Something moved, unless each of these turns was a wait.
  pub record ReadsPlaces (moved : Bool) (steps : List StepData) (calls : ℕ → List StreamCall) (old new : C)
      (before after : List (SlotData S)) : Type 0 where
    pub pass : IsReadyPass N (M.DidSteps old new) no_bytes steps no_bytes calls before after
    pub turns : AllByRecursion (IsTurnOfLive M N (length before) old) steps
    pub once : (k : ℕ) → steps_about k steps ≤ 1
    pub waits : moved ≡ false → AllByRecursion IsWait steps
    pub moves : moved ≡ true → AllByRecursion IsWait steps → ⊥
    pub seen : (k : ℕ) → k < length before → M.ended old [] k ≡ false
        → IsAttended M N k (calls k) new (slot_at k before)
    pub last : (k : ℕ) → k < length before → has_last_read (calls k) ≡ true → M.ended new [] k ≡ true
    pub same : (k : ℕ) → IsSamePlace (calls k) (slot_at k before) (slot_at k after)
    pub quiet : (k : ℕ) → bytes_sent (calls k) ≡ []
    pub left : (k : ℕ) → k < length before → M.ended old [] k ≡ false → is_shut (slot_at k before) ≡ false
        → TakesUp M backlog (HasAskedMost M old steps) k (calls k) old (slot_at k before) (slot_at k after)
