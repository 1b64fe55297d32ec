-- Serving clients that come and go.
use Rattle.std.specs.Prelude.{◌≡◌, ℕ, ◌+◌, ◌-◌, ◌<◌, nat_lt, if◌then◌else◌, true, false, None, List, [], ◌∷◌, length}
use Rattle.std.specs.Prelude.{slice_set}
use Rattle.audit_base.specs.declared.limits.TheConstants.{SESSIONS}
use Rattle.audit_serve_passes.specs.Steps.{StepData}
use Rattle.audit_serve_passes.specs.Streams.{StreamCall, CallModel}
use Rattle.audit_serve_passes.specs.Core.{CoreModel, no_bytes}
use Rattle.audit_serve_ready.specs.declared.newcomer.Newcomer.{Newcomer}
use Rattle.audit_serve_ready.specs.Slot.{SlotData, vacant, serving, has_client, kept_of}
use Rattle.audit_serve_ready.specs.Places.{slot_at, IsReadyPass, StopsAtPlaces}
use Rattle.audit_serve_ready.specs.Backlog.{TakesTurn}

pub data ClientChange (S : Type 0) : Type 0 where
  -- the clients that are there were served: these steps were done, these bytes were taken of the sessions' outputs, and
  -- the clients' streams had these calls
  a_pass : List StepData → (ℕ → List ℕ) → (ℕ → List StreamCall) → ClientChange S
  -- a client came to a place, with its rights
  a_coming : ℕ → Newcomer S → ClientChange S
  -- a client came to a place and went, since memory was refused for its session
  a_refusal : ℕ → Newcomer S → ClientChange S
  -- the client of a place went
  a_going : ℕ → ClientChange S

-- The session with the first turn goes round from pass to pass.
abbrev pub next_first : ℕ → ℕ
next_first first = if nat_lt first (SESSIONS - 1) then first + 1 else 0

abbrev pub first_after : {S : Type 0} → ℕ → ClientChange S → ℕ
first_after first (a_pass steps taken calls) = next_first first
first_after first _ = first

abbrev pub first_after_all : {S : Type 0} → ℕ → List (ClientChange S) → ℕ
first_after_all first [] = first
first_after_all first (change ∷ changes) = first_after_all (first_after first change) changes

module _ {C S : Type 0} (M : CoreModel C) (N : CallModel S) (backlog : ℕ) where
  -- The clients that are there were served. After it nothing waits to be answered, so that each append that was taken
  -- has been committed or refused. The first turn is that of session `first`.
  pub record IsClientPass (first : ℕ) (steps : List StepData) (taken : ℕ → List ℕ) (calls : ℕ → List StreamCall)
      (old new : C) (before after : List (SlotData S)) : Type 0 where
    pub served : IsReadyPass N (M.DidSteps old new) no_bytes steps taken calls before after
    pub answered : M.Idle new
    pub turn : first < length before → TakesTurn M backlog first old (slot_at first before) (slot_at first after)

  -- A session begins anew only where it has ended, nothing waits to be answered, its output was taken, and its place
  -- is vacant. It has the client's rights. The client gets the place with nothing unread or kept in it.
  pub record IsComing (k : ℕ) (client : Newcomer S) (old new : C) (before after : List (SlotData S)) : Type 0 where
    pub ended : M.ended old [] k ≡ true
    pub idle : M.Idle old
    pub taken : M.output old k ≡ []
    pub within : k < length before
    pub vacant : has_client (slot_at k before) ≡ false
    pub begun : M.Begins k client.rights old new
    pub place : after ≡ slice_set before k (serving client.stream [] [] None)

  -- Memory was refused for the session of a client, and nothing was done.
  pub record IsTurnedAway (k : ℕ) (old new : C) (before after : List (SlotData S)) : Type 0 where
    pub refused : M.LacksMemory k old new
    pub did : M.DidSteps old new [] no_bytes
    pub places : after ≡ before

  -- A client goes only when its session has ended and nothing is kept for it or waits to be taken for it.
  pub record IsGoing (k : ℕ) (old new : C) (before after : List (SlotData S)) : Type 0 where
    pub same : new ≡ old
    pub ended : M.ended old [] k ≡ true
    pub taken : M.output old k ≡ []
    pub within : k < length before
    pub had : has_client (slot_at k before) ≡ true
    pub written : kept_of (slot_at k before) ≡ []
    pub place : after ≡ slice_set before k vacant

  abbrev pub IsChange : ℕ → ClientChange S → C → C → List (SlotData S) → List (SlotData S) → Type 0
  IsChange first (a_pass steps taken calls) old new before after =
      IsClientPass first steps taken calls old new before after
  IsChange first (a_coming k client) old new before after = IsComing k client old new before after
  IsChange first (a_refusal k client) old new before after = IsTurnedAway k old new before after
  IsChange first (a_going k) old new before after = IsGoing k old new before after

  -- these changes in order, of which the first pass has session `first` first
  abbrev pub AreChanges : ℕ → List (ClientChange S) → C → C → List (SlotData S) → List (SlotData S) → Type 0
  AreChanges first [] old new before after = (new ≡ old) × (after ≡ before)
  AreChanges first (change ∷ changes) old new before after = (mid : C) × (between : List (SlotData S))
      × IsChange first change old mid before between
      × AreChanges (first_after first change) changes mid new between after

  -- and after them session `next` is first
  pub record ServesClients (first next : ℕ) (old new : C) (before after : List (SlotData S)) : Type 0 where
    pub changes : List (ClientChange S)
    pub are : AreChanges first changes old new before after
    pub turns : first_after_all first changes ≡ next

  -- The same up to a pass in which a step was refused, of which the refusal says this.
  pub record StopsServing (Refuses : C → C → Type 0) (first : ℕ) (old new : C)
      (before after : List (SlotData S)) : Type 0 where
    pub mid : C
    pub between : List (SlotData S)
    pub changes : List (ClientChange S)
    pub are : AreChanges first changes old mid before between
    pub refused : Refuses mid new
    pub last : StopsAtPlaces N (M.DidStepsInPart mid new) between after
