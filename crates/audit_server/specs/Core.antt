-- A core as contracts see it, and the outcomes of its calls.
use Rattle.std.specs.Prelude.{◌≡◌, ℕ, ◌≤◌, true, false, Result, List, slice_set}
use Rattle.audit_disk_model.specs.declared.sectors.Sectors as sectors
use Rattle.audit_server_commit.specs.Arrivals.{appends_among}
use Rattle.audit_store.specs.Store.{device, is_broken}
use Rattle.audit_store.specs.declared.store_error.StoreError.{StoreError}
use Rattle.audit_server_commit.specs.declared.committer.Committer.{Committer}
use Rattle.audit_server_commit.specs.Committer.{store_of}
use Rattle.audit_serve_passes.specs.Steps.{StepData}
use Rattle.audit_server.specs.declared.server_core.Core.{Core}
use Rattle.audit_server.specs.declared.feed_fault.FeedFault.{FeedFault}
use Rattle.audit_server_commit.specs.Sessions.{SessionData, session_at, sessions_run, arrivals_run, session_run}
use Rattle.audit_server_commit.specs.Serving.{CoreData, IsRefusedAs}
use Rattle.audit_server.specs.Running.{AddsReplies, AdvancesBy}
use Rattle.audit_serve_passes.specs.declared.allowance.Allowance.{Allowance}
use Rattle.audit_server.specs.declared.limit.Limit.{Limit}
use Rattle.audit_server.specs.declared.limit.Limit.TheVariants as limit
use Rattle.audit_server.specs.Feeding.{IsFed, IsFedWithin}
use Rattle.audit_server.specs.Ending.{IsEnd}

module _ {D : Type 0} {g : sectors.Ghosts D} where
  -- the store of a core with its queue and its outputs, and the core's sessions
  abbrev pub committer_of : Core D g → Committer D g
  committer_of core = core.committer

  abbrev pub sessions_of : Core D g → List SessionData
  sessions_of core = core.sessions.items

  abbrev pub data_of : Core D g → CoreData D g
  data_of core = record { committer = core.committer; sessions = core.sessions.items }

  abbrev pub session_of : ℕ → Core D g → SessionData
  session_of k core = session_at k core.sessions.items

  abbrev pub is_core_broken : Core D g → Type 0
  is_core_broken core = is_broken (store_of core.committer) ≡ true

  abbrev pub IsSound : Core D g → Type 0
  IsSound core = is_broken (store_of core.committer) ≡ false

  -- all sessions but one are unchanged
  abbrev pub OnlySession : ℕ → Core D g → Core D g → Type 0
  OnlySession k old new = sessions_of new ≡ slice_set (sessions_of old) k (session_of k new)

  -- nothing has changed
  pub record IsCoreUntouched (old new : Core D g) : Type 0 where
    pub committer : committer_of new ≡ committer_of old
    pub sessions : sessions_of new ≡ sessions_of old

  -- what a refused call states about the store
  abbrev pub Refuses : Core D g → Core D g → StoreError → Type 0
  Refuses old new error = IsRefusedAs error (store_of (committer_of old)) (store_of (committer_of new))

  -- ---- a piece, and an end

  pub record PieceOutcome (k : ℕ) (piece : List ℕ) (old new : Core D g)
      (result : Result (Unit {0}) FeedFault) : Type 0 where
    pub only : OnlySession k old new
    pub fed : IsFed k piece (session_of k old) (session_of k new) (committer_of old) (committer_of new) result

  -- the same of a piece under a limit
  pub record LimitedOutcome (k : ℕ) (piece : List ℕ) (old new : Core D g) (limit left : Limit)
      (result : Result ℕ FeedFault) : Type 0 where
    pub only : OnlySession k old new
    pub fed : IsFedWithin k piece (session_of k old) (session_of k new) (committer_of old) (committer_of new)
        limit left result

  abbrev pub AllowedOutcome : ℕ → List ℕ → Core D g → Core D g → Allowance → Allowance → Result ℕ FeedFault → Type 0
  AllowedOutcome k piece old new allowance left result =
      LimitedOutcome k piece old new (limit.Within allowance) (limit.Within left) result

  pub record EndOutcome (k : ℕ) (old new : Core D g) (result : Result (Unit {0}) StoreError) : Type 0 where
    pub only : OnlySession k old new
    pub ended : IsEnd k (session_of k old) (session_of k new) (committer_of old) (committer_of new) result

  -- ---- steps in order

  -- The outcome of steps on a core that isn't broken. The sessions are those after the steps. On a store that holds
  -- events acknowledgements are durable, and if the device counted no failure the state is that of the session run.
  pub record HasDone (steps : List StepData) (old new : Core D g) : Type 0 where
    pub sessions : sessions_of new ≡ sessions_run steps (sessions_of old)
    pub sound : IsSound new
    -- the device's count of failures never falls
    pub failures : (device (store_of (committer_of old))).failures ≤ (device (store_of (committer_of new))).failures
    pub replies : AddsReplies (committer_of old) (committer_of new)
    pub advances : AdvancesBy (appends_among (arrivals_run steps (sessions_of old)))
        (λ origin. session_run origin steps (sessions_of old)) (committer_of old) (committer_of new)
