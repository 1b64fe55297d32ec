-- Serving a store to clients that come and go, by a new core.
use Rattle.std.specs.Prelude.{◌≡◌, ◌⊎◌, ℕ, Bool, true, Option, List, length, replicate}
use Rattle.std.specs.Io.KnownBytes.{Appends}
use Rattle.audit_base.specs.declared.limits.TheConstants.{SESSIONS}
use Rattle.audit_disk_model.specs.declared.sectors.Sectors as sectors
use Rattle.audit_store.specs.Store.{active_header}
use Rattle.audit_store.specs.declared.store.Store.{Store}
use Rattle.audit_store.specs.declared.store_error.StoreError.{StoreError}
use Rattle.audit_store.specs.declared.store_error.StoreError.TheVariants.{Memory}
use Rattle.audit_server_commit.specs.Committer.{store_of, stops_of, is_full_of}
use Rattle.audit_serve_passes.specs.Steps.{a_flush}
use Rattle.audit_serve_passes.specs.Core.{GoesBy}
use Rattle.audit_serve_passes.specs.Streams.{CallModel}
use Rattle.audit_serve_ready.specs.Slot.{SlotData, vacant}
use Rattle.audit_serve_ready.specs.Places.{WritesOn}
use Rattle.audit_serve_ready.specs.Backlog.{OwesNothing, AreWithinBacklog}
use Rattle.audit_serve_ready.specs.Door.{DoorModel}
use Rattle.audit_serve_ready.specs.Clients.{ServesClients, StopsServing}
use Rattle.audit_serve_ready.specs.Rounds.{ServesUntilStopped, IsWritten, AnswersWaiting}
use Rattle.audit_server_commit.specs.Serving.{IsRefusedAs}
use Rattle.audit_server.specs.declared.server_core.Core.{Core}
use Rattle.audit_server.specs.Core.{committer_of, Refuses}
use Rattle.audit_server.specs.CoreModel.{core_model}
use Rattle.audit_server.specs.NewCore.{CoreTerms, IsNewCore}
use Rattle.audit_cli_base.specs.Faults.{IsUnwritten}
use Rattle.audit_cli_base.specs.declared.fault.CommandError.{CommandError}
use Rattle.audit_cli_base.specs.declared.fault.CommandError.TheVariants.{Refused}
use Rattle.audit_cli_daemon.specs.declared.end.End.{End}
use Rattle.audit_cli_daemon.specs.declared.end.End.TheVariants.{Stopped, Full}
use Rattle.audit_cli_daemon.specs.State.{ready_line}

-- what a daemon's core is made with, and whether it stops when it is full
pub record DaemonTerms : Type 0 where
  pub core : CoreTerms
  pub stops : Bool

-- a new core over the store, with these terms
pub record IsDaemonCore {D : Type 0} {g : sectors.Ghosts D} (terms : DaemonTerms) (store : Store D g) (core : Core D g)
    : Type 0 where
  pub new : IsNewCore terms.core store core
  pub stops : stops_of (committer_of core) ≡ terms.stops

-- no place has a client
abbrev pub no_clients : {S : Type 0} → List (SlotData S)
no_clients = replicate SESSIONS vacant

module _ {D : Type 0} {g : sectors.Ghosts D} {E S : Type 0} (N : CallModel S) (doors : DoorModel E S) where
  -- Clients were served in rounds as they came and went, until the door said to stop or let no replies leave; then they
  -- took what was kept for them, until nothing was, or the door said to stop. At the end of serving, whenever that was,
  -- each had at most the backlog or one longest reply kept for it, if it was so at the start.
  pub record IsServedBy (backlog : ℕ) (was now : E) (old new : Core D g) (before after : List (SlotData S))
      : Type 0 where
    pub between : List (SlotData S)
    pub turn : ℕ
    pub stopped : E
    pub rounds : ServesUntilStopped core_model N doors backlog was stopped old new before between
    pub written : IsWritten N doors stopped now between after
    pub served : ServesClients core_model N backlog 0 turn old new before between
    pub within : OwesNothing core_model (length before) old → AreWithinBacklog core_model backlog old before
        → AreWithinBacklog core_model backlog new between
    pub finished : WritesOn N between after

  -- the same by a new core over the store, with these terms and this backlog
  pub record ServesStore (terms : DaemonTerms) (backlog : ℕ) (was now : E) (old new : Store D g) : Type 0 where
    pub core : Core D g
    pub made : IsDaemonCore terms old core
    pub last : Core D g
    pub left : new ≡ store_of (committer_of last)
    pub after : List (SlotData S)
    pub served : IsServedBy backlog was now core last no_clients after
    -- What was kept for each client, and what its session was owed, was at most the backlog or one longest reply.
    pub within : AreWithinBacklog core_model backlog last served.between

module _ {D : Type 0} {g : sectors.Ghosts D} {S : Type 0} (N : CallModel S) where
  -- The core refused a step, since the device lacks space for an event. What was taken before still waits.
  pub record EndsForSpace (backlog : ℕ) (old new : Core D g) (before after : List (SlotData S)) : Type 0 where
    pub stopped : StopsServing core_model N backlog (λ first later. Refuses first later Memory) 0 old new before after
    pub full : is_full_of (committer_of new) ≡ true

-- `InEnd` says of a door that its end has begun.
module _ {D : Type 0} {g : sectors.Ghosts D} {E S : Type 0} (N : CallModel S) (doors : DoorModel E S)
    (InEnd : E → Type 0) where
  -- Then the door's end began, and what waited was answered.
  pub record IsFilledBy (backlog : ℕ) (now : E) (old new : Core D g) (before after : List (SlotData S)) : Type 0 where
    pub mid : Core D g
    pub between : List (SlotData S)
    pub ends : EndsForSpace N backlog old mid before between
    pub begun : E
    pub in_end : InEnd begun
    pub answered : AnswersWaiting core_model N doors begun now mid new between after

  -- what serving came to, by its end
  abbrev pub IsServedTo : End → ℕ → E → E → Core D g → Core D g → List (SlotData S) → List (SlotData S) → Type 0
  IsServedTo Stopped backlog was now old new before after = IsServedBy N doors backlog was now old new before after
  IsServedTo Full backlog was now old new before after = IsFilledBy backlog now old new before after

  -- the same by a new core over the store, with these terms and this backlog, that answers nobody with `Full`
  pub record FillsStore (terms : DaemonTerms) (backlog : ℕ) (now : E) (old new : Store D g) : Type 0 where
    pub core : Core D g
    pub made : IsDaemonCore terms old core
    pub stops : stops_of (committer_of core) ≡ true
    pub last : Core D g
    pub left : new ≡ store_of (committer_of last)
    pub after : List (SlotData S)
    pub filled : IsFilledBy backlog now core last no_clients after

  abbrev pub ServesStoreTo : End → DaemonTerms → ℕ → E → E → Store D g → Store D g → Type 0
  ServesStoreTo Stopped terms backlog was now old new = ServesStore N doors terms backlog was now old new
  ServesStoreTo Full terms backlog was now old new = FillsStore terms backlog now old new

module _ {D : Type 0} {g : sectors.Ghosts D} {S : Type 0} (N : CallModel S) where
  -- the core refused a step
  abbrev pub EndsByRefusal : ℕ → Core D g → Core D g → List (SlotData S) → List (SlotData S) → CommandError → Type 0
  EndsByRefusal backlog old new before after fault = (error : StoreError) × (fault ≡ Refused error)
      × StopsServing core_model N backlog (λ first later. Refuses first later error) 0 old new before after

  -- the core refused the flush that was to answer what waited after it was full
  pub record FailsToAnswer (backlog : ℕ) (old new : Core D g) (before : List (SlotData S)) (fault : CommandError)
      : Type 0 where
    pub mid : Core D g
    pub between : List (SlotData S)
    pub ends : EndsForSpace N backlog old mid before between
    pub went : GoesBy core_model a_flush mid new
    pub error : StoreError
    pub fault_is : fault ≡ Refused error
    pub refused : Refuses mid new error

  -- either, the latter only of a core that stops when it is full
  abbrev pub EndsServingBy : ℕ → Bool → Core D g → Core D g → List (SlotData S) → List (SlotData S) → CommandError
      → Type 0
  EndsServingBy backlog stops old new before after fault = EndsByRefusal backlog old new before after fault
      ⊎ ((stops ≡ true) × FailsToAnswer backlog old new before fault)

  -- A new core over the store, with these terms and this backlog, served clients up to the pass in which it refused a
  -- step.
  pub record StopsStore (terms : DaemonTerms) (backlog : ℕ) (error : StoreError) (old new : Store D g) : Type 0 where
    pub core : Core D g
    pub made : IsDaemonCore terms old core
    pub last : Core D g
    pub left : new ≡ store_of (committer_of last)
    pub after : List (SlotData S)
    pub stopped : StopsServing core_model N backlog (λ first later. Refuses first later error) 0 core last no_clients
        after
    pub refused : IsRefusedAs error old new

  -- the same by a new core over the store, with these terms, that stops when it is full
  pub record FailsStore (terms : DaemonTerms) (backlog : ℕ) (fault : CommandError) (old new : Store D g) : Type 0 where
    pub core : Core D g
    pub made : IsDaemonCore terms old core
    pub stops : stops_of (committer_of core) ≡ true
    pub last : Core D g
    pub left : new ≡ store_of (committer_of last)
    pub fails : FailsToAnswer backlog core last no_clients fault

  -- Why the clients weren't served to the end: the first line wasn't written, or memory was refused before it; or the
  -- core refused a step, or the flush after it was full.
  abbrev pub StopsDaemon : DaemonTerms → ℕ → Store D g → Store D g → Option (List ℕ) → Option (List ℕ) → CommandError
      → Type 0
  StopsDaemon terms backlog old new before after fault =
      ((new ≡ old) × IsUnwritten before after fault)
      ⊎ (((error : StoreError) × (fault ≡ Refused error) × StopsStore terms backlog error old new
      × Appends before after (ready_line (active_header old)))
      ⊎ (FailsStore terms backlog fault old new × Appends before after (ready_line (active_header old))))
