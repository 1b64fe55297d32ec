-- What running a daemon comes to, apart from its sockets.
use denote.Ref.{Bor}
use Rattle.std.specs.Prelude.{◌≡◌, ◌≢◌, ◌⊎◌, ◌≤◌, ℕ, ℤ, Bool, Option, None, Result, Ok, Err, List, ◌++◌, IfSome}
use Rattle.std.specs.Prelude.{is_some}
use Rattle.std.specs.Io.KnownBytes.{Appends, Keeps}
use Rattle.audit_disk_model.specs.declared.sectors.Sectors as sectors
use Rattle.audit_disk.specs.declared.files.TheConstants.{OWNER_ONLY}
use Rattle.audit_store.specs.Store.{active_header}
use Rattle.audit_store.specs.declared.store.Store.{Store}
use Rattle.audit_text.specs.Writing.{WritesInPart}
use Rattle.audit_server_commit.specs.Committing.{free_after}
use Rattle.audit_server_commit.specs.Serving.{StoreKeepsOn}
use Rattle.audit_serve_passes.specs.Streams.{CallModel}
use Rattle.audit_serve_ready.specs.Door.{DoorModel}
use Rattle.audit_cli_base.specs.Arguments.{number_asked}
use Rattle.audit_cli_calls.specs.StoreCalls.{StoresModel, OpensAndLetsGo, OpensNone}
use Rattle.audit_cli_base.specs.Mode.{IsMode}
use Rattle.audit_cli_base.specs.Faults.{status_of_end}
use Rattle.audit_cli_base.specs.declared.status.Status.{Status}
use Rattle.audit_cli_base.specs.declared.status.Status.TheVariants as ends
use Rattle.audit_cli_base.specs.declared.fault.CommandError.{CommandError}
use Rattle.audit_cli_base.specs.declared.fault.CommandError.TheVariants.{File}
use Rattle.audit_cli_daemon.specs.declared.arguments.TheConstants.{DEFAULT_IDLE, DEFAULT_RESERVE}
use Rattle.audit_cli_daemon.specs.declared.request.Settings.{Settings}
use Rattle.mio.specs.declared.net.uds.listener.UnixListener.{UnixListener}
use Rattle.audit_serve_door.specs.declared.socket_door.SocketDoor.{SocketDoor}
use Rattle.audit_serve_sockets.specs.Bound.{SocketFacts}
use Rattle.audit_cli_daemon.specs.declared.gauge.GaugedDoor.{GaugedDoor}
use Rattle.audit_cli_daemon.specs.Gauged.{IsTold, IsEnding}
use Rattle.audit_cli_daemon.specs.Rights.{rights_at, rights_of_others, modes_at, IsDoorFor}
use Rattle.audit_serve_passes.specs.declared.bound_kinds.BoundKinds.{BoundKinds}
use Rattle.audit_serve_passes.specs.declared.rights.Rights.{Rights}
use Rattle.audit_serve_passes.specs.Rights.{is_bound}
use Rattle.audit_cli_daemon.specs.Sources.{SourceData, words_of, sources_in, has_kind, kinds_bound}
use Rattle.audit_cli_daemon.specs.declared.end.End.{End}
use Rattle.audit_cli_daemon.specs.declared.end.End.TheVariants.{Stopped, Full}
use Rattle.audit_cli_daemon.specs.Running.{DaemonTerms, ServesStoreTo}
use Rattle.audit_cli_daemon.specs.Sockets.{paths_at, ListenAt}
use Rattle.audit_cli_daemon.specs.State.{ready_line, closing_line}
use Rattle.audit_cli_daemon.specs.Words.{backlog_asked, free_asked, free_kept}

-- the door came to such an end; or the last event found no space, but the reserve is free
abbrev pub ComesToEnd : {D E : Type 0} {g : sectors.Ghosts D} → (E → Type 0) → End → ℕ → E → Store D g → Type 0
ComesToEnd Ends Stopped reserve now left = Ends now
ComesToEnd Ends Full reserve now left = reserve ≤ free_after (active_header left)

module _ {D : Type 0} {g : sectors.Ghosts D} {S E : Type 0} (N : CallModel S) (doors : DoorModel E S)
    (InEnd Opens Ends : E → Type 0) where
  -- clients that came in by such a door were served over a store, with these terms and this backlog, up to such an end
  pub record ServesAtDoor (reserve : ℕ) (terms : DaemonTerms) (backlog : ℕ) (end : End) (opened left : Store D g)
      : Type 0 where
    pub was : E
    pub opens : Opens was
    pub now : E
    pub ends : ComesToEnd Ends end reserve now left
    pub served : ServesStoreTo N doors InEnd end terms backlog was now opened left

  -- The store's state was written before the first and after the last of them, and it was let go as they left it. It
  -- isn't served until it is full unless that was asked for.
  pub record ServesBetween (LetGo : Store D g → Type 0) (Asked : Type 0) (reserve : ℕ) (terms : DaemonTerms)
      (backlog : ℕ) (opened : Store D g) (before after : Option (List ℕ)) : Type 0 where
    pub left : Store D g
    pub let_go : LetGo left
    pub end : End
    pub asked : end ≡ Full → Asked
    pub served : ServesAtDoor reserve terms backlog end opened left
    pub lines : Appends before after (ready_line (active_header opened) ++ closing_line end (active_header left))

-- It ended with an error over this store, which was let go with the events that it had, and maybe more; a prefix of the
-- lines about its first and its last state was written.
pub record EndsEarly {D : Type 0} {g : sectors.Ghosts D} (LetGo : Store D g → Type 0) (Asked : Type 0)
    (opened : Store D g) (before after : Option (List ℕ)) : Type 0 where
  pub left : Store D g
  pub let_go : LetGo left
  pub kept : StoreKeepsOn opened left
  pub end : End
  pub asked : end ≡ Full → Asked
  pub part : WritesInPart before after (ready_line (active_header opened) ++ closing_line end (active_header left))

-- the sources that the words of a command ask for
abbrev pub sources_asked : Settings → List SourceData
sources_asked settings = sources_in (words_of settings.writers.now)

-- what its core is made with: the kinds of the sources are counted
abbrev pub terms_of : Bor (List (Bor (List ℕ))) → ℕ → Bool → DaemonTerms
terms_of words reserve stops =
    record {
      core = record { reserve = reserve; counted = kinds_bound (sources_in (words_of words.now)) };
      stops = stops;
    }

-- it stops when it is full exactly if that is asked for
abbrev pub terms_asked : Settings → ℕ → DaemonTerms
terms_asked settings reserve = terms_of settings.writers reserve (is_some settings.until_free)

-- the store is to be served until it is full
abbrev pub AsksUntilFull : Settings → Type 0
AsksUntilFull settings = settings.until_free ≢ None

-- the rights at its sockets
abbrev pub rights_asked : Settings → BoundKinds → List Rights
rights_asked settings bound =
    rights_at settings.reader (sources_asked settings) (rights_of_others settings.may_close bound)

-- and their paths
abbrev pub paths_asked : Settings → List (List ℕ)
paths_asked settings = paths_at settings.reader (sources_asked settings) settings.socket.now

-- `At` says at which path a store was opened, `stores` which calls opened stores and let them go, `facts` what calls of
-- the system established of sockets, and `Failed` that a call failed by which sockets are made.
module _ {D : Type 0} (g : sectors.Ghosts D) {O : Type 0} (stores : StoresModel O (Store D g))
    (At : List ℕ → Store D g → Type 0) (facts : SocketFacts) (Failed : Type 0) {S C J W Q F T : Type 0}
    (N : CallModel S)
    (doors : DoorModel (GaugedDoor (SocketDoor C J W UnixListener Q) F T) S) where
  -- So were they over the store that was opened in the file that was named, with the reserve and the backlog that were
  -- asked for and the kinds of the sources counted, and came in by sockets at the paths, with the rights, the permissions
  -- and the time for idle clients that were asked for, until the order to stop came, or, if that was asked for, until
  -- the sectors that were to stay free were all that was. Nothing else was done to the store, and none was opened
  -- besides.
  pub record ServesClientsAsked (settings : Settings) (was now : O) (before after : Option (List ℕ)) : Type 0 where
    pub reserve : ℕ
    pub reserve_is : number_asked settings.reserve DEFAULT_RESERVE ≡ Ok reserve
    pub until : Option ℕ
    pub until_is : free_asked settings.until_free ≡ Ok until
    pub backlog : ℕ
    pub backlog_is : backlog_asked settings.backlog ≡ Ok backlog
    pub idle : ℕ
    pub idle_is : number_asked settings.idle DEFAULT_IDLE ≡ Ok idle
    pub mode : ℕ
    pub owner : settings.socket_mode ≡ None → mode ≡ OWNER_ONLY
    pub mode_is : IfSome settings.socket_mode (λ word. IsMode word.now mode)
    pub opened : Store D g
    pub at : At settings.file.now opened
    pub bound : BoundKinds
    pub bound_are : (kind : ℕ) → is_bound bound kind ≡ has_kind (sources_asked settings) kind
    pub served : ServesBetween N doors IsEnding
        (IsDoorFor (rights_asked settings bound) (modes_at (rights_asked settings bound) mode)
        (ListenAt facts mode (paths_asked settings)) idle) IsTold
        (OpensAndLetsGo stores settings.file.now was now opened) (AsksUntilFull settings) reserve
        (terms_asked settings (free_kept reserve until)) backlog opened before after

  -- a file fault needs a call that failed, or sockets that listen at the paths
  abbrev pub HasFileCause : Settings → CommandError → Type 0
  HasFileCause settings fault = fault ≡ File → Failed
      ⊎ ((mode : ℕ) × (descriptors : List ℤ) × ListenAt facts mode (paths_asked settings) descriptors)

  -- After an error either no store was opened, and nothing was written; or it ended early over the store that was opened
  -- in the file that was named, and nothing else was done to it.
  abbrev pub IsDaemonDone : Settings → O → O → Option (List ℕ) → Option (List ℕ) → Result (Unit {0}) CommandError
      → Type 0
  IsDaemonDone settings was now before after (Ok done) = ServesClientsAsked settings was now before after
  IsDaemonDone settings was now before after (Err fault) =
      (OpensNone stores settings.file.now was now fault × Keeps before after)
      ⊎ ((opened : Store D g) × At settings.file.now opened
      × EndsEarly (OpensAndLetsGo stores settings.file.now was now opened) (AsksUntilFull settings) opened before after
      × HasFileCause settings fault)

  -- A daemon ran with this result, and the output was then flushed. The program's status is that of the result, or that
  -- of an output that couldn't be flushed.
  pub record IsDaemonCarriedOut (settings : Settings) (was now : O) (before after : Option (List ℕ))
      (Flushed Unflushed : Type 0) (status : Status) : Type 0 where
    pub done : Result (Unit {0}) CommandError
    pub written : Option (List ℕ)
    pub served : IsDaemonDone settings was now before written done
    pub flushed : Keeps written after
    pub status_is : ((status ≡ status_of_end done) × Flushed) ⊎ ((status ≡ ends.Device) × Unflushed)
