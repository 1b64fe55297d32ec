-- What running a daemon comes to.
use denote.Ref.{Bor}
use Rattle.std.specs.Prelude.{◌≢◌, ◌≤◌, OnOk, OnErr, IsOk, IfOk, IsErr, IfSome, Bool, true, false, is_some}
use Rattle.std.specs.Io.KnownBytes.{Appends}
use Rattle.std.proofs.Common.{◌≡◌, ◌⊎◌, ◌∙◌, inl, inr, ℕ, ℤ, Option, Some, None, Result, Ok, Err, List, [], ◌∷◌, refl, sym, ap, subst}
use Rattle.std.proofs.KnownBytes.{Appends-trans}
use Rattle.audit_disk_model.specs.declared.sectors.Sectors as sectors
use Rattle.audit_store.specs.Store.{active_header}
use Rattle.audit_store.specs.declared.store.Store.{Store}
use Rattle.audit_serve_passes.specs.Streams.{CallModel}
use Rattle.audit_serve_ready.specs.Door.{DoorModel}
use Rattle.audit_text.specs.NumberedLine.{numbered_line}
use Rattle.audit_cli_base.specs.Arguments.{number_asked}
use Rattle.audit_cli_base.specs.Mode.{IsMode}
use Rattle.audit_cli_calls.specs.StoreCalls.{StoresModel, LetsGo, OpensAndLetsGo, an_opening, a_letting_go}
use Rattle.audit_disk.specs.declared.files.TheConstants.{OWNER_ONLY}
use Rattle.audit_cli_base.specs.declared.fault.CommandError.{CommandError}
use Rattle.audit_cli_base.specs.declared.fault.CommandError.TheVariants.{File}
use Rattle.audit_cli_daemon.specs.declared.arguments.TheConstants.{DEFAULT_IDLE, DEFAULT_RESERVE}
use Rattle.audit_cli_daemon.specs.declared.request.Request.TheVariants.{Run}
use Rattle.audit_cli_daemon.specs.declared.request.Settings.{Settings}
use Rattle.mio.specs.declared.net.uds.listener.UnixListener.{UnixListener}
use Rattle.audit_serve_sockets.specs.Bound.{SocketFacts}
use Rattle.audit_cli_daemon.specs.Carried.{ComesToEnd, ServesAtDoor, ServesBetween, EndsEarly, IsDaemonDone, AsksUntilFull, sources_asked, terms_of, terms_asked, rights_asked, paths_asked}
use Rattle.audit_cli_daemon.specs.Sources.{words_of, sources_in, has_kind}
use Rattle.audit_cli_daemon.specs.Sockets.{rights_served, paths_served, paths_at, ListenAt}
use Rattle.audit_cli_daemon.specs.declared.sockets.Sockets.{Sockets}
use Rattle.audit_serve_passes.specs.declared.rights.Rights.{Rights}
use Rattle.audit_serve_passes.specs.declared.bound_kinds.BoundKinds.{BoundKinds}
use Rattle.audit_serve_passes.specs.Rights.{is_bound}
use Rattle.audit_serve_door.specs.declared.socket_door.SocketDoor.{SocketDoor}
use Rattle.audit_cli_daemon.specs.declared.gauge.GaugedDoor.{GaugedDoor}
use Rattle.audit_cli_daemon.specs.Gauged.{IsTold, IsEnding}
use Rattle.audit_cli_daemon.specs.Rights.{rights_at, rights_of_others, modes_at, IsDoorFor}
use Rattle.audit_server_commit.specs.Committing.{free_after}
use Rattle.audit_cli_daemon.specs.declared.end.End.{End}
use Rattle.audit_cli_daemon.specs.declared.end.End.TheVariants.{Stopped, Full}
use Rattle.audit_cli_daemon.specs.Running.{DaemonTerms, ServesStoreTo}
use Rattle.audit_cli_daemon.specs.State.{ready_line, word_of, end_in, closing_line}
use Rattle.audit_cli_daemon.proofs.Ending.{kept_bytes}
use Rattle.audit_cli_daemon.specs.Words.{backlog_asked, free_asked, free_kept}

abbrev Ending : Type 0
Ending = Result (Unit {0}) CommandError

pub same_settings : (one other : Settings) → Run one ≡ Run other → one ≡ other
same_settings one other same = cc same

module _ {D : Type 0} {g : sectors.Ghosts D} {S E : Type 0} (N : CallModel S) (doors : DoorModel E S) (InEnd Opens Ends : E → Type 0) (LetGo : Store D g → Type 0) (Asked : Type 0) (reserve : ℕ) (terms : DaemonTerms) (backlog : ℕ) where
  pub serves_between : (opened left : Store D g) (before mid after : Option (List ℕ)) (served : Result End CommandError) (result : Ending) (count : ℕ) (root : List ℕ) → OnOk served (Appends before mid (ready_line (active_header opened)))
      → IfOk served (λ end. ServesAtDoor N doors InEnd Opens Ends reserve terms backlog end opened left) → IfOk served (λ end. end ≡ Full → Asked)
      → OnOk result (IsOk served) → OnOk result (Appends mid after (numbered_line (word_of (end_in served)) count root)) → count ≡ (active_header left).count → root ≡ (active_header left).root
      → LetGo left → OnOk result (ServesBetween N doors InEnd Opens Ends LetGo Asked reserve terms backlog opened before after)
  serves_between opened left before mid after served (Err fault) count root ready store asked ok stopped count_is root_is gone = tt
  serves_between opened left before mid after (Err fault) (Ok done) count root ready store asked ok stopped count_is root_is gone = absurd (cc ok)
  serves_between opened left before mid after (Ok end) (Ok done) count root ready store asked ok stopped count_is root_is gone = record {
    left = left;
    let_go = gone;
    end = end;
    asked = asked;
    served = store;
    lines = Appends-trans before mid after (ready_line (active_header opened)) (closing_line end (active_header left)) ready
        (subst (Appends mid after) (ap (λ n. numbered_line (word_of end) n root) count_is ∙ ap (numbered_line (word_of end) (active_header left).count) root_is) stopped);
  }

-- what a result of serving and of closing the door comes to
abbrev IsEndOfBoth : Result End CommandError → Ending → Bool → Result End CommandError → Type 0
IsEndOfBoth first other spared result = IfOk result (λ end. (first ≡ Ok end) × IsOk other × (end ≡ Full → spared ≡ true))

module _ {D : Type 0} {g : sectors.Ghosts D} {S E : Type 0} (N : CallModel S) (doors : DoorModel E S) (InEnd Opens Ends : E → Type 0) (reserve : ℕ) (terms : DaemonTerms) (backlog : ℕ) (was now : E) (opened left : Store D g) (first : Result End CommandError) (spared : Bool)
    (opens : Opens was) (space : spared ≡ true → reserve ≤ free_after (active_header left)) (served : IfOk first (λ end. ServesStoreTo N doors InEnd end terms backlog was now opened left)) where
  ends_as : (end : End) → (end_in first ≡ Stopped → Ends now) → first ≡ Ok end → (end ≡ Full → spared ≡ true) → ComesToEnd Ends end reserve now left
  ends_as Stopped told is spares = told (ap end_in is)
  ends_as Full told is spares = space (spares refl)

  pub serves_at_door : (other : Ending) (result : Result End CommandError) → OnOk other (end_in first ≡ Stopped → Ends now) → IsEndOfBoth first other spared result → IfOk result (λ end. ServesAtDoor N doors InEnd Opens Ends reserve terms backlog end opened left)
  serves_at_door other (Err fault) told is = tt
  serves_at_door (Err cause) (Ok end) told is = absurd (cc is.1)
  serves_at_door (Ok done) (Ok end) told is = record {
    was = was;
    opens = opens;
    now = now;
    ends = ends_as end told is.0 is.2;
    served = subst (λ (one : Result End CommandError). IfOk one (λ end. ServesStoreTo N doors InEnd end terms backlog was now opened left)) is.0 served;
  }

-- the end is no other than was asked for
pub end_asked : (stops : Bool) (first : Result End CommandError) (other : Ending) (spared : Bool) (result : Result End CommandError) → (stops ≡ false → IfOk first (λ end. end ≡ Stopped)) → IsEndOfBoth first other spared result → IfOk result (λ end. end ≡ Full → stops ≡ true)
end_asked stops first other spared (Err fault) unasked is = tt
end_asked true first other spared (Ok end) unasked is = λ full. refl
end_asked false first other spared (Ok end) unasked is = λ full.
    let stopped : end ≡ Stopped = subst (λ (one : Result End CommandError). IfOk one (λ end. end ≡ Stopped)) is.0 (unasked refl) in
    let both : Full ≡ Stopped = sym full ∙ stopped in
    absurd (cc both)

-- served at a door whose sockets are these, it was served at one whose sockets are as was asked
pub served_there : {D : Type 0} {g : sectors.Ghosts D} {S C J W Q F T : Type 0} (N : CallModel S) (doors : DoorModel (GaugedDoor (SocketDoor C J W UnixListener Q) F T) S) (InEnd Ends : GaugedDoor (SocketDoor C J W UnixListener Q) F T → Type 0) (one other : List Rights) (bits modes : List ℕ) (descriptors : List ℤ) (Listen : List ℤ → Type 0) (idle : ℕ) (reserve : ℕ) (terms : DaemonTerms) (backlog : ℕ) (opened left : Store D g) (done : Result End CommandError)
    → one ≡ other → bits ≡ modes → Listen descriptors → IfOk done (λ end. ServesAtDoor N doors InEnd (IsDoorFor one bits (λ found. found ≡ descriptors) idle) Ends reserve terms backlog end opened left) → IfOk done (λ end. ServesAtDoor N doors InEnd (IsDoorFor other modes Listen idle) Ends reserve terms backlog end opened left)
served_there N doors InEnd Ends one other bits modes descriptors Listen idle reserve terms backlog opened left (Err fault) same alike there served = tt
served_there N doors InEnd Ends one other bits modes descriptors Listen idle reserve terms backlog opened left (Ok end) same alike there served = record {
  was = served.was;
  opens = record {
    rights_are = served.opens.rights_are ∙ same;
    modes_are = served.opens.modes_are ∙ alike;
    listen = subst Listen (sym served.opens.listen) there;
    idle = served.opens.idle;
    nobody = served.opens.nobody;
    in_place = served.opens.in_place;
    works = served.opens.works;
    vacant = served.opens.vacant;
  };
  now = served.now;
  ends = served.ends;
  served = served.served;
}

-- the paths of the sockets are those that were asked for
paths_same : (settings : Settings) (sockets : Sockets) → sockets.clients ≡ settings.socket → sockets.readers ≡ settings.reader → sockets.sources ≡ settings.writers → paths_served sockets ≡ paths_asked settings
paths_same settings sockets clients readers sources =
    ap (λ there. paths_at there (sources_in (words_of sockets.sources.now)) sockets.clients.now) readers
    ∙ ap (λ words. paths_at settings.reader (sources_in (words_of words.now)) sockets.clients.now) sources
    ∙ ap (λ word. paths_at settings.reader (sources_in (words_of settings.writers.now)) word.now) clients

-- the rights at the sockets are those that were asked for
rights_same : (settings : Settings) (sockets : Sockets) (others : Rights) (bound : BoundKinds) → sockets.readers ≡ settings.reader → sockets.sources ≡ settings.writers → others ≡ rights_of_others settings.may_close bound → rights_served sockets others ≡ rights_asked settings bound
rights_same settings sockets others bound readers sources others_are =
    ap (λ there. rights_at there (sources_in (words_of sockets.sources.now)) others) readers
    ∙ ap (λ words. rights_at settings.reader (sources_in (words_of words.now)) others) sources
    ∙ ap (λ (allowed : Rights). rights_at settings.reader (sources_in (words_of settings.writers.now)) allowed) others_are

-- where it stops, it was asked to
was_asked : {A : Type 0} (word : Option A) (stops : Bool) → stops ≡ is_some word → stops ≡ true → word ≢ None
was_asked None stops is true_is = λ none. let both : true ≡ false = sym true_is ∙ is in absurd (cc both)
was_asked (Some x) stops is true_is = λ none. absurd (cc none)

module _ {D : Type 0} (g : sectors.Ghosts D) {O : Type 0} (stores : StoresModel O (Store D g)) (At : List ℕ → Store D g → Type 0) (facts : SocketFacts) (Failed : Type 0) {S C J W Q F T : Type 0} (N : CallModel S) (doors : DoorModel (GaugedDoor (SocketDoor C J W UnixListener Q) F T) S) where
  -- opened before it was let go
  opens_and_lets_go : (path : List ℕ) (was mid now : O) (opened left : Store D g) → stores.DidCalls was mid (an_opening path (Ok opened) ∷ []) → LetsGo stores mid now left → OpensAndLetsGo stores path was now opened left
  opens_and_lets_go path was mid now opened left first second = stores.more_called was mid now (an_opening path (Ok opened) ∷ []) (a_letting_go left ∷ []) first second

  pub performed : (was mid now : O) (settings : Settings) (sockets : Sockets) (others : Rights) (bound : BoundKinds) (words : Bor (List (Bor (List ℕ)))) (idle reserve backlog mode : ℕ) (until : Option ℕ) (kept : ℕ) (stops : Bool) (opened : Store D g) (before after : Option (List ℕ)) (done : Ending) → sockets.clients ≡ settings.socket → sockets.readers ≡ settings.reader → sockets.sources ≡ settings.writers → words ≡ settings.writers
      → ((kind : ℕ) → is_bound bound kind ≡ has_kind (sources_asked settings) kind) → others ≡ rights_of_others settings.may_close bound
      → number_asked settings.idle DEFAULT_IDLE ≡ Ok idle → number_asked settings.reserve DEFAULT_RESERVE ≡ Ok reserve → backlog_asked settings.backlog ≡ Ok backlog → free_asked settings.until_free ≡ Ok until → kept ≡ free_kept reserve until → stops ≡ is_some settings.until_free → (settings.socket_mode ≡ None → mode ≡ OWNER_ONLY) → IfSome settings.socket_mode (λ word. IsMode word.now mode) → At settings.file.now opened
      → stores.DidCalls was mid (an_opening settings.file.now (Ok opened) ∷ []) → OnErr done (EndsEarly (LetsGo stores mid now) (stops ≡ true) opened before after) → OnOk done (ServesBetween N doors IsEnding (IsDoorFor (rights_served sockets others) (modes_at (rights_served sockets others) mode) (ListenAt facts mode (paths_served sockets)) idle) IsTold (LetsGo stores mid now) (stops ≡ true) reserve (terms_of words kept stops) backlog opened before after) → (done ≡ Err File → Failed ⊎ ((descriptors : List ℤ) × ListenAt facts mode (paths_served sockets) descriptors)) → IsDaemonDone g stores At facts Failed N doors settings was now before after done
  performed was mid now settings sockets others bound words idle reserve backlog mode until kept stops opened before after (Err fault) clients_are readers_are sources_are words_are bound_are others_are idle_is reserve_is backlog_is until_is kept_is asks owner mode_is at called ended served failed = inr (opened, at, record { left = ended.left; let_go = opens_and_lets_go settings.file.now was mid now opened ended.left called ended.let_go; kept = ended.kept; end = ended.end; asked = λ is. was_asked settings.until_free stops asks (ended.asked is); part = ended.part }, λ file. listening_at (failed (ap Err file)))
    where
      listening_at : Failed ⊎ ((descriptors : List ℤ) × ListenAt facts mode (paths_served sockets) descriptors) → Failed ⊎ ((bits : ℕ) × (descriptors : List ℤ) × ListenAt facts bits (paths_asked settings) descriptors)
      listening_at (inl call) = inl call
      listening_at (inr (descriptors, there)) = inr (mode, descriptors, subst (λ (paths : List (List ℕ)). ListenAt facts mode paths descriptors) (paths_same settings sockets clients_are readers_are sources_are) there)
  performed was mid now settings sockets others bound words idle reserve backlog mode until kept stops opened before after (Ok done) clients_are readers_are sources_are words_are bound_are others_are idle_is reserve_is backlog_is until_is kept_is asks owner mode_is at called ended served failed = record {
    reserve = reserve;
    reserve_is = reserve_is;
    until = until;
    until_is = until_is;
    backlog = backlog;
    backlog_is = backlog_is;
    idle = idle;
    idle_is = idle_is;
    mode = mode;
    owner = owner;
    mode_is = mode_is;
    opened = opened;
    at = at;
    bound = bound;
    bound_are = bound_are;
    served =
        subst (λ (paths : List (List ℕ)). ServesBetween N doors IsEnding (IsDoorFor (rights_asked settings bound) (modes_at (rights_asked settings bound) mode) (ListenAt facts mode paths) idle) IsTold (OpensAndLetsGo stores settings.file.now was now opened) (AsksUntilFull settings) reserve (terms_asked settings (free_kept reserve until)) backlog opened before after) (paths_same settings sockets clients_are readers_are sources_are)
        (subst (λ (allowed : List Rights). ServesBetween N doors IsEnding (IsDoorFor allowed (modes_at allowed mode) (ListenAt facts mode (paths_served sockets)) idle) IsTold (OpensAndLetsGo stores settings.file.now was now opened) (AsksUntilFull settings) reserve (terms_asked settings (free_kept reserve until)) backlog opened before after) (rights_same settings sockets others bound readers_are sources_are others_are)
        (subst (λ (terms : DaemonTerms). ServesBetween N doors IsEnding (IsDoorFor (rights_served sockets others) (modes_at (rights_served sockets others) mode) (ListenAt facts mode (paths_served sockets)) idle) IsTold (OpensAndLetsGo stores settings.file.now was now opened) (AsksUntilFull settings) reserve terms backlog opened before after) (ap (λ there. terms_of there kept stops) words_are ∙ ap (λ n. terms_of settings.writers n stops) kept_is ∙ ap (terms_of settings.writers (free_kept reserve until)) asks)
        (record { left = served.left; let_go = opens_and_lets_go settings.file.now was mid now opened served.left called served.let_go; end = served.end; asked = λ is. was_asked settings.until_free stops asks (served.asked is); served = served.served; lines = served.lines })));
  }

  -- an error before a store was opened
  pub unopened : (was : O) (settings : Settings) (before : Option (List ℕ)) (done : Ending) → IsErr done → IsDaemonDone g stores At facts Failed N doors settings was was before before done
  unopened was settings before (Ok done) error = absurd (cc error)
  unopened was settings before (Err fault) error = inl (inl (stores.nothing_called was), kept_bytes before)

  -- the opening failed with this error
  pub not_opened : (was now : O) (settings : Settings) (before : Option (List ℕ)) (fault : CommandError) (done : Ending) → done ≡ Err fault → stores.DidCalls was now (an_opening settings.file.now (Err fault) ∷ []) → IsDaemonDone g stores At facts Failed N doors settings was now before before done
  not_opened was now settings before fault done is called = subst (IsDaemonDone g stores At facts Failed N doors settings was now before before) (sym is) (inl (inr called, kept_bytes before))
