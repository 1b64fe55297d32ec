-- Serving a store to clients that come and go, by a new core.
use Rattle.std.proofs.Common.{◌≡◌, ◌∙◌, inl, inr, ℕ, zero, suc, Bool, true, false, Option, Some, None, Result, Ok, Err, List, [], ◌∷◌, length, replicate, get_or, refl, sym, ap, subst, arith}
use Rattle.audit_base.specs.declared.limits.TheConstants.{SESSIONS}
use Rattle.audit_serve_passes.specs.Core.{no_bytes}
use Rattle.audit_serve_ready.specs.Backlog.{OwesNothing, AreWithinBacklog}
use Rattle.std.specs.Prelude.{OnOk, IfOk, IfErr}
use Rattle.std.specs.Io.KnownBytes.{Appends, Keeps}
use Rattle.audit_disk_model.specs.declared.sectors.Sectors as sectors
use Rattle.audit_store.specs.Store.{active_header}
use Rattle.audit_store.specs.declared.store.Store.{Store}
use Rattle.audit_store.specs.declared.store_error.StoreError.{StoreError}
use Rattle.audit_server_commit.specs.Committer.{store_of, stops_of}
use Rattle.audit_serve_passes.specs.Streams.{StreamCall, CallModel}
use Rattle.audit_server_commit.specs.Serving.{IsRefusedAs, StoreKeepsOn}
use Rattle.audit_server_commit.proofs.ServedSteps.{kept_none, kept_then, served_durably, durably_keeps}
use Rattle.audit_server.specs.declared.server_core.Core.{Core}
use Rattle.audit_server.specs.Core.{committer_of, data_of, Refuses}
use Rattle.audit_server.specs.CoreModel.{core_model, refuses_after}
use Rattle.audit_serve_ready.specs.Slot.{SlotData, vacant, kept_of}
use Rattle.audit_serve_ready.specs.Door.{DoorModel}
use Rattle.audit_serve_ready.specs.Clients.{ClientChange, a_pass, a_coming, a_refusal, a_going, next_first, AreChanges, StopsServing}
use Rattle.audit_server.proofs.Keeping.{kept_served, kept_stopped}
use Rattle.audit_cli_base.specs.declared.fault.CommandError.{CommandError}
use Rattle.audit_cli_base.specs.Faults.{IsUnwritten, IsNoWordFault}
use Rattle.audit_cli_daemon.specs.State.{ready_line}
use Rattle.audit_serve_ready.specs.Rounds.{IsWriting, AnswersWaiting}
use Rattle.audit_cli_daemon.specs.declared.end.End.{End}
use Rattle.audit_cli_daemon.specs.declared.end.End.TheVariants.{Stopped, Full}
use Rattle.audit_cli_daemon.specs.Running.{DaemonTerms, IsDaemonCore, no_clients, IsServedBy, EndsForSpace, IsFilledBy, IsServedTo, EndsByRefusal, FailsToAnswer, EndsServingBy, ServesStoreTo, StopsDaemon}

same_at : {A : Type 0} (one : A) (count k : ℕ) → get_or (replicate count one) k one ≡ one
same_at one zero k = refl
same_at one (suc count) zero = refl
same_at one (suc count) (suc k) = same_at one count k

module _ {D : Type 0} {g : sectors.Ghosts D} {S : Type 0} (N : CallModel S) (backlog : ℕ) where
  abbrev store_in : Core D g → Store D g
  store_in core = store_of (committer_of core)

  refused_by_store : (error : StoreError) (first last later : Core D g) → store_in last ≡ store_in first → Refuses last later error → Refuses first later error
  refused_by_store error first last later same refused = subst (λ (store : Store D g). IsRefusedAs error store (store_in later)) same refused

  -- what a refusal states holds from before the changes too
  refused_through : (first : ℕ) (changes : List (ClientChange S)) (error : StoreError) (old mid new : Core D g) (before after : List (SlotData S)) → AreChanges core_model N backlog first changes old mid before after → Refuses mid new error → Refuses old new error
  refused_through first [] error old mid new before after are refused = refused_by_store error old mid new (ap store_in are.0) refused
  refused_through first (a_pass steps taken calls ∷ changes) error old mid new before after are refused =
      refuses_after old are.0 new steps taken error are.2.served.did (refused_through (next_first first) changes error are.0 mid new are.1 after are.3 refused)
  refused_through first (a_coming k client ∷ changes) error old mid new before after are refused =
      refused_by_store error old are.0 new (ap store_of are.2.begun.committer) (refused_through first changes error are.0 mid new are.1 after are.3 refused)
  refused_through first (a_refusal k client ∷ changes) error old mid new before after are refused =
      refuses_after old are.0 new [] no_bytes error are.2.did (refused_through first changes error are.0 mid new are.1 after are.3 refused)
  refused_through first (a_going k ∷ changes) error old mid new before after are refused =
      refused_by_store error old are.0 new (ap store_in are.2.same) (refused_through first changes error are.0 mid new are.1 after are.3 refused)

  refused_whole : (error : StoreError) (old new : Core D g) (before after : List (SlotData S)) → StopsServing core_model N backlog (λ first later. Refuses first later error) 0 old new before after → Refuses old new error
  refused_whole error old new before after stops = refused_through 0 stops.changes error old stops.mid new before stops.between stops.are stops.refused

  -- a store that is as it was
  pub kept_same : (old new : Store D g) → new ≡ old → StoreKeepsOn old new
  kept_same old new same = subst (StoreKeepsOn old) (sym same) (kept_none old)

  kept_by_core : (old new : Store D g) (core last : Core D g) → store_in core ≡ old → new ≡ store_in last → StoreKeepsOn (store_in core) (store_in last) → StoreKeepsOn old new
  kept_by_core old new core last made left kept =
      subst (StoreKeepsOn old) (sym left) (subst (λ (store : Store D g). StoreKeepsOn store (store_in last)) made kept)

  kept_when_served : {E : Type 0} (doors : DoorModel E S) (was now : E) (old new : Store D g) (core last : Core D g) (after : List (SlotData S)) → store_in core ≡ old → new ≡ store_in last → IsServedBy N doors backlog was now core last no_clients after → StoreKeepsOn old new
  kept_when_served doors was now old new core last after made left served = kept_by_core old new core last made left (kept_served N backlog 0 served.turn core last no_clients served.between served.served)

  kept_when_stopped : (old new : Store D g) (core last : Core D g) (after : List (SlotData S)) (fault : CommandError) → store_in core ≡ old → new ≡ store_in last → EndsByRefusal N backlog core last no_clients after fault → StoreKeepsOn old new
  kept_when_stopped old new core last after fault made left stopped = kept_by_core old new core last made left (kept_stopped N backlog 0 core last no_clients after stopped.2)

  store_stopped : (terms : DaemonTerms) (old new : Store D g) (written later : Option (List ℕ)) (core last : Core D g) (after : List (SlotData S)) (fault : CommandError) → IsDaemonCore terms old core → new ≡ store_in last
      → Appends written later (ready_line (active_header old)) → EndsByRefusal N backlog core last no_clients after fault → StopsDaemon N terms backlog old new written later fault
  store_stopped terms old new written later core last after fault made left line stopped = inr (inl (
    stopped.0,
    stopped.1,
    record {
      core = core;
      made = made;
      last = last;
      left = left;
      after = after;
      stopped = stopped.2;
      refused = subst (IsRefusedAs stopped.0 old) (sym left) (subst (λ (store : Store D g). IsRefusedAs stopped.0 store (store_in last)) made.new.store_is (refused_whole stopped.0 core last no_clients after stopped.2));
    },
    line,
  ))

  -- ---- a core that was full

  kept_for_space : (old mid : Core D g) (before between : List (SlotData S)) → EndsForSpace N backlog old mid before between → StoreKeepsOn (store_in old) (store_in mid)
  kept_for_space old mid before between ends = kept_stopped N backlog 0 old mid before between ends.stopped

  kept_written : {E : Type 0} (doors : DoorModel E S) (leaves moved : Bool) (taken : ℕ → List ℕ) (calls : ℕ → List StreamCall) (flushed new : Core D g) (before after : List (SlotData S)) → IsWriting core_model N doors 0 leaves moved flushed new taken calls before after → StoreKeepsOn (store_in flushed) (store_in new)
  kept_written doors true moved taken calls flushed new before after writing = durably_keeps (data_of flushed) (data_of new) (served_durably (data_of flushed) (data_of new) writing.pass.did)
  kept_written doors false moved taken calls flushed new before after writing = kept_same (store_in flushed) (store_in new) (ap store_in writing.0)

  kept_answered : {E : Type 0} (doors : DoorModel E S) (begun now : E) (mid new : Core D g) (between after : List (SlotData S)) → AnswersWaiting core_model N doors begun now mid new between after → StoreKeepsOn (store_in mid) (store_in new)
  kept_answered doors begun now mid new between after answered =
      kept_then (store_in mid) (store_in answered.flushed) (store_in new) (durably_keeps (data_of mid) (data_of answered.flushed) (served_durably (data_of mid) (data_of answered.flushed) answered.flush))
      (kept_written doors answered.leaves answered.was_written answered.taken answered.writes answered.flushed new between answered.between answered.writing)

  kept_filled : {E : Type 0} (doors : DoorModel E S) (InEnd : E → Type 0) (now : E) (old new : Core D g) (before after : List (SlotData S)) → IsFilledBy N doors InEnd backlog now old new before after → StoreKeepsOn (store_in old) (store_in new)
  kept_filled doors InEnd now old new before after filled =
      kept_then (store_in old) (store_in filled.mid) (store_in new) (kept_for_space old filled.mid before filled.between filled.ends) (kept_answered doors filled.begun now filled.mid new filled.between after filled.answered)

  kept_failing : (old new : Core D g) (before : List (SlotData S)) (fault : CommandError) → FailsToAnswer N backlog old new before fault → StoreKeepsOn (store_in old) (store_in new)
  kept_failing old new before fault fails =
      kept_then (store_in old) (store_in fails.mid) (store_in new) (kept_for_space old fails.mid before fails.between fails.ends) (durably_keeps (data_of fails.mid) (data_of new) fails.went.2)

  -- a new core owes nothing, and where nobody is nothing is kept
  new_owes : (terms : DaemonTerms) (old : Store D g) (core : Core D g) → IsDaemonCore terms old core → OwesNothing core_model SESSIONS core
  new_owes terms old core made = λ k below.
      core_model.owed_idle core k made.new.waiting ∙ ap length (ap (λ (outputs : List (List ℕ)). get_or outputs k []) made.new.outputs ∙ same_at [] SESSIONS k)

  vacant_within : (terms : DaemonTerms) (old : Store D g) (core : Core D g) → IsDaemonCore terms old core → AreWithinBacklog {S = S} core_model backlog core no_clients
  vacant_within terms old core made = λ k below.
      inl (omega (arith, new_owes terms old core made k below, ap (λ (slot : SlotData S). length (kept_of slot)) (same_at vacant SESSIONS k)))

  -- What a daemon came to, whose core was new and whose places had no clients. It stops when it is full, or doesn't.
  module _ (terms : DaemonTerms) (stops : Bool) (old new : Store D g) (core last : Core D g) (before after : List (SlotData S)) (vacant : before ≡ no_clients) (made : IsDaemonCore terms old core) (stopping : stops_of (committer_of core) ≡ stops) (left : new ≡ store_in last) where
    served_by : {E : Type 0} (doors : DoorModel E S) (was now : E) → IsServedBy N doors backlog was now core last before after → IsServedBy N doors backlog was now core last no_clients after
    served_by doors was now served = subst (λ (slots : List (SlotData S)). IsServedBy N doors backlog was now core last slots after) vacant served

    stopped_by : (fault : CommandError) → EndsByRefusal N backlog core last before after fault → EndsByRefusal N backlog core last no_clients after fault
    stopped_by fault stopped = subst (λ (slots : List (SlotData S)). EndsByRefusal N backlog core last slots after fault) vacant stopped

    pub kept_either : {E : Type 0} (doors : DoorModel E S) (InEnd : E → Type 0) (was now : E) (result : Result End CommandError) → IfOk result (λ end. IsServedTo N doors InEnd end backlog was now core last before after) → IfErr result (EndsServingBy N backlog stops core last before after) → StoreKeepsOn old new
    kept_either doors InEnd was now (Ok Stopped) served stopped = kept_when_served doors was now old new core last after made.new.store_is left (served_by doors was now served)
    kept_either doors InEnd was now (Ok Full) served stopped = kept_by_core old new core last made.new.store_is left (kept_filled doors InEnd now core last before after served)
    kept_either doors InEnd was now (Err fault) served (inl stopped) = kept_when_stopped old new core last after fault made.new.store_is left (stopped_by fault stopped)
    kept_either doors InEnd was now (Err fault) served (inr fails) = kept_by_core old new core last made.new.store_is left (kept_failing core last before fault fails.1)

    pub store_served : {E : Type 0} (doors : DoorModel E S) (InEnd : E → Type 0) (was now : E) (result : Result End CommandError) → IfOk result (λ end. IsServedTo N doors InEnd end backlog was now core last before after) → IfOk result (λ end. end ≡ Full → stops ≡ true) → IfOk result (λ end. ServesStoreTo N doors InEnd end terms backlog was now old new)
    store_served doors InEnd was now (Ok Stopped) served asked = record { core = core; made = made; last = last; left = left; after = after; served = served_by doors was now served; within = (served_by doors was now served).within (new_owes terms old core made) (vacant_within terms old core made) }
    store_served doors InEnd was now (Ok Full) served asked = record {
      core = core;
      made = made;
      stops = stopping ∙ asked refl;
      last = last;
      left = left;
      after = after;
      filled = subst (λ (slots : List (SlotData S)). IsFilledBy N doors InEnd backlog now core last slots after) vacant served;
    }
    store_served doors InEnd was now (Err fault) served asked = tt

    pub daemon_stopped : (written later : Option (List ℕ)) (result : Result End CommandError) → Appends written later (ready_line (active_header old)) → IfErr result (EndsServingBy N backlog stops core last before after)
        → IfErr result (StopsDaemon N terms backlog old new written later)
    daemon_stopped written later (Ok end) line stopped = tt
    daemon_stopped written later (Err fault) line (inl stopped) = store_stopped terms old new written later core last after fault made left line (stopped_by fault stopped)
    daemon_stopped written later (Err fault) line (inr fails) = inr (inr (
      record {
        core = core;
        made = made;
        stops = stopping ∙ fails.0;
        last = last;
        left = left;
        fails = subst (λ (slots : List (SlotData S)). FailsToAnswer N backlog core last slots fault) vacant fails.1;
      },
      line,
    ))

-- one that doesn't stop when it is full isn't
pub end_unasked : (stops : Bool) (result : Result End CommandError) → IfOk result (λ end. end ≡ Full → stops ≡ true) → stops ≡ false → IfOk result (λ end. end ≡ Stopped)
end_unasked stops (Ok Stopped) asked never = refl
end_unasked stops (Ok Full) asked never = let both : true ≡ false = sym (asked refl) ∙ never in absurd (cc both)
end_unasked stops (Err fault) asked never = tt

pub whatever_came : {T E P : Type 0} (result : Result T E) → P → OnOk result P
whatever_came (Ok done) holds = holds
whatever_came (Err fault) holds = tt

pub keeps_same : (known : Option (List ℕ)) → Keeps known known
keeps_same None = tt
keeps_same (Some bytes) = refl

-- why a text wasn't written is no word's fault, and nor is why the clients weren't served to the end
unwritten_no_word : (before after : Option (List ℕ)) (fault : CommandError) → IsUnwritten before after fault → IsNoWordFault fault
unwritten_no_word before after fault (inl is) = subst IsNoWordFault (sym is) tt
unwritten_no_word before after fault (inr both) = subst IsNoWordFault (sym both.0) tt

pub stops_no_word : {D : Type 0} {g : sectors.Ghosts D} {S : Type 0} (N : CallModel S) (terms : DaemonTerms) (backlog : ℕ) (old new : Store D g) (before after : Option (List ℕ)) (result : Result End CommandError) → IfErr result (StopsDaemon N terms backlog old new before after) → IfErr result IsNoWordFault
stops_no_word N terms backlog old new before after (Ok end) stops = tt
stops_no_word N terms backlog old new before after (Err fault) (inl unwritten) = unwritten_no_word before after fault unwritten.1
stops_no_word N terms backlog old new before after (Err fault) (inr (inl stopped)) = subst IsNoWordFault (sym stopped.1) tt
stops_no_word N terms backlog old new before after (Err fault) (inr (inr fails)) = subst IsNoWordFault (sym fails.0.fails.fault_is) tt
