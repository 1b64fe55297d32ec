-- Consecutive steps of a core.
use Rattle.std.proofs.Common.{◌≡◌, ◌∙◌, ℕ, ◌+◌, ◌<◌, ◌≤◌, Bool, true, false, Result, Ok, Err, OnOk, List, [], ◌∷◌, ◌++◌, length, map, take, drop, get_or, slice_set, arith, refl, sym, ap, subst}
use Rattle.std.proofs.lemmas.List.{append-nil, map-append, take_more, drop_more, take-append-drop, length-map, length-take-le}
use Rattle.audit_disk_model.specs.declared.sectors.Sectors as sectors
use Rattle.audit_chain.specs.Event.{EventData}
use Rattle.audit_store_commit.specs.Origin.{Origin}
use Rattle.audit_server_commit.specs.GroupCommit.{group_commit}
use Rattle.audit_server_commit.specs.Arrivals.{appends_among}
use Rattle.audit_store.specs.Store.{is_broken, Holds}
use Rattle.audit_store.specs.declared.store_error.StoreError.{StoreError}
use Rattle.audit_store.specs.declared.store_error.StoreError.TheVariants.{Broken, Device}
use Rattle.audit_server_commit.specs.declared.committer.Committer.{Committer}
use Rattle.audit_server_commit.specs.Committer.{store_of}
use Rattle.audit_server_commit.specs.Flush.{FlushOutcome, IsFlush}
use Rattle.audit_serve_passes.specs.Steps.{StepData, a_piece, an_end, a_flush}
use Rattle.audit_server.specs.declared.feed_fault.FeedFault.{FeedFault}
use Rattle.audit_server.specs.declared.server_core.Core.{Core}
use Rattle.audit_server_commit.specs.Sessions.{SessionData, sessions_after, arrivals_by, state_after, sessions_run, arrivals_run, session_run}
use Rattle.audit_server_commit.specs.Serving.{IsRefusedAs}
use Rattle.audit_server_commit.proofs.ServedSteps.{refused_then}
use Rattle.audit_server.specs.Running.{AddsReplies, IsBrokenByDevice, AdvancesBy}
use Rattle.audit_server.specs.Core.{committer_of, sessions_of, is_core_broken, IsSound, IsCoreUntouched, Refuses, PieceOutcome, EndOutcome, HasDone}
use Rattle.audit_server.specs.declared.step.Step.{Step}
use Rattle.audit_server.specs.declared.drive_fault.DriveFault.{DriveFault}
use Rattle.audit_server.specs.Driving.{step_data, broken_drive, IsStepRefused, IsDriveStopped}
use Rattle.audit_server.proofs.Sound.{flushed_sound, all_sound}
use Rattle.audit_server.proofs.Refusals.{failures_of, flushed_counts, all_count}
use Rattle.audit_server.proofs.Replies.{adds_none, adds_more, flush_adds, all_add, broken_after}
use Rattle.audit_server_commit.proofs.SessionSteps.{appends-append, sessions-append, arrivals-append, run-append}
use Rattle.audit_server.proofs.Runs.{advances_none, advances_more, advances_as}

abbrev refusal_of : FeedFault → Result (Unit {0}) FeedFault
refusal_of fault = Err fault

abbrev pass_of : Unit {0} → Result (Unit {0}) DriveFault
pass_of done = Ok done

abbrev stop_of : DriveFault → Result (Unit {0}) DriveFault
stop_of fault = Err fault

module _ {D : Type 0} {g : sectors.Ghosts D} where
  -- ---- one step

  one_step : (step : StepData) (old new : Core D g) → sessions_of new ≡ sessions_after step (sessions_of old) → IsSound new
      → failures_of (committer_of old) ≤ failures_of (committer_of new) → AddsReplies (committer_of old) (committer_of new)
      → AdvancesBy (appends_among (arrivals_by step (sessions_of old))) (λ origin. state_after origin step (sessions_of old)) (committer_of old) (committer_of new) → HasDone (step ∷ []) old new
  one_step step old new sessions sound failures replies advances = record {
    sessions = sessions;
    sound = sound;
    failures = failures;
    replies = replies;
    advances = advances_as (ap appends_among (sym (append-nil (arrivals_by step (sessions_of old))))) (λ origin state. refl) advances;
  }

  pub piece_done : (k : ℕ) (piece : List ℕ) (old new : Core D g) (result : Result (Unit {0}) FeedFault) → PieceOutcome k piece old new result → IsSound old → OnOk result (HasDone (a_piece k piece ∷ []) old new)
  piece_done k piece old new (Err fault) end sound = tt
  piece_done k piece old new (Ok done) end sound =
      one_step (a_piece k piece) old new (end.only ∙ ap (slice_set (sessions_of old) k) end.fed.session) (all_sound _ (committer_of old) (committer_of new) end.fed.run.entered sound)
      (all_count _ (committer_of old) (committer_of new) end.fed.run.entered) (all_add _ (committer_of old) (committer_of new) end.fed.run.entered) end.fed.run.advances

  pub end_done : (k : ℕ) (old new : Core D g) (result : Result (Unit {0}) StoreError) → EndOutcome k old new result → IsSound old → OnOk result (HasDone (an_end k ∷ []) old new)
  end_done k old new (Err error) end sound = tt
  end_done k old new (Ok done) end sound =
      one_step (an_end k) old new (end.only ∙ ap (slice_set (sessions_of old) k) end.ended.session) (all_sound _ (committer_of old) (committer_of new) end.ended.frame.entered sound)
      (all_count _ (committer_of old) (committer_of new) end.ended.frame.entered) (all_add _ (committer_of old) (committer_of new) end.ended.frame.entered) end.ended.frame.advances

  -- a flush that succeeded
  flush_advances : (old new : Committer D g) → ((origin : Origin) (events : List EventData) → Holds (store_of old) origin events → (after : List EventData) × IsFlush origin old new events after (Ok tt)) → AdvancesBy [] group_commit old new
  flush_advances old new flush = λ origin events holds.
      let one = flush origin events holds in
      (one.0, record { durable = one.1.durable; unbroken = one.1.unbroken; done = one.1.done })

  pub flush_done : (old new : Core D g) (result : Result (Unit {0}) StoreError) → sessions_of new ≡ sessions_of old → FlushOutcome (committer_of old) (committer_of new) result
      → ((origin : Origin) (events : List EventData) → Holds (store_of (committer_of old)) origin events → (after : List EventData) × IsFlush origin (committer_of old) (committer_of new) events after result) → IsSound old → OnOk result (HasDone (a_flush ∷ []) old new)
  flush_done old new (Err error) sessions end flush sound = tt
  flush_done old new (Ok done) sessions end flush sound =
      one_step a_flush old new sessions (flushed_sound (committer_of old) (committer_of new) [] end sound) (flushed_counts (committer_of old) (committer_of new) [] end) (flush_adds (committer_of old) (committer_of new) [] end) (flush_advances (committer_of old) (committer_of new) flush)

  -- ---- consecutive steps

  pub done_none : (core : Core D g) → IsSound core → HasDone [] core core
  done_none core sound = record { sessions = refl; sound = sound; failures = omega arith; replies = adds_none (committer_of core); advances = advances_none (committer_of core) }

  pub done_more : {steps later : List StepData} {old mid new : Core D g} → HasDone steps old mid → HasDone later mid new → HasDone (steps ++ later) old new
  done_more {steps = steps} {later = later} {old = old} {mid = mid} {new = new} first next =
      let sessions : List SessionData = sessions_of old in
      record {
        sessions = next.sessions ∙ ap (sessions_run later) first.sessions ∙ sym (sessions-append steps later sessions);
        sound = next.sound;
        failures = omega (arith, first.failures, next.failures);
        replies = adds_more (committer_of old) (committer_of mid) (committer_of new) first.replies next.replies;
        advances =
            advances_as
            (sym (appends-append (arrivals_run steps sessions) (arrivals_run later (sessions_of mid)))
            ∙ ap (λ (middle : List SessionData). appends_among (arrivals_run steps sessions ++ arrivals_run later middle)) first.sessions
            ∙ ap appends_among (sym (arrivals-append steps later sessions)))
            (λ origin state.
            ap (λ (middle : List SessionData). session_run origin later middle (session_run origin steps sessions state)) first.sessions
            ∙ sym (run-append origin steps later sessions state))
            (advances_more first.advances next.advances);
      }

  -- ---- a list of steps

  -- all steps before a place were done, and none by a broken core
  pub record DoneTo (steps : List Step) (number : ℕ) (old now : Core D g) : Type 0 where
    pub none : is_core_broken old → (number ≡ 0) × IsCoreUntouched old now
    pub done : IsSound old → HasDone (map step_data (take number steps)) old now

  pub drive_none : (steps : List Step) (core : Core D g) → DoneTo steps 0 core core
  drive_none steps core = record { none = λ broken. (refl, record { committer = refl; sessions = refl }); done = λ sound. done_none core sound }

  pub still_broken : {steps : List Step} {number : ℕ} {old now : Core D g} → DoneTo steps number old now → is_core_broken old → is_core_broken now
  still_broken to broken = ap (λ (c : Committer D g). is_broken (store_of c)) (to.none broken).1.committer ∙ broken

  pub drive_more : {steps : List Step} {number : ℕ} {old now new : Core D g} (none : Step) → DoneTo steps number old now → number < length steps → (is_core_broken now → ⊥) → (IsSound now → HasDone (step_data (get_or steps number none) ∷ []) now new)
      → DoneTo steps (number + 1) old new
  drive_more {steps = steps} {number = number} {old = old} {new = new} none to within not_broken next = record {
    none = λ broken. absurd (not_broken (still_broken to broken));
    done = λ sound.
        let first = to.done sound in
        subst (λ (all : List StepData). HasDone all old new)
        (sym (ap (map step_data) (take_more steps number none within) ∙ map-append step_data (take number steps) (get_or steps number none ∷ [])))
        (done_more first (next first.sound));
  }

  pub drive_stopped : {steps : List Step} {number : ℕ} {old now new : Core D g} (none : Step) (fault : FeedFault) → DoneTo steps number old now → number < length steps → (IsSound now → IsStepRefused (step_data (get_or steps number none)) fault now new) → IsSound old
      → IsDriveStopped steps (record { step = number; taken = fault.taken; error = fault.error }) old new
  drive_stopped {steps = steps} {number = number} {now = now} none fault to within refused sound =
      let first = to.done sound in
      record {
        before = map step_data (take number steps);
        step = step_data (get_or steps number none);
        later = map step_data (drop (number + 1) steps);
        are =
            ap (map step_data) (sym (take-append-drop number steps))
            ∙ map-append step_data (take number steps) (drop number steps)
            ∙ ap (λ (rest : List Step). map step_data (take number steps) ++ map step_data rest) (drop_more steps number none within);
        count = length-map (take number steps) step_data ∙ length-take-le number steps (omega (arith, within));
        mid = now;
        done = first;
        refused = refused first.sound;
      }

  -- a device fault in the refused step
  pub drive_broken : {steps : List Step} {number : ℕ} {old now new : Core D g} (fault : FeedFault) → DoneTo steps number old now
      → (is_core_broken now → (refusal_of fault ≡ refusal_of (record { taken = 0; error = Broken })) × IsCoreUntouched now new) → (fault.error ≡ Device → IsBrokenByDevice (committer_of now) (committer_of new)) → fault.error ≡ Device
      → IsBrokenByDevice (committer_of old) (committer_of new)
  drive_broken {old = old} {now = now} {new = new} fault to refused broken is = decide (is_broken (store_of (committer_of old))) refl
    where
      decide : (b : Bool) → is_broken (store_of (committer_of old)) ≡ b → IsBrokenByDevice (committer_of old) (committer_of new)
      decide true here =
          let of : fault ≡ record { taken = 0; error = Broken } = cc ((refused (still_broken to here)).0) in
          let other : Broken ≡ Device = sym (ap (λ (f : FeedFault). f.error) of) ∙ is in
          absurd (cc other)
      decide false sound = broken_after (committer_of old) (committer_of now) (committer_of new) (to.done sound).replies (broken is)

  -- what the refusal of that step states about the store
  pub drive_cause : {steps : List Step} {number : ℕ} {old now : Core D g} (new : Core D g) (error : StoreError) → DoneTo steps number old now → Refuses now new error → Refuses old new error
  drive_cause {old = old} {now = now} new error to refused = decide (is_broken (store_of (committer_of old))) refl
    where
      decide : (b : Bool) → is_broken (store_of (committer_of old)) ≡ b → Refuses old new error
      decide true broken = subst (λ (c : Committer D g). IsRefusedAs error (store_of c) (store_of (committer_of new))) (to.none broken).1.committer refused
      decide false sound = let done = to.done sound in refused_then error (store_of (committer_of old)) (store_of (committer_of now)) (store_of (committer_of new)) sound done.sound done.failures refused

  pub drive_refused : {steps : List Step} {number : ℕ} {old now new : Core D g} (fault : FeedFault) → DoneTo steps number old now → (is_core_broken now → (refusal_of fault ≡ refusal_of (record { taken = 0; error = Broken })) × IsCoreUntouched now new) → is_core_broken old
      → (stop_of (record { step = number; taken = fault.taken; error = fault.error }) ≡ stop_of (record { step = 0; taken = 0; error = Broken })) × IsCoreUntouched old new
  drive_refused {number = number} fault to refused broken =
      let now_refused = refused (still_broken to broken) in
      let is : fault ≡ record { taken = 0; error = Broken } = cc (now_refused.0) in
      let before = to.none broken in (
        ap (λ (f : FeedFault). stop_of (record { step = number; taken = f.taken; error = f.error })) is
            ∙ ap (λ (n : ℕ). stop_of (record { step = n; taken = 0; error = Broken })) before.0,
        record { committer = now_refused.1.committer ∙ before.1.committer; sessions = now_refused.1.sessions ∙ before.1.sessions },
      )

  -- of no steps none is refused
  pub drive_all : {steps : List Step} {number : ℕ} {old now : Core D g} → DoneTo steps number old now → length steps ≤ number → is_core_broken old → (pass_of tt ≡ broken_drive steps) × IsCoreUntouched old now
  drive_all {steps = []} to past broken = (refl, (to.none broken).1)
  drive_all {steps = step ∷ later} to past broken = absurd (omega (arith, past, (to.none broken).0))

  -- a broken core refuses the first of some steps
  pub drive_first : {steps : List Step} {number : ℕ} {old now new : Core D g} (fault : FeedFault) → DoneTo steps number old now → number < length steps → (is_core_broken now → (refusal_of fault ≡ refusal_of (record { taken = 0; error = Broken })) × IsCoreUntouched now new) → is_core_broken old
      → (stop_of (record { step = number; taken = fault.taken; error = fault.error }) ≡ broken_drive steps) × IsCoreUntouched old new
  drive_first {steps = []} fault to within refused broken = absurd (omega (arith, within))
  drive_first {steps = step ∷ later} fault to within refused broken = drive_refused fault to refused broken
