-- Acknowledgements are durable, whatever the outcome of a call.
use Rattle.std.proofs.Common.{◌≡◌, ◌≢◌, ◌⊎◌, ◌∙◌, inl, inr, ℕ, ◌<◌, ◌≤◌, Bool, true, false, if◌then◌else◌, Result, Ok, Err, List, [], ◌∷◌, ◌++◌, length, map, take, drop, get_or, slice_set, refl, sym, ap, subst}
use Rattle.std.proofs.lemmas.Bool.{false≢true}
use Rattle.std.proofs.lemmas.List.{append-nil, set-get_or, take-map, drop-map, take_all, take-append-drop, drop_more}
use Rattle.audit_disk_model.specs.declared.sectors.Sectors as sectors
use Rattle.audit_chain.specs.Event.{EventData}
use Rattle.audit_store_commit.specs.Origin.{Origin}
use Rattle.audit_server_commit.specs.Waiting.{Append}
use Rattle.audit_server_commit.specs.GroupCommit.{ServerState}
use Rattle.audit_server_commit.specs.Arrivals.{appends_among}
use Rattle.audit_store.specs.Store.{is_broken, Holds}
use Rattle.audit_store.specs.declared.store_error.StoreError.{StoreError}
use Rattle.audit_store.specs.declared.store_error.StoreError.TheVariants.{NotAStore, DamagedHeader, HeadersDisagree, DamagedLog, BatchTooLarge, Full, NoSuchVersion, Worn, Broken, Device, Memory, Closed, BadSize, ReservedKind}
use Rattle.audit_server_commit.specs.declared.committer.Committer.{Committer}
use Rattle.audit_server_commit.specs.Flush.{FlushOutcome, IsFlush}
use Rattle.audit_server_commit.specs.Committer.{store_of, outputs_of, state_of}
use Rattle.audit_server_commit.specs.Durable.{IsDurable}
use Rattle.audit_serve_passes.specs.Steps.{StepData, a_piece, an_end, a_flush, IsPartOf}
use Rattle.audit_serve_passes.specs.Core.{GoesBy, no_bytes}
use Rattle.audit_server_commit.specs.Sessions.{SessionData, no_session, sessions_run, arrivals_by_piece, arrivals_run}
use Rattle.audit_server_commit.specs.Serving.{CoreData, IsDurablyServed}
use Rattle.audit_server_commit.proofs.ServedSteps.{put_back_none, durably_none, durably_more}
use Rattle.audit_server_commit.proofs.Taking.{nothing_taken}
use Rattle.audit_server.specs.Running.{AddsReplies}
use Rattle.audit_server.proofs.Replies.{flush_adds_any, arrival_ends, piece_ends}
use Rattle.audit_server.specs.declared.step.Step.{Step}
use Rattle.audit_server.specs.declared.feed_fault.FeedFault.{FeedFault}
use Rattle.audit_server.specs.declared.server_core.Core.{Core}
use Rattle.audit_server.specs.Core.{committer_of, sessions_of, data_of, session_of, IsSound, IsCoreUntouched, PieceOutcome, EndOutcome, HasDone}
use Rattle.audit_server.specs.Driving.{step_data, is_of_broken, part_done, step_done, whole_done, next_done, steps_done}
use Rattle.audit_server.specs.CoreModel.{core_model}
use Rattle.audit_server.proofs.Steps.{DoneTo, piece_done, end_done}

-- the refusal of a core that wasn't broken
other_refusal : (error : StoreError) → error ≢ Broken → is_of_broken error ≡ false
other_refusal NotAStore other = refl
other_refusal DamagedHeader other = refl
other_refusal HeadersDisagree other = refl
other_refusal (DamagedLog index) other = refl
other_refusal BatchTooLarge other = refl
other_refusal Full other = refl
other_refusal NoSuchVersion other = refl
other_refusal Worn other = refl
other_refusal Broken other = absurd (other refl)
other_refusal Device other = refl
other_refusal Memory other = refl
other_refusal Closed other = refl
other_refusal BadSize other = refl
other_refusal ReservedKind other = refl

-- what was done of a refused step is a part of it
some_part : (step : StepData) (fault : FeedFault) → IsPartOf step (part_done fault step)
some_part (a_piece k piece) fault = decide (is_of_broken fault.error)
  where
    decide : (b : Bool) → IsPartOf (a_piece k piece) (if b then [] else a_piece k (take fault.taken piece) ∷ [])
    decide true = inl refl
    decide false = inr (take fault.taken piece, drop fault.taken piece, sym (take-append-drop fault.taken piece), refl)
some_part (an_end k) fault = inl refl
some_part a_flush fault = inl refl

whole_or_none : (step : StepData) (result : Result (Unit {0}) StoreError) → (whole_done step result ≡ []) ⊎ (whole_done step result ≡ step ∷ [])
whole_or_none step (Ok done) = inr refl
whole_or_none step (Err error) = inl refl

module _ {D : Type 0} {g : sectors.Ghosts D} where
  -- nothing was done
  pub untouched_durably : {old new : Core D g} → IsCoreUntouched old new → IsDurablyServed (data_of old) (data_of new) [] no_bytes
  untouched_durably {old = old} {new = new} same =
      let made : Committer D g → List SessionData → CoreData D g = λ committer sessions. record { committer = committer; sessions = sessions } in
      let are : data_of new ≡ data_of old =
      ap (λ (committer : Committer D g). made committer (sessions_of new)) same.committer ∙ ap (made (committer_of old)) same.sessions in
      subst (λ (core : CoreData D g). IsDurablyServed (data_of old) core [] no_bytes) (sym are) (durably_none (data_of old))

  -- some steps were done, by a core that wasn't broken
  durably_by : {steps : List StepData} (old new : CoreData D g) → is_broken (store_of old.committer) ≡ false → new.sessions ≡ sessions_run steps old.sessions
      → ((origin : Origin) (events : List EventData) → Holds (store_of old.committer) origin events → (after : List EventData)
      × IsDurable origin (store_of old.committer) (store_of new.committer) (state_of old.committer events) (state_of new.committer after) (appends_among (arrivals_run steps old.sessions))) → AddsReplies old.committer new.committer → IsDurablyServed old new steps no_bytes
  durably_by {steps = steps} old new sound sessions durable added = record {
    sessions = sessions;
    broken = λ broken. absurd (false≢true (sym sound ∙ broken));
    spares = λ stops. (
      (added.3 stops).0,
      record { sent = added.0; none = (added.3 stops).1; outputs = nothing_taken no_bytes (outputs_of new.committer) (λ k. refl) ∙ added.2 },
    );
    durable = λ origin events holds.
        let one = durable origin events holds in (
          one.0,
          subst (λ (state : ServerState). IsDurable origin (store_of old.committer) (store_of new.committer) (state_of old.committer events) state (appends_among (arrivals_run steps old.sessions)))
              (sym (put_back_none (state_of new.committer one.0))) one.1,
        );
  }

  pub done_durably : {steps : List StepData} (old new : Core D g) → IsSound old → HasDone steps old new → IsDurablyServed (data_of old) (data_of new) steps no_bytes
  done_durably old new sound done = durably_by (data_of old) (data_of new) sound done.sessions (λ origin events holds. let one = done.advances origin events holds in (one.0, one.1.durable)) done.replies

  -- ---- one step

  pub piece_durably : (k : ℕ) (piece : List ℕ) (old new : Core D g) (result : Result (Unit {0}) FeedFault) → PieceOutcome k piece old new result → IsSound old → IsDurablyServed (data_of old) (data_of new) (step_done (a_piece k piece) result) no_bytes
  piece_durably k piece old new (Ok done) end sound = done_durably old new sound (piece_done k piece old new (Ok done) end sound)
  piece_durably k piece old new (Err fault) end sound =
      let front : List ℕ = take fault.taken piece in
      subst (λ (b : Bool). IsDurablyServed (data_of old) (data_of new) (if b then [] else a_piece k front ∷ []) no_bytes) (sym (other_refusal fault.error end.fed.not_broken))
      (durably_by (data_of old) (data_of new) sound (end.only ∙ ap (slice_set (sessions_of old) k) end.fed.session) (λ origin events holds.
      let one = end.fed.refused origin events holds in (
        one.0,
        subst (λ (arrived : List Append). IsDurable origin (store_of (committer_of old)) (store_of (committer_of new)) (state_of (committer_of old) events) (state_of (committer_of new) one.0) arrived)
            (ap appends_among (sym (append-nil (arrivals_by_piece k front (session_of k old))))) one.1.durable,
      )) (piece_ends k piece old new fault end))

  pub end_durably : (k : ℕ) (old new : Core D g) (result : Result (Unit {0}) StoreError) → EndOutcome k old new result → IsSound old → IsDurablyServed (data_of old) (data_of new) (whole_done (an_end k) result) no_bytes
  end_durably k old new (Ok done) end sound = done_durably old new sound (end_done k old new (Ok done) end sound)
  end_durably k old new (Err error) end sound =
      durably_by (data_of old) (data_of new) sound (end.only ∙ ap (slice_set (sessions_of old) k) end.ended.session ∙ set-get_or (sessions_of old) k no_session) (λ origin events holds.
      let one = end.ended.frame.refused origin events holds in
      (one.0, one.1.durable)) (arrival_ends _ (committer_of old) (committer_of new) error end.ended.frame.end)

  pub flush_durably : (old new : CoreData D g) (result : Result (Unit {0}) StoreError) → new.sessions ≡ old.sessions
      → ((origin : Origin) (events : List EventData) → Holds (store_of old.committer) origin events → (after : List EventData) × IsFlush origin old.committer new.committer events after result) → FlushOutcome old.committer new.committer result → is_broken (store_of old.committer) ≡ false
      → IsDurablyServed old new (whole_done a_flush result) no_bytes
  flush_durably old new (Ok done) sessions flush end sound =
      durably_by old new sound sessions (λ origin events holds. let one = flush origin events holds in (one.0, one.1.durable)) (flush_adds_any old.committer new.committer (Ok done) end)
  flush_durably old new (Err error) sessions flush end sound =
      durably_by old new sound sessions (λ origin events holds. let one = flush origin events holds in (one.0, one.1.durable)) (flush_adds_any old.committer new.committer (Err error) end)

  -- ---- consecutive steps

  -- the steps before a place
  pub to_durably : {steps : List Step} {number : ℕ} (old now : Core D g) → DoneTo steps number old now → IsDurablyServed (data_of old) (data_of now) (map step_data (take number steps)) no_bytes
  to_durably {steps = steps} {number = number} old now to = decide (is_broken (store_of (committer_of old))) refl
    where
      decide : (b : Bool) → is_broken (store_of (committer_of old)) ≡ b → IsDurablyServed (data_of old) (data_of now) (map step_data (take number steps)) no_bytes
      decide true broken =
          let none = to.none broken in
          subst (λ (n : ℕ). IsDurablyServed (data_of old) (data_of now) (map step_data (take n steps)) no_bytes) (sym none.0) (untouched_durably none.1)
      decide false sound = done_durably old now sound (to.done sound)

  -- all steps
  pub all_durably : {steps : List Step} {number : ℕ} (old now : Core D g) → DoneTo steps number old now → length steps ≤ number → IsDurablyServed (data_of old) (data_of now) (map step_data steps) no_bytes
  all_durably {steps = steps} {number = number} old now to all =
      subst (λ (some : List Step). IsDurablyServed (data_of old) (data_of now) (map step_data some) no_bytes) (take_all number steps all) (to_durably old now to)

  -- a part of the next step
  pub drive_durably : {steps : List Step} {number : ℕ} {old now : Core D g} (new : CoreData D g) (none : Step) (fault : FeedFault) → DoneTo steps number old now → number < length steps
      → IsDurablyServed (data_of now) new (part_done fault (step_data (get_or steps number none))) no_bytes
      → IsDurablyServed (data_of old) new (steps_done (map step_data steps) (Err (record { step = number; taken = fault.taken; error = fault.error }))) no_bytes
  drive_durably {steps = steps} {number = number} {old = old} {now = now} new none fault to within part =
      let next : part_done fault (step_data (get_or steps number none)) ≡ next_done fault (drop number (map step_data steps)) =
      ap (λ (rest : List Step). next_done fault (map step_data rest)) (sym (drop_more steps number none within)) ∙ ap (next_done fault) (sym (drop-map step_data number steps)) in
      subst (λ (all : List StepData). IsDurablyServed (data_of old) new all no_bytes)
      (ap (λ (before : List StepData). before ++ part_done fault (step_data (get_or steps number none))) (sym (take-map step_data number steps))
      ∙ ap (λ (last : List StepData). take number (map step_data steps) ++ last) next)
      (durably_more (data_of old) (data_of now) new (to_durably old now to) part)

  -- ---- as calls of a core that serves sessions

  pub piece_goes : (k : ℕ) (piece : List ℕ) (old new : Core D g) (fault : FeedFault) → IsDurablyServed (data_of old) (data_of new) (part_done fault (a_piece k piece)) no_bytes → GoesBy core_model (a_piece k piece) old new
  piece_goes k piece old new fault durably = (part_done fault (a_piece k piece), some_part (a_piece k piece) fault, durably)

  pub end_goes : (k : ℕ) (old new : Core D g) (result : Result (Unit {0}) StoreError) → IsDurablyServed (data_of old) (data_of new) (whole_done (an_end k) result) no_bytes → GoesBy core_model (an_end k) old new
  end_goes k old new result durably = (whole_done (an_end k) result, whole_or_none (an_end k) result, durably)

  pub flush_goes : (old new : Core D g) (result : Result (Unit {0}) StoreError) → IsDurablyServed (data_of old) (data_of new) (whole_done a_flush result) no_bytes → GoesBy core_model a_flush old new
  flush_goes old new result durably = (whole_done a_flush result, whole_or_none a_flush result, durably)
