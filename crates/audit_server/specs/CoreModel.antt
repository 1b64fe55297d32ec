-- Why `Core` is a core that serves sessions.
use Rattle.std.specs.Prelude.{◌≡◌, ℕ, ◌+◌, Bool, List, [], ◌∷◌, length, map, slice_index_or, slice_set}
use Rattle.std.proofs.Common.{◌∙◌, sym, ap}
use Rattle.std.proofs.lemmas.List.{get_or-set_other}
use Rattle.audit_disk_model.specs.declared.sectors.Sectors as sectors
use Rattle.audit_store.specs.declared.store_error.StoreError.{StoreError}
use Rattle.audit_wire.specs.declared.limits.TheConstants.{PLACED_FRAME, MAX_MEMBERSHIP_FRAME, REFUSAL_FRAME}
use Rattle.audit_server_commit.specs.Waiting.{Waiting, nothing_waits, items_waiting}
use Rattle.audit_server_commit.specs.LongestReplies.{owed_for_waiting}
use Rattle.audit_server_commit.specs.Owing.{owed_of}
use Rattle.audit_server_commit.specs.Committer.{waiting_of, outputs_of}
use Rattle.audit_serve_passes.specs.Steps.{StepData}
use Rattle.audit_serve_passes.specs.declared.rights.Rights.{Rights}
use Rattle.audit_serve_passes.specs.Core.{CoreModel}
use Rattle.audit_server.specs.declared.server_core.Core.{Core}
use Rattle.audit_server_commit.specs.Heard.{daemon_terms}
use Rattle.audit_server_commit.specs.Sessions.{SessionData, begun_session, no_session, session_at, sessions_run}
use Rattle.audit_server_commit.specs.Sessions.{arrivals_by_piece}
use Rattle.audit_server.specs.Core.{committer_of, sessions_of, data_of, Refuses}
use Rattle.audit_server_commit.specs.Serving.{HasServed, IsDurablyServed}
use Rattle.audit_server_commit.proofs.SessionSteps.{sessions-append}
use Rattle.audit_server_commit.proofs.ServedSteps.{served_none, served_more, served_durably, served_refused, durably_more}
use Rattle.audit_server_commit.proofs.ServedSteps.{stays, ended_through}
use Rattle.audit_server.specs.CoreLaws.{none_to_answer, nothing_more, stays_through}
use Rattle.audit_server.specs.RequestKinds.{kind_of, longest_replies}

module _ {D : Type 0} {g : sectors.Ghosts D} where
  -- whether a session has ended after a core has done these steps
  abbrev pub ended_by : Core D g → List StepData → ℕ → Bool
  ended_by core steps k = (session_at k (sessions_run steps (sessions_of core))).ended

  abbrev pub output_of : Core D g → ℕ → List ℕ
  output_of core k = slice_index_or (outputs_of (committer_of core)) k []

  -- the session of a daemon's client with these rights is at the start of its stream, and nothing else has changed
  pub record IsBegunAnew (k : ℕ) (allowed : Rights) (old new : Core D g) : Type 0 where
    pub committer : committer_of new ≡ committer_of old
    pub sessions : sessions_of new ≡ slice_set (sessions_of old) k (begun_session (daemon_terms allowed))

  abbrev pub core_model : CoreModel (Core D g)
  core_model = record {
    ended = ended_by;
    cut_off = λ core k. (session_at k (sessions_of core)).cut_off;
    output = output_of;
    Idle = λ core. waiting_of (committer_of core) ≡ nothing_waits;
    Begins = IsBegunAnew;
    LacksMemory = λ k old new. Unit {0};
    DidSteps = λ old new. HasServed (data_of old) (data_of new);
    DidStepsInPart = λ old new. IsDurablyServed (data_of old) (data_of new);
    nothing_done = λ core. served_none (data_of core);
    more_done = λ old mid new steps later taken more first next. served_more (data_of old) (data_of mid)
        (data_of new) first next;
    owed = λ core k. owed_of k (committer_of core);
    waiting = λ core. items_waiting (waiting_of (committer_of core));
    none_waits = λ core idle. ap items_waiting idle;
    requests = λ core k bytes. map kind_of (arrivals_by_piece k bytes (session_at k (sessions_of core)));
    replies = λ core k bytes. longest_replies (arrivals_by_piece k bytes (session_at k (sessions_of core)));
    requests_alone = λ old new steps taken k bytes did others.
        let same = ap (session_at k) did.sessions ∙ stays_through k steps (sessions_of old) others in (
          ap (λ (session : SessionData). map kind_of (arrivals_by_piece k bytes session)) same,
          ap (λ (session : SessionData). longest_replies (arrivals_by_piece k bytes session)) same,
        );
    no_replies = λ core k bytes. none_to_answer (arrivals_by_piece k bytes (session_at k (sessions_of core)));
    longest = MAX_MEMBERSHIP_FRAME;
    acknowledgement = PLACED_FRAME;
    refusal = REFUSAL_FRAME;
    ended_stays = λ core steps later k ended.
        ap (λ (sessions : List SessionData). (session_at k sessions).ended)
        (sessions-append steps later (sessions_of core))
        ∙ ended_through later (sessions_run steps (sessions_of core)) k ended;
    begun_alone = λ old new k other allowed begun apart.
        ap (λ (sessions : List SessionData). (session_at other sessions).ended) begun.sessions
        ∙ ap (λ (session : SessionData). session.ended)
        (get_or-set_other (sessions_of old) k other (begun_session (daemon_terms allowed)) no_session apart);
    owed_idle = λ core k idle.
        ap (λ (waiting : Waiting). length (output_of core k) + owed_for_waiting k waiting) idle
        ∙ nothing_more (length (output_of core k));
    ended_by_steps = λ old new steps later taken k did.
        ap (λ (sessions : List SessionData). (session_at k (sessions_run later sessions)).ended) did.sessions
        ∙ ap (λ (sessions : List SessionData). (session_at k sessions).ended)
        (sym (sessions-append steps later (sessions_of old)));
    ended_alone = λ core steps step k not.
        ap (λ (sessions : List SessionData). (session_at k sessions).ended)
        (sessions-append steps (step ∷ []) (sessions_of core))
        ∙ ap (λ (session : SessionData). session.ended) (stays (sessions_run steps (sessions_of core)) step k not);
    done_in_part = λ old new steps taken did. served_durably (data_of old) (data_of new) did;
    then_in_part = λ old mid new steps later taken more first next. durably_more (data_of old) (data_of mid)
        (data_of new) (served_durably (data_of old) (data_of mid) first) next;
  }

  -- if a refusal follows other steps, what it states holds from before those steps too
  pub refuses_after : (old mid new : Core D g) (steps : List StepData) (taken : ℕ → List ℕ) (error : StoreError)
      → core_model.DidSteps old mid steps taken → Refuses mid new error → Refuses old new error
  refuses_after old mid new steps taken error did refused =
      served_refused error (data_of old) (data_of mid) (data_of new) did refused
