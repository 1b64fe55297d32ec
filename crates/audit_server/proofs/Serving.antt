-- Why `Core` is a core that serves sessions.
use Rattle.std.proofs.Common.{◌≡◌, ◌∙◌, Bool, true, false, Result, Ok, Err, OnOk, List, refl, sym, subst}
use Rattle.audit_disk_model.specs.declared.sectors.Sectors as sectors
use Rattle.audit_server_commit.specs.GroupCommit.{ServerState}
use Rattle.audit_server_commit.specs.Arrivals.{appends_among}
use Rattle.audit_store.specs.Store.{is_broken}
use Rattle.audit_server_commit.specs.Committer.{store_of, outputs_of, state_of}
use Rattle.audit_server_commit.specs.Durable.{IsDurable}
use Rattle.audit_serve_passes.specs.Steps.{StepData}
use Rattle.audit_serve_passes.specs.Core.{no_bytes}
use Rattle.audit_server_commit.specs.Sessions.{arrivals_run}
use Rattle.audit_server_commit.specs.Serving.{HasServed}
use Rattle.audit_server_commit.proofs.ServedSteps.{put_back_none}
use Rattle.audit_server_commit.proofs.Taking.{nothing_taken}
use Rattle.audit_server.specs.declared.server_core.Core.{Core}
use Rattle.audit_server.specs.Core.{committer_of, sessions_of, data_of, is_core_broken, IsSound, IsCoreUntouched, HasDone}

refused_ok : {E : Type 0} (unit : Unit {0}) (error : E) → Ok unit ≡ Err error → ⊥
refused_ok unit error is = absurd (cc is)

module _ {D : Type 0} {g : sectors.Ghosts D} where
  pub served_of : {steps : List StepData} (old new : Core D g) → (is_core_broken old → ⊥) → HasDone steps old new → HasServed (data_of old) (data_of new) steps no_bytes
  served_of {steps = steps} old new not_broken done = record {
    sessions = done.sessions;
    sound = λ sound. done.sound;
    broken = λ broken. absurd (not_broken broken);
    failures = done.failures;
    spares = λ stops.
        let added = done.replies in (
          (added.3 stops).0,
          record { sent = added.0; none = (added.3 stops).1; outputs = nothing_taken no_bytes (outputs_of (committer_of new)) (λ k. refl) ∙ added.2 },
        );
    serves = λ origin events holds.
        let one = done.advances origin events holds in (
          one.0,
          record {
            durable =
                subst (λ (state : ServerState). IsDurable origin (store_of (committer_of old)) (store_of (committer_of new)) (state_of (committer_of old) events) state (appends_among (arrivals_run steps (sessions_of old))))
                (sym (put_back_none (state_of (committer_of new) one.0))) one.1.durable;
            unbroken = one.1.unbroken;
            done = λ calm. put_back_none (state_of (committer_of new) one.0) ∙ one.1.done calm;
          },
        );
  }

  -- a call that succeeded did its step
  pub did_of : {E : Type 0} (steps : List StepData) (old new : Core D g) (result : Result (Unit {0}) E) (error : E) → (is_core_broken old → (result ≡ Err error) × IsCoreUntouched old new) → (IsSound old → OnOk result (HasDone steps old new))
      → OnOk result (HasServed (data_of old) (data_of new) steps no_bytes)
  did_of steps old new (Err fault) error broken done = tt
  did_of steps old new (Ok unit) error broken done = decide (is_broken (store_of (committer_of old))) refl
    where
      never : is_core_broken old → ⊥
      never here = refused_ok unit error (broken here).0

      decide : (b : Bool) → is_broken (store_of (committer_of old)) ≡ b → HasServed (data_of old) (data_of new) steps no_bytes
      decide true here = absurd (never here)
      decide false sound = served_of old new never (done sound)

  -- a call that succeeded found the core sound
  pub did_ok : (steps : List StepData) (old new : Core D g) → (is_core_broken old → ⊥) → (IsSound old → HasDone steps old new) → HasServed (data_of old) (data_of new) steps no_bytes
  did_ok steps old new never done = did_of {E = Unit {0}} steps old new (Ok tt) tt (λ here. absurd (never here)) done
