-- Consecutive arrivals.
use Rattle.std.proofs.Common.{◌≡◌, ◌∙◌, inl, inr, Result, Ok, Err, List, [], ◌∷◌, ◌++◌, refl, sym, ap, subst}
use Rattle.std.proofs.lemmas.List.{append-nil}
use Rattle.audit_disk_model.specs.declared.sectors.Sectors as sectors
use Rattle.audit_chain.specs.Event.{EventData}
use Rattle.audit_store_commit.specs.Origin.{Origin}
use Rattle.audit_server_commit.specs.Waiting.{Append}
use Rattle.audit_server_commit.specs.GroupCommit.{ServerState}
use Rattle.audit_server_commit.specs.Arrivals.{Arrival, appends_among, entered}
use Rattle.audit_store.specs.Store.{Holds}
use Rattle.audit_store.specs.declared.store_error.StoreError.{StoreError}
use Rattle.audit_store.specs.declared.store_error.StoreError.TheVariants.{Memory}
use Rattle.audit_store.proofs.Held.{held_now}
use Rattle.audit_server_commit.specs.declared.committer.Committer.{Committer}
use Rattle.audit_server_commit.specs.Committer.{store_of, waiting_of, state_of}
use Rattle.audit_server_commit.specs.Durable.{IsDurable}
use Rattle.audit_server_commit.specs.Entering.{HasEntered, IsArrivalEnd, IsLeftByFlush, IsEntered}
use Rattle.audit_server_commit.proofs.Unchanged.{faultless_first, faultless_next}
use Rattle.audit_server_commit.proofs.Durability.{durable_trans, durable_queued}
use Rattle.audit_server_commit.proofs.SessionSteps.{entered-append, appends-append}
use Rattle.audit_server.specs.Running.{HaveEntered, AdvancesBy, IsRefusedAfter, Run}
use Rattle.audit_server.specs.Entering.{Enters}

module _ {D : Type 0} {g : sectors.Ghosts D} where
  pub entered_last : (arrivals : List Arrival) (arrival : Arrival) (old mid new : Committer D g) → HaveEntered arrivals old mid → HasEntered arrival mid new → HaveEntered (arrivals ++ arrival ∷ []) old new
  entered_last [] arrival old mid new same last = (new, subst (λ (c : Committer D g). HasEntered arrival c new) same last, refl)
  entered_last (first ∷ arrivals) arrival old mid new all last = (all.0, all.1, entered_last arrivals arrival all.0 mid new all.2 last)

  -- ---- consecutive calls, on a store that holds events

  pub advances_none : (old : Committer D g) → AdvancesBy [] (λ origin state. state) old old
  advances_none old = λ origin events holds. (
    events,
    record {
      durable = durable_queued [] holds holds (held_now holds) refl refl refl (sym (append-nil (waiting_of old).appends));
      unbroken = holds.sound;
      done = λ calm. refl;
    },
  )

  pub advances_more : {xs ys : List Append} {does goes : Origin → ServerState → ServerState} {old mid new : Committer D g} → AdvancesBy xs does old mid → AdvancesBy ys goes mid new → AdvancesBy (xs ++ ys) (λ origin state. goes origin (does origin state)) old new
  advances_more {does = does} {goes = goes} first next = λ origin events holds.
      let one = first origin events holds in
      let two = next origin one.0 (one.1.durable.holds one.1.unbroken) in (
        two.0,
        record {
          durable = durable_trans one.1.durable one.1.unbroken two.1.durable;
          unbroken = two.1.unbroken;
          done = λ calm.
              two.1.done (faultless_next calm one.1.durable.moments.continues two.1.durable.moments.continues)
              ∙ ap (goes origin) (one.1.done (faultless_first calm one.1.durable.moments.continues two.1.durable.moments.continues));
        },
      )

  -- the same, for equal appends and an equal state
  pub advances_as : {xs ys : List Append} {does goes : Origin → ServerState → ServerState} {old new : Committer D g} → xs ≡ ys → ((origin : Origin) (state : ServerState) → does origin state ≡ goes origin state) → AdvancesBy xs does old new → AdvancesBy ys goes old new
  advances_as {xs = xs} {ys = ys} {does = does} {goes = goes} {old = old} {new = new} appends states all = λ origin events holds.
      let one = all origin events holds in (
        one.0,
        record {
          durable = subst (λ (arrived : List Append). IsDurable origin (store_of old) (store_of new) (state_of old events) (state_of new one.0) arrived) appends one.1.durable;
          unbroken = one.1.unbroken;
          done = λ calm. one.1.done calm ∙ states origin (state_of old events);
        },
      )

  advances_one : (arrival : Arrival) (old new : Committer D g) → Enters arrival old new (Ok tt) → AdvancesBy (appends_among (arrival ∷ [])) (λ origin. entered origin arrival) old new
  advances_one arrival old new enters = λ origin events holds.
      let one = enters.entered origin events holds in
      (one.0, record { durable = one.1.durable; unbroken = one.1.unbroken; done = one.1.done })

  -- ---- runs

  pub run_none : (old : Committer D g) → Run [] old old
  run_none old = record { entered = refl; advances = advances_none old }

  pub run_more : {arrivals : List Arrival} {old mid new : Committer D g} (arrival : Arrival) → Run arrivals old mid → Enters arrival mid new (Ok tt) → Run (arrivals ++ arrival ∷ []) old new
  run_more {arrivals = arrivals} {old = old} {mid = mid} {new = new} arrival run enters = record {
    entered = entered_last arrivals arrival old mid new run.entered enters.end;
    advances =
        advances_as (sym (appends-append arrivals (arrival ∷ []))) (λ origin state. sym (entered-append origin arrivals (arrival ∷ []) state))
        (advances_more run.advances (advances_one arrival mid new enters));
  }

  pub run_as : {arrivals others : List Arrival} {old new : Committer D g} → arrivals ≡ others → Run arrivals old new → Run others old new
  run_as {old = old} {new = new} same run = subst (λ (all : List Arrival). Run all old new) same run

  -- a refusal after a run
  pub run_refused : {arrivals : List Arrival} {old mid new : Committer D g} (arrival : Arrival) (error : StoreError) → Run arrivals old mid → Enters arrival mid new (Err error) → IsRefusedAfter arrivals error old new
  run_refused {arrivals = arrivals} {old = old} {mid = mid} {new = new} arrival error run enters = λ origin events holds.
      let one = run.advances origin events holds in
      let two = enters.entered origin one.0 (one.1.durable.holds one.1.unbroken) in (
        two.0,
        record {
          durable =
              subst (λ (arrived : List Append). IsDurable origin (store_of old) (store_of new) (state_of old events) (state_of new two.0) arrived) (append-nil (appends_among arrivals))
              (durable_trans one.1.durable one.1.unbroken two.1.durable);
          refused = λ calm is.
              subst (λ (state : ServerState). IsLeftByFlush origin state (state_of new two.0))
              (one.1.done (faultless_first calm one.1.durable.moments.continues two.1.durable.moments.continues))
              (two.1.refused (faultless_next calm one.1.durable.moments.continues two.1.durable.moments.continues) (ap (λ (e : StoreError). Err e) is));
        },
      )

  -- memory was refused, and nothing has changed
  pub enters_refused : (arrival : Arrival) (old : Committer D g) → Enters arrival old old (Err Memory)
  enters_refused arrival old = record {
    end = inr (refl, refl);
    entered = λ origin events holds. (
      events,
      record {
        durable = durable_queued [] holds holds (held_now holds) refl refl refl (sym (append-nil (waiting_of old).appends));
        unbroken = tt;
        done = λ calm. tt;
        refused = λ calm is. inl refl;
      },
    );
  }

  -- arrivals that entered other than in a frame
  pub enters_by : (arrival : Arrival) (old new : Committer D g) (result : Result (Unit {0}) StoreError) → IsArrivalEnd arrival old new result
      → ((origin : Origin) (events : List EventData) → Holds (store_of old) origin events → (after : List EventData) × IsEntered origin arrival old new events after result)
      → Enters arrival old new result
  enters_by arrival old new (Ok done) end entered = record { end = end; entered = entered }
  enters_by arrival old new (Err error) end entered = record { end = inl end; entered = entered }
