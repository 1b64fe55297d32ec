-- An arrival that enters doesn't break the store.
use Rattle.std.proofs.Common.{◌≡◌, ◌≢◌, ◌∙◌, inl, inr, Bool, true, false, Ok, Err, List, [], ◌∷◌, sym, ap, subst}
use Rattle.audit_disk_model.specs.declared.sectors.Sectors as sectors
use Rattle.audit_chain.specs.Event.{EventData}
use Rattle.audit_server_commit.specs.declared.commit_outcome.CommitOutcome.{CommitOutcome}
use Rattle.audit_server_commit.specs.declared.commit_outcome.CommitOutcome.TheVariants.{Committed, Worn}
use Rattle.audit_server_commit.specs.Arrivals.{Arrival, forces_flush}
use Rattle.audit_server_commit.specs.declared.question.Question.{Question}
use Rattle.audit_store.specs.Store.{is_broken}
use Rattle.audit_store.specs.declared.store.Store.{Store}
use Rattle.audit_store.specs.declared.store_error.StoreError.{StoreError}
use Rattle.audit_store.specs.declared.store_error.StoreError.TheVariants.{Broken, Memory}
use Rattle.audit_server_commit.specs.declared.committer.Committer.{Committer}
use Rattle.audit_server_commit.specs.Committing.{IsCommitEnd}
use Rattle.audit_server_commit.specs.Flush.{IsFlushed}
use Rattle.audit_server_commit.specs.Committer.{store_of, waiting_of}
use Rattle.audit_server_commit.specs.Entering.{IsReady, HasEntered, IsArrivalEnd}
use Rattle.audit_server.specs.Running.{HaveEntered}
use Rattle.audit_server.specs.Entering.{IsRequestEnd}

module _ {D : Type 0} {g : sectors.Ghosts D} where
  abbrev pub IsUnbroken : Committer D g → Type 0
  IsUnbroken committer = is_broken (store_of committer) ≡ false

  commit_sound : (old new : Store D g) (batch : List EventData) (outcome : CommitOutcome) → IsCommitEnd old new batch (Ok outcome) → is_broken old ≡ false → is_broken new ≡ false
  commit_sound old new batch (Committed count root) end sound = end.sound
  commit_sound old new batch Worn end sound = end.same.broken ∙ sound

  pub flushed_sound : (old new : Committer D g) (rest : List Question) → IsFlushed old new rest → IsUnbroken old → IsUnbroken new
  flushed_sound old new rest flushed sound = flushed.questions.unchanged.broken ∙ commit_sound (store_of old) flushed.mid _ flushed.appends.outcome flushed.appends.end sound

  pub ready_sound : (full : Bool) (old new : Committer D g) → IsReady full old new (Ok tt) → IsUnbroken old → IsUnbroken new
  ready_sound true old new ready sound = flushed_sound old new [] ready sound
  ready_sound false old new ready sound = ap (λ (committer : Committer D g). is_broken (store_of committer)) ready ∙ sound

  pub entered_sound : (arrival : Arrival) (old new : Committer D g) → HasEntered arrival old new → IsUnbroken old → IsUnbroken new
  entered_sound arrival old new entered sound =
      ap is_broken entered.waits.store ∙ ready_sound (forces_flush (waiting_of old) arrival) old entered.ready entered.flushed sound

  pub all_sound : (arrivals : List Arrival) (old new : Committer D g) → HaveEntered arrivals old new → IsUnbroken old → IsUnbroken new
  all_sound [] old new same sound = ap (λ (committer : Committer D g). is_broken (store_of committer)) same ∙ sound
  all_sound (arrival ∷ arrivals) old new all sound = all_sound arrivals all.0 new all.2 (entered_sound arrival old all.0 all.1 sound)

  ready_not_broken : (full : Bool) (old new : Committer D g) → IsReady full old new (Err Broken) → IsUnbroken old → ⊥
  ready_not_broken true old new ready sound = let broken : true ≡ false = sym ready.0 ∙ sound in absurd (cc broken)
  ready_not_broken false old new ready sound = ready

  -- the refusal isn't that the store was broken before
  pub arrival_not_broken : (arrival : Arrival) (old new : Committer D g) (error : StoreError) → IsArrivalEnd arrival old new (Err error) → IsUnbroken old → error ≢ Broken
  arrival_not_broken arrival old new error end sound is = elim end [
    | inl ready ↦ ready_not_broken (forces_flush (waiting_of old) arrival) old new (subst (λ (e : StoreError). IsReady (forces_flush (waiting_of old) arrival) old new (Err e)) is ready) sound
    | inr memory ↦ let other : Memory ≡ Broken = sym memory.0 ∙ is in absurd (cc other)
  ]

  pub request_not_broken : (arrival : Arrival) (old new : Committer D g) (error : StoreError) → IsRequestEnd arrival old new (Err error) → IsUnbroken old → error ≢ Broken
  request_not_broken arrival old new error end sound is = elim end [
    | inl refused ↦ arrival_not_broken arrival old new error refused sound is
    | inr memory ↦ let other : Memory ≡ Broken = sym memory.0 ∙ is in absurd (cc other)
  ]
