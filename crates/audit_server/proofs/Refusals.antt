-- What a refusal states about a store, on any device.
use Rattle.std.proofs.Common.{◌≡◌, ◌∙◌, inl, inr, ℕ, ◌≤◌, Bool, true, false, Result, Ok, Err, List, [], ◌∷◌, refl, sym, ap, arith}
use Rattle.std.specs.Prelude.{IfErr}
use Rattle.audit_disk_model.specs.declared.sectors.Sectors as sectors
use Rattle.audit_chain.specs.Event.{EventData}
use Rattle.audit_server_commit.specs.declared.commit_outcome.CommitOutcome.{CommitOutcome}
use Rattle.audit_server_commit.specs.declared.commit_outcome.CommitOutcome.TheVariants.{Committed, Worn}
use Rattle.audit_server_commit.specs.declared.question.Question.{Question}
use Rattle.audit_server_commit.specs.Arrivals.{Arrival, forces_flush}
use Rattle.audit_store.specs.Store.{device, is_broken}
use Rattle.audit_store.specs.declared.store.Store.{Store}
use Rattle.audit_store.specs.declared.store_error.StoreError.{StoreError}
use Rattle.audit_store.specs.declared.store_error.StoreError.TheVariants.{NotAStore, DamagedHeader, HeadersDisagree, DamagedLog, BatchTooLarge, Full, NoSuchVersion, Worn as NoGeneration, Broken, Device, Memory, Closed, BadSize, ReservedKind}
use Rattle.audit_server_commit.specs.declared.committer.Committer.{Committer}
use Rattle.audit_server_commit.specs.Committing.{IsCommitEnd}
use Rattle.audit_server_commit.specs.Flush.{IsFlushed, FlushOutcome}
use Rattle.audit_server_commit.specs.Committer.{store_of, waiting_of}
use Rattle.audit_server_commit.specs.Entering.{IsReady, HasEntered, IsArrivalEnd}
use Rattle.audit_server_commit.specs.Serving.{IsRefusedAs}
use Rattle.audit_server_commit.proofs.ServedSteps.{refused_then}
use Rattle.audit_server.specs.declared.feed_fault.FeedFault.{FeedFault}
use Rattle.audit_server.specs.declared.server_core.Core.{Core}
use Rattle.audit_server.specs.Running.{HaveEntered}
use Rattle.audit_server.specs.Entering.{IsRequestEnd}
use Rattle.audit_server.specs.Core.{committer_of, IsSound, Refuses, PieceOutcome, EndOutcome}
use Rattle.audit_server.proofs.Sound.{IsUnbroken, flushed_sound, ready_sound, all_sound}

module _ {D : Type 0} {g : sectors.Ghosts D} where
  -- ---- the device's count of failures never falls

  abbrev pub failures_of : Committer D g → ℕ
  failures_of committer = (device (store_of committer)).failures

  commit_counts : (old new : Store D g) (batch : List EventData) (outcome : CommitOutcome) → IsCommitEnd old new batch (Ok outcome) → (device new).failures ≡ (device old).failures
  commit_counts old new batch (Committed count root) end = end.failures
  commit_counts old new batch Worn end = ap (λ (disk : D). (g.view disk).failures) end.same.disk

  pub flushed_counts : (old new : Committer D g) (rest : List Question) → IsFlushed old new rest → failures_of old ≤ failures_of new
  flushed_counts old new rest flushed = omega (arith, commit_counts (store_of old) flushed.mid _ flushed.appends.outcome flushed.appends.end, flushed.questions.unchanged.calls.failures)

  ready_counts : (full : Bool) (old new : Committer D g) → IsReady full old new (Ok tt) → failures_of old ≤ failures_of new
  ready_counts true old new ready = flushed_counts old new [] ready
  ready_counts false old new same = omega (arith, ap failures_of same)

  entered_counts : (arrival : Arrival) (old new : Committer D g) → HasEntered arrival old new → failures_of old ≤ failures_of new
  entered_counts arrival old new entered =
      omega (arith, ready_counts (forces_flush (waiting_of old) arrival) old entered.ready entered.flushed, ap (λ (store : Store D g). (device store).failures) entered.waits.store)

  pub all_count : (arrivals : List Arrival) (old new : Committer D g) → HaveEntered arrivals old new → failures_of old ≤ failures_of new
  all_count [] old new same = omega (arith, ap failures_of same)
  all_count (arrival ∷ arrivals) old new all = omega (arith, entered_counts arrival old all.0 all.1, all_count arrivals all.0 new all.2)

  -- ---- refusals of a store that isn't broken

  abbrev IsRefusedOf : StoreError → Committer D g → Committer D g → Type 0
  IsRefusedOf error old new = IsRefusedAs error (store_of old) (store_of new)

  flush_refused : (old new : Committer D g) (error : StoreError) → FlushOutcome old new (Err error) → IsUnbroken old → IsRefusedOf error old new
  flush_refused old new Broken end sound = let broken : true ≡ false = sym end.0 ∙ sound in absurd (cc broken)
  flush_refused old new Device end sound = inr (inl (refl, record { sound = sound; broken = end.lost.broken; failures = end.lost.failures }))
  flush_refused old new Memory (inl kept) sound = inr (inr (refl, kept.sound ∙ sym sound))
  flush_refused old new Memory (inr part) sound = inr (inr (refl, flushed_sound old new part.rest part.flushed sound ∙ sym sound))
  flush_refused old new NotAStore end sound = absurd end
  flush_refused old new DamagedHeader end sound = absurd end
  flush_refused old new HeadersDisagree end sound = absurd end
  flush_refused old new (DamagedLog index) end sound = absurd end
  flush_refused old new BatchTooLarge end sound = absurd end
  flush_refused old new Full end sound = absurd end
  flush_refused old new NoSuchVersion end sound = absurd end
  flush_refused old new NoGeneration end sound = absurd end
  flush_refused old new Closed end sound = absurd end
  flush_refused old new BadSize end sound = absurd end
  flush_refused old new ReservedKind end sound = absurd end

  ready_refused : (full : Bool) (old new : Committer D g) (error : StoreError) → IsReady full old new (Err error) → IsUnbroken old → IsRefusedOf error old new
  ready_refused true old new error ready sound = flush_refused old new error ready sound
  ready_refused false old new error ready sound = absurd ready

  arrival_refused : (arrival : Arrival) (old new : Committer D g) (error : StoreError) → IsArrivalEnd arrival old new (Err error) → IsUnbroken old → IsRefusedOf error old new
  arrival_refused arrival old new error (inl ready) sound = ready_refused (forces_flush (waiting_of old) arrival) old new error ready sound
  arrival_refused arrival old new error (inr memory) sound =
      let full = ready_sound (forces_flush (waiting_of old) arrival) old memory.1.ready memory.1.flushed sound in
      inr (inr (memory.0, ap is_broken memory.1.waits.store ∙ full ∙ sym sound))

  request_refused : (arrival : Arrival) (old new : Committer D g) (error : StoreError) → IsRequestEnd arrival old new (Err error) → IsUnbroken old → IsRefusedOf error old new
  request_refused arrival old new error (inl refused) sound = arrival_refused arrival old new error refused sound
  request_refused arrival old new error (inr memory) sound = inr (inr (memory.0, ap (λ (committer : Committer D g). is_broken (store_of committer)) memory.1))

  -- ---- refusals of a core

  pub piece_refused : (k : ℕ) (piece : List ℕ) (old new : Core D g) (result : Result (Unit {0}) FeedFault) → PieceOutcome k piece old new result → IsSound old → IfErr result (λ fault. Refuses old new fault.error)
  piece_refused k piece old new (Ok done) end sound = tt
  piece_refused k piece old new (Err fault) end sound =
      let mid = end.fed.mid in
      let still = all_sound _ (committer_of old) mid end.fed.entered sound in
      refused_then fault.error (store_of (committer_of old)) (store_of mid) (store_of (committer_of new)) sound still (all_count _ (committer_of old) mid end.fed.entered)
      (request_refused end.fed.arrival mid (committer_of new) fault.error end.fed.end still)

  pub end_refused : (k : ℕ) (old new : Core D g) (result : Result (Unit {0}) StoreError) → EndOutcome k old new result → IsSound old → IfErr result (Refuses old new)
  end_refused k old new (Ok done) end sound = tt
  end_refused k old new (Err error) end sound = arrival_refused _ (committer_of old) (committer_of new) error end.ended.frame.end sound

  pub flush_refused_as : (old new : Committer D g) (result : Result (Unit {0}) StoreError) → FlushOutcome old new result → IsUnbroken old → IfErr result (λ error. IsRefusedOf error old new)
  flush_refused_as old new (Ok done) end sound = tt
  flush_refused_as old new (Err error) end sound = flush_refused old new error end sound
