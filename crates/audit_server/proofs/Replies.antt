-- On any device, calls append whole replies to the outputs, even if the device fails in one of them.
use Rattle.std.proofs.Common.{◌≡◌, ◌∙◌, inl, inr, ℕ, Bool, true, false, Result, Ok, Err, List, [], ◌∷◌, ◌++◌, refl, sym, ap, subst}
use Rattle.std.specs.Prelude.{IfErr, IsErrOf}
use Rattle.audit_disk_model.specs.declared.sectors.Sectors as sectors
use Rattle.audit_server_commit.specs.Arrivals.{Arrival, forces_flush}
use Rattle.audit_server_commit.specs.Replies.{all_delivered}
use Rattle.audit_server_commit.proofs.Sending.{all_delivered-append, whole-append}
use Rattle.audit_server_commit.proofs.Fitting.{fitting_not_full, answers_not_full, none-append}
use Rattle.audit_server_commit.specs.declared.question.Question.{Question}
use Rattle.audit_store.specs.Store.{active_header}
use Rattle.audit_store.specs.declared.store_error.StoreError.{StoreError}
use Rattle.audit_store.specs.declared.store_error.StoreError.TheVariants.{NotAStore, DamagedHeader, HeadersDisagree, DamagedLog, BatchTooLarge, Full, NoSuchVersion, Worn, Broken, Device, Memory, Closed, BadSize, ReservedKind}
use Rattle.audit_server_commit.specs.declared.committer.Committer.{Committer}
use Rattle.audit_server_commit.specs.Flush.{replies_after, IsDropped, IsFlushed, FlushOutcome}
use Rattle.audit_server_commit.specs.Committer.{store_of, waiting_of, outputs_of, reserve_of, free_of, log_of, stops_of}
use Rattle.audit_server_commit.specs.Entering.{IsReady, HasEntered, IsArrivalEnd}
use Rattle.audit_server.specs.declared.feed_fault.FeedFault.{FeedFault}
use Rattle.audit_server.specs.declared.server_core.Core.{Core}
use Rattle.audit_server.specs.Running.{HaveEntered, AddsReplies, IsBrokenByDevice}
use Rattle.audit_server.specs.Entering.{IsRequestEnd}
use Rattle.audit_server.specs.Core.{committer_of, PieceOutcome, EndOutcome}

module _ {D : Type 0} {g : sectors.Ghosts D} where
  -- ---- whole replies

  pub adds_none : (old : Committer D g) → AddsReplies old old
  adds_none old = ([], tt, refl, λ stops. (stops, tt))

  pub adds_more : (old mid new : Committer D g) → AddsReplies old mid → AddsReplies mid new → AddsReplies old new
  adds_more old mid new first next = (
    first.0 ++ next.0,
    whole-append first.0 next.0 first.1 next.1,
    next.2 ∙ ap (λ outputs. all_delivered outputs next.0) first.2 ∙ sym (all_delivered-append (outputs_of old) first.0 next.0),
    λ stops.
        let one = first.3 stops in
        let two = next.3 one.0 in
        (two.0, none-append first.0 next.0 one.1 two.1),
  )

  pub flush_adds : (old new : Committer D g) (rest : List Question) → IsFlushed old new rest → AddsReplies old new
  flush_adds old new rest flushed =
      let replies = replies_after (store_of old) flushed.appends.outcome (reserve_of old) (log_of old) (free_of old) (waiting_of old).appends in (
        replies ++ flushed.questions.sent,
        whole-append replies flushed.questions.sent flushed.appends.whole flushed.questions.whole,
        flushed.questions.outputs_are
            ∙ ap (λ outputs. all_delivered outputs flushed.questions.sent) flushed.appends.outputs_are
            ∙ sym (all_delivered-append (outputs_of old) replies flushed.questions.sent),
        λ stops. (
          flushed.stops ∙ stops,
          none-append replies flushed.questions.sent (fitting_not_full (reserve_of old) (log_of old) (free_of old) _ (active_header (store_of old)).count (waiting_of old).appends (old.fits stops))
              (answers_not_full (active_header flushed.mid).count flushed.questions.answered flushed.questions.sent flushed.questions.each),
        ),
      )

  ready_adds : (full : Bool) (old new : Committer D g) → IsReady full old new (Ok tt) → AddsReplies old new
  ready_adds true old new ready = flush_adds old new [] ready
  ready_adds false old new same = ([], tt, ap outputs_of same, λ stops. (ap stops_of same ∙ stops, tt))

  entered_adds : (arrival : Arrival) (old new : Committer D g) → HasEntered arrival old new → AddsReplies old new
  entered_adds arrival old new entered =
      let ready = ready_adds (forces_flush (waiting_of old) arrival) old entered.ready entered.flushed in
      (ready.0, ready.1, entered.waits.outputs ∙ ready.2, λ stops. (entered.waits.stops ∙ (ready.3 stops).0, (ready.3 stops).1))

  pub all_add : (arrivals : List Arrival) (old new : Committer D g) → HaveEntered arrivals old new → AddsReplies old new
  all_add [] old new same = ([], tt, ap outputs_of same, λ stops. (ap stops_of same ∙ stops, tt))
  all_add (arrival ∷ arrivals) old new all = adds_more old all.0 new (entered_adds arrival old all.0 all.1) (all_add arrivals all.0 new all.2)

  -- ---- replies of calls that were refused

  adds_same : (old new : Committer D g) → new ≡ old → AddsReplies old new
  adds_same old new same = ([], tt, ap outputs_of same, λ stops. (ap stops_of same ∙ stops, tt))

  flush_ends : (old new : Committer D g) (error : StoreError) → FlushOutcome old new (Err error) → AddsReplies old new
  flush_ends old new Broken end = adds_same old new end.1
  flush_ends old new Device end = ([], tt, end.outputs, λ stops. (end.stops ∙ stops, tt))
  flush_ends old new Memory (inl kept) = ([], tt, kept.outputs, λ stops. (kept.stops ∙ stops, tt))
  flush_ends old new Memory (inr part) = flush_adds old new part.rest part.flushed
  flush_ends old new NotAStore end = absurd end
  flush_ends old new DamagedHeader end = absurd end
  flush_ends old new HeadersDisagree end = absurd end
  flush_ends old new (DamagedLog index) end = absurd end
  flush_ends old new BatchTooLarge end = absurd end
  flush_ends old new Full end = absurd end
  flush_ends old new NoSuchVersion end = absurd end
  flush_ends old new Worn end = absurd end
  flush_ends old new Closed end = absurd end
  flush_ends old new BadSize end = absurd end
  flush_ends old new ReservedKind end = absurd end

  -- whatever a flush came to
  pub flush_adds_any : (old new : Committer D g) (result : Result (Unit {0}) StoreError) → FlushOutcome old new result → AddsReplies old new
  flush_adds_any old new (Ok done) end = flush_adds old new [] end
  flush_adds_any old new (Err error) end = flush_ends old new error end

  ready_ends : (full : Bool) (old new : Committer D g) (error : StoreError) → IsReady full old new (Err error) → AddsReplies old new
  ready_ends true old new error ready = flush_ends old new error ready
  ready_ends false old new error ready = absurd ready

  pub arrival_ends : (arrival : Arrival) (old new : Committer D g) (error : StoreError) → IsArrivalEnd arrival old new (Err error) → AddsReplies old new
  arrival_ends arrival old new error (inl ready) = ready_ends (forces_flush (waiting_of old) arrival) old new error ready
  arrival_ends arrival old new error (inr memory) =
      let ready = ready_adds (forces_flush (waiting_of old) arrival) old memory.1.ready memory.1.flushed in
      (ready.0, ready.1, memory.1.waits.outputs ∙ ready.2, λ stops. (memory.1.waits.stops ∙ (ready.3 stops).0, (ready.3 stops).1))

  request_ends : (arrival : Arrival) (old new : Committer D g) (error : StoreError) → IsRequestEnd arrival old new (Err error) → AddsReplies old new
  request_ends arrival old new error (inl refused) = arrival_ends arrival old new error refused
  request_ends arrival old new error (inr memory) = adds_same old new memory.1

  -- a piece up to the arrival that was refused
  pub piece_ends : (k : ℕ) (piece : List ℕ) (old new : Core D g) (fault : FeedFault) → PieceOutcome k piece old new (Err fault) → AddsReplies (committer_of old) (committer_of new)
  piece_ends k piece old new fault end =
      adds_more (committer_of old) end.fed.mid (committer_of new) (all_add _ (committer_of old) end.fed.mid end.fed.entered) (request_ends end.fed.arrival end.fed.mid (committer_of new) fault.error end.fed.end)

  -- ---- a fault of the device

  dropped : (old new : Committer D g) → IsDropped old new → IsBrokenByDevice old new
  dropped old new is = record { broken = is.lost.broken; dropped = is.waiting; outputs = ([], tt, is.outputs, λ stops. (is.stops ∙ stops, tt)) }

  -- earlier replies stay
  pub broken_after : (old mid new : Committer D g) → AddsReplies old mid → IsBrokenByDevice mid new → IsBrokenByDevice old new
  broken_after old mid new first next = record { broken = next.broken; dropped = next.dropped; outputs = adds_more old mid new first next.outputs }

  ready_broken : (full : Bool) (old new : Committer D g) → IsReady full old new (Err Device) → IsBrokenByDevice old new
  ready_broken true old new ready = dropped old new ready
  ready_broken false old new ready = absurd ready

  arrival_broken : (arrival : Arrival) (old new : Committer D g) (error : StoreError) → IsArrivalEnd arrival old new (Err error) → error ≡ Device → IsBrokenByDevice old new
  arrival_broken arrival old new error end is = elim end [
    | inl ready ↦
        let full = forces_flush (waiting_of old) arrival in
        ready_broken full old new (subst (λ (e : StoreError). IsReady full old new (Err e)) is ready)
    | inr memory ↦ let other : Memory ≡ Device = sym memory.0 ∙ is in absurd (cc other)
  ]

  request_broken : (arrival : Arrival) (old new : Committer D g) (error : StoreError) → IsRequestEnd arrival old new (Err error) → error ≡ Device → IsBrokenByDevice old new
  request_broken arrival old new error end is = elim end [
    | inl refused ↦ arrival_broken arrival old new error refused is
    | inr memory ↦ let other : Memory ≡ Device = sym memory.0 ∙ is in absurd (cc other)
  ]

  pub piece_broken : (k : ℕ) (piece : List ℕ) (old new : Core D g) (result : Result (Unit {0}) FeedFault) → PieceOutcome k piece old new result → IfErr result (λ fault. fault.error ≡ Device → IsBrokenByDevice (committer_of old) (committer_of new))
  piece_broken k piece old new (Ok done) end = tt
  piece_broken k piece old new (Err fault) end = λ is.
      broken_after (committer_of old) end.fed.mid (committer_of new) (all_add _ (committer_of old) end.fed.mid end.fed.entered) (request_broken end.fed.arrival end.fed.mid (committer_of new) fault.error end.fed.end is)

  pub end_broken : (k : ℕ) (old new : Core D g) (result : Result (Unit {0}) StoreError) → EndOutcome k old new result → IsErrOf result Device → IsBrokenByDevice (committer_of old) (committer_of new)
  end_broken k old new (Ok done) end is = absurd (cc is)
  end_broken k old new (Err error) end is = arrival_broken _ (committer_of old) (committer_of new) error end.ended.frame.end (cc is)

  pub flush_broken : (old new : Committer D g) (result : Result (Unit {0}) StoreError) → FlushOutcome old new result → IsErrOf result Device → IsBrokenByDevice old new
  flush_broken old new result end is = dropped old new (subst (FlushOutcome old new) is end)
