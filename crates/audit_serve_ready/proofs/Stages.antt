-- A pass, stage by stage.
use Rattle.std.proofs.Common.{inl, ℕ, ◌<◌, Bool, true, false, Option, Some, None, List, [], ◌∷◌, ◌++◌, length, refl, sym, ap, subst}
use Rattle.audit_serve_passes.specs.Steps.{StepData, a_flush}
use Rattle.audit_serve_passes.specs.Streams.{StreamCall, CallModel}
use Rattle.audit_serve_passes.specs.Core.{CoreModel, no_bytes}
use Rattle.audit_serve_passes.proofs.Transitions.{no_calls}
use Rattle.audit_serve_ready.specs.Door.{DoorCall, DoorModel, a_release}
use Rattle.audit_serve_ready.specs.declared.note.Note.TheVariants.{Dismissed}
use Rattle.audit_serve_ready.specs.Slot.{SlotData, client_of, closed}
use Rattle.audit_serve_ready.specs.Places.{slot_at, IsServedAt, IsReadyPass, ServesPlaces, WritesPlaces}
use Rattle.audit_serve_ready.specs.Reading.{ReadsPlaces}
use Rattle.audit_serve_ready.specs.Backlog.{TakesTurn}
use Rattle.audit_serve_ready.specs.Clients.{a_pass, next_first, ServesClients}
use Rattle.audit_serve_ready.specs.Rounds.{AsksDoor, IsJudgedByDoor, JudgesClients, ServesPass}
use Rattle.audit_serve_ready.proofs.Accounts.{served_elsewhere}
use Rattle.audit_serve_ready.proofs.Sending.{closed_accounted, unread_closed}
use Rattle.audit_serve_ready.proofs.Passes.{pass_then}
use Rattle.audit_serve_ready.proofs.Changes.{one_change}

module _ {S : Type 0} (N : CallModel S) where
  closed_served : (k : ℕ) (slot : SlotData S) → IsServedAt N k [] [] [] [] slot (closed Dismissed slot)
  closed_served k slot = record { read = ap (λ (bytes : List ℕ). bytes ++ []) (sym (unread_closed Dismissed slot)); ends = inl refl; accounted = closed_accounted N Dismissed slot }

  judged_served : (k : ℕ) (client : Option S) (told : List (DoorCall S)) (slot now : SlotData S) → IsJudgedByDoor k client told slot now → IsServedAt N k [] [] [] [] slot now
  judged_served k None told slot now (none, is) = subst (IsServedAt N k [] [] [] [] slot) (sym is) (served_elsewhere N k [] slot tt)
  judged_served k (Some client) told slot now (true, told_is, is) = subst (IsServedAt N k [] [] [] [] slot) (sym is) (closed_served k slot)
  judged_served k (Some client) told slot now (false, told_is, is) = subst (IsServedAt N k [] [] [] [] slot) (sym is) (served_elsewhere N k [] slot tt)

module _ {C D S : Type 0} (M : CoreModel C) (N : CallModel S) (E : DoorModel D S) where
  judged_pass : (was now : D) (core : C) (before after : List (SlotData S)) → JudgesClients E (length before) was now before after → IsReadyPass N (M.DidSteps core core) no_bytes [] no_bytes no_calls before after
  judged_pass was now core before after judges = record {
    count = judges.same;
    did = M.nothing_done core;
    others = λ k above. refl;
    at = λ k within. judged_served N k (client_of (slot_at k before)) (judges.told k) (slot_at k before) (slot_at k after) (judges.at k within);
  }

  pub judged_serves : (was now : D) (core : C) (before after : List (SlotData S)) → JudgesClients E (length before) was now before after → ServesPlaces N (M.DidSteps core core) no_bytes before after
  judged_serves was now core before after judges = record { steps = []; taken = no_bytes; calls = no_calls; pass = judged_pass was now core before after judges }

  pub reads_serve : {backlog : ℕ} {moved : Bool} (steps : List StepData) (calls : ℕ → List StreamCall) (old new : C) (before after : List (SlotData S)) → ReadsPlaces M N backlog moved steps calls old new before after → ServesPlaces N (M.DidSteps old new) no_bytes before after
  reads_serve steps calls old new before after reads = record { steps = steps; taken = no_bytes; calls = calls; pass = reads.pass }

  read_pass : {backlog : ℕ} {moved : Bool} (was now : D) (steps : List StepData) (calls : ℕ → List StreamCall) (old new : C) (before judged after : List (SlotData S)) → JudgesClients E (length before) was now before judged → ReadsPlaces M N backlog moved steps calls old new judged after
      → IsReadyPass N (M.DidSteps old new) no_bytes steps no_bytes calls before after
  read_pass was now steps calls old new before judged after judges reads =
      pass_then N {First = M.DidSteps old old} {Next = M.DidSteps old new} {Both = M.DidSteps old new} no_bytes [] steps no_bytes no_bytes no_calls calls before judged after (judged_pass was now old before judged judges) reads.pass
      (λ did then_. M.more_done old old new [] steps no_bytes no_bytes did then_)

  flush_pass : (old new : C) (slots : List (SlotData S)) → M.DidSteps old new (a_flush ∷ []) no_bytes → IsReadyPass N (M.DidSteps old new) no_bytes (a_flush ∷ []) no_bytes no_calls slots slots
  flush_pass old new slots did = record { count = refl; did = did; others = λ k above. refl; at = λ k within. served_elsewhere N k (a_flush ∷ []) (slot_at k slots) ((λ about. about), tt) }

  idle_pass : (core : C) (slots : List (SlotData S)) → IsReadyPass N (M.DidSteps core core) no_bytes [] no_bytes no_calls slots slots
  idle_pass core slots = record { count = refl; did = M.nothing_done core; others = λ k above. refl; at = λ k within. served_elsewhere N k [] (slot_at k slots) tt }

  -- judged, read, flushed and written
  pub whole_pass : {backlog : ℕ} {moved : Bool} (was now : D) (turns : List StepData) (reads : ℕ → List StreamCall) (taken : ℕ → List ℕ) (writes : ℕ → List StreamCall) (old mid flushed new : C) (before judged between after : List (SlotData S)) → JudgesClients E (length before) was now before judged
      → ReadsPlaces M N backlog moved turns reads old mid judged between → M.DidSteps mid flushed (a_flush ∷ []) no_bytes → IsReadyPass N (M.DidSteps flushed new) no_bytes [] taken writes between after
      → IsReadyPass N (M.DidSteps old new) no_bytes (turns ++ a_flush ∷ []) taken (λ k. reads k ++ writes k) before after
  whole_pass was now turns reads taken writes old mid flushed new before judged between after judges reading flush writing =
      pass_then N {First = M.DidSteps old mid} {Next = M.DidSteps mid new} {Both = M.DidSteps old new} no_bytes turns (a_flush ∷ []) no_bytes taken reads writes before between after (read_pass was now turns reads old mid before judged between judges reading)
      (pass_then N {First = M.DidSteps mid flushed} {Next = M.DidSteps flushed new} {Both = M.DidSteps mid new} no_bytes (a_flush ∷ []) [] no_bytes taken no_calls writes between between after (flush_pass mid flushed between flush) writing
      (λ did then_. M.more_done mid flushed new (a_flush ∷ []) [] no_bytes taken did then_)) (λ did then_. M.more_done old mid new turns (a_flush ∷ []) no_bytes taken did then_)

  module _ (backlog : ℕ) where
    unfoldable pub written_pass : (was_read was_written : Bool) (first : ℕ) (was heard gathered now : D) (old mid flushed new : C) (before judged between after : List (SlotData S)) (turns : List StepData) (reads : ℕ → List StreamCall) (taken : ℕ → List ℕ) (writes : ℕ → List StreamCall)
        → JudgesClients E (length before) was heard before judged → AsksDoor E heard gathered → ReadsPlaces M N backlog was_read turns reads old mid judged between → M.DidSteps mid flushed (a_flush ∷ []) no_bytes → E.DidCalls gathered now (a_release true ∷ [])
        → WritesPlaces N (M.DidSteps flushed new) was_written (length between) taken writes between after → M.Idle new → (first < length before → TakesTurn M backlog first old (slot_at first before) (slot_at first after)) → ServesPass M N E backlog true first was now old new before after
    written_pass was_read was_written first was heard gathered now old mid flushed new before judged between after turns reads taken writes judges asks reading flush released writing idle turn = record {
      heard = heard;
      judged = judged;
      judges = judges;
      gathered = gathered;
      asks = asks;
      turns = turns;
      reads = reads;
      mid = mid;
      between = between;
      was_read = was_read;
      reading = reading;
      flushed = flushed;
      flush = flush;
      released = released;
      taken = taken;
      writes = writes;
      was_written = was_written;
      writing = writing;
      pass = record { served = whole_pass was heard turns reads taken writes old mid flushed new before judged between after judges reading flush writing.pass; answered = idle; turn = turn };
    }

    pub withheld_pass : (was_read : Bool) (first : ℕ) (was heard gathered now : D) (old mid flushed : C) (before judged between : List (SlotData S)) (turns : List StepData) (reads : ℕ → List StreamCall) → JudgesClients E (length before) was heard before judged → AsksDoor E heard gathered
        → ReadsPlaces M N backlog was_read turns reads old mid judged between → M.DidSteps mid flushed (a_flush ∷ []) no_bytes → E.DidCalls gathered now (a_release false ∷ []) → M.Idle flushed
        → (first < length before → TakesTurn M backlog first old (slot_at first before) (slot_at first between)) → ServesPass M N E backlog false first was now old flushed before between
    withheld_pass was_read first was heard gathered now old mid flushed before judged between turns reads judges asks reading flush released idle turn = record {
      heard = heard;
      judged = judged;
      judges = judges;
      gathered = gathered;
      asks = asks;
      turns = turns;
      reads = reads;
      mid = mid;
      between = between;
      was_read = was_read;
      reading = reading;
      flushed = flushed;
      flush = flush;
      released = released;
      taken = no_bytes;
      writes = no_calls;
      was_written = false;
      writing = (refl, refl, λ k. (refl, refl));
      pass = record { served = whole_pass was heard turns reads no_bytes no_calls old mid flushed flushed before judged between between judges reading flush (idle_pass flushed between); answered = idle; turn = turn };
    }

    -- a pass is a change
    pub pass_serves : (leaves : Bool) (first : ℕ) (was now : D) (old new : C) (before after : List (SlotData S)) → ServesPass M N E backlog leaves first was now old new before after → ServesClients M N backlog first (next_first first) old new before after
    pass_serves leaves first was now old new before after pass = one_change M N backlog first old new before after (a_pass (pass.turns ++ a_flush ∷ []) pass.taken (λ k. pass.reads k ++ pass.writes k)) pass.pass
