use Rattle.std.proofs.Common.{◌≡◌, ◌∙◌, Bool, true, false, ℕ, List, [], ◌∷◌, refl, subst}
use Rattle.audit_serve_passes.specs.Core.{no_bytes}
use Rattle.audit_serve_ready.specs.Door.{a_release}
use Rattle.audit_serve_ready.specs.Rounds.{AnswersWaiting, IsWriting}
use Rattle.audit_serve_ready.specs.Slot.{SlotData}
use Rattle.audit_serve_ready.proofs.answering.answer_waiting.Goals as goal
use Rattle.audit_serve_ready.proofs.answering.answer_waiting.Goals.{then-lets_reply, else-lets_reply}

pub returns-clause-answered : goal.returns-clause-answered
returns-clause-answered g c =
    let M = g.C.SessionCore.model in
    let N = g.D.Stream.ReadyStream.calls in
    let doors = g.D.Door.calls in
    let flushed = c.flush.new.self in
    let released : Bool → Type 0 = λ leaves. doors.DidCalls c.args.door.now c.lets_reply.new.self (a_release leaves ∷ []) in
    elim c.if-lets_reply.branch [
      | then-lets_reply w ↦
          let sent = w.write_turns.ensures.done in
          let writes : IsWriting M N doors 0 true w.write_turns.result flushed w.write_turns.new.core sent.0 sent.1 c.args.slots.now w.write_turns.new.slots = sent.2 in
          record {
            flushed = flushed;
            flush = c.in_ok-flush.ensures.did;
            leaves = true;
            begun = c.lets_reply.new.self;
            released = subst released w.if-lets_reply.true c.lets_reply.ensures;
            taken = sent.0;
            writes = sent.1;
            was_written = w.write_turns.result;
            between = c.if-lets_reply.slots;
            writing = rw (w.core-is, w.slots-is) writes;
            written = c.finish_writing.ensures.written;
          }
      | else-lets_reply w ↦ record {
        flushed = flushed;
        flush = c.in_ok-flush.ensures.did;
        leaves = false;
        begun = c.lets_reply.new.self;
        released = subst released w.if-lets_reply.false c.lets_reply.ensures;
        taken = no_bytes;
        writes = λ k. [];
        was_written = false;
        between = c.if-lets_reply.slots;
        writing = (w.core-is, w.slots-is, λ k. (refl, refl));
        written = c.finish_writing.ensures.written;
      }
    ]
