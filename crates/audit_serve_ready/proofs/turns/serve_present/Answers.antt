use Rattle.std.proofs.Common.{◌<◌, [], ◌∷◌, length, refl, subst, rules, arith}
use Rattle.audit_serve_passes.specs.Steps.{a_flush}
use Rattle.audit_serve_passes.specs.Core.{no_bytes}
use Rattle.audit_serve_passes.proofs.Turns.{if_err}
use Rattle.audit_serve_ready.proofs.Passes.{serves_more, stops_more, flush_stopped_at}
use Rattle.audit_serve_ready.proofs.Changes.{if_err_is}
use Rattle.audit_serve_ready.proofs.TurnByTurn.{neither_of, one_of}
use Rattle.audit_serve_ready.proofs.Stages.{judged_serves, reads_serve, written_pass, withheld_pass}
use Rattle.audit_serve_ready.proofs.Bounds.{owes_in, within_flushed, written_after, takes_turn}
use Rattle.audit_serve_ready.specs.Places.{slot_at}
use Rattle.audit_serve_ready.proofs.turns.serve_present.Goals as goal
use Rattle.audit_serve_ready.proofs.turns.serve_present.Goals.{then-was_read-was_written, else-was_read-was_written}

pub returns-in_err-was_read-clause-stopped : goal.returns-in_err-was_read-clause-stopped
returns-in_err-was_read-clause-stopped g c =
    if_err c.from_residual.result
    (stops_more g.C.SessionCore.model g.D.Stream.ReadyStream.calls c.args.core.now c.args.core.now c.gather.new.core c.args.slots.now c.dismiss.new.slots c.gather.new.slots
    (judged_serves g.C.SessionCore.model g.D.Stream.ReadyStream.calls g.D.Door.calls c.args.door.now c.dismiss.new.door c.args.core.now c.args.slots.now c.dismiss.new.slots c.dismiss.ensures.judges) c.in_err-was_read.ensures.stopped)

pub returns-in_err-flush-clause-stopped : goal.returns-in_err-flush-clause-stopped
returns-in_err-flush-clause-stopped g c =
    let M = g.C.SessionCore.model in
    let N = g.D.Stream.ReadyStream.calls in
    let core = c.args.core.now in
    let mid = c.gather.new.core in
    let begun = c.args.slots.now in
    let between = c.gather.new.slots in
    if_err c.from_residual-in_err-flush.result
    (stops_more M N core mid c.flush.new.self begun between between (serves_more M N core core mid begun c.dismiss.new.slots between (judged_serves M N g.D.Door.calls c.args.door.now c.dismiss.new.door core begun c.dismiss.new.slots c.dismiss.ensures.judges)
    (reads_serve M N g.D.Door.calls c.in_ok-was_read.ensures.done.0 c.in_ok-was_read.ensures.done.1 core mid c.dismiss.new.slots between c.in_ok-was_read.ensures.done.2))
    (flush_stopped_at M N mid c.flush.new.self between c.flush.ensures.reaches))

pub returns-in_err-flush-clause-refused : goal.returns-in_err-flush-clause-refused
returns-in_err-flush-clause-refused g c =
    let read = c.in_ok-was_read.ensures.done in
    if_err_is c.from_residual-in_err-flush.result λ error is.
    subst (g.C.SessionCore.refuses c.args.core.now c.flush.new.self) (search (rules, is))
    (g.met.C.SessionCore.refuses_after c.args.core.now c.gather.new.core c.flush.new.self read.0 no_bytes _ read.2.pass.did c.in_err-flush.ensures.refused)

pub returns-clause-turn : goal.returns-clause-turn
returns-clause-turn g c =
    let M = g.C.SessionCore.model in
    let N = g.D.Stream.ReadyStream.calls in
    let k = c.args.first in λ below.
    let there : k < length c.dismiss.new.slots = omega (arith, below, c.dismiss.auto.slots) in
    let gathered : k < length c.gather.new.slots = omega (arith, there, c.gather.auto.slots) in
    takes_turn M c.args.backlog k c.args.core.now (slot_at k c.args.slots.now) (slot_at k c.dismiss.new.slots) (slot_at k c.gather.new.slots) (slot_at k c.write_turns-was_written.new.slots) (c.dismiss.ensures.each k)
    (λ mute. c.write_turns-was_written.ensures.mute k ((c.in_ok-was_read.ensures.done.2.pass.at k there).accounted.mute mute)) (c.write_turns-was_written.ensures.unread k) (c.in_ok-was_read.ensures.asked there)

pub returns-then-not-lets_reply-clause-turn : goal.returns-then-not-lets_reply-clause-turn
returns-then-not-lets_reply-clause-turn g c =
    let M = g.C.SessionCore.model in
    let k = c.args.first in λ below.
    let there : k < length c.dismiss.new.slots = omega (arith, below, c.dismiss.auto.slots) in
    takes_turn M c.args.backlog k c.args.core.now (slot_at k c.args.slots.now) (slot_at k c.dismiss.new.slots) (slot_at k c.gather.new.slots) (slot_at k c.gather.new.slots) (c.dismiss.ensures.each k)
    (λ mute. (c.in_ok-was_read.ensures.done.2.pass.at k there).accounted.mute mute) refl (c.in_ok-was_read.ensures.asked there)

pub returns-clause-pass : goal.returns-clause-pass
unfolding written_pass
returns-clause-pass g c = λ apart.
    let read = c.in_ok-was_read.ensures.done in
    let written = c.write_turns-was_written.ensures.done in (
      written_pass g.C.SessionCore.model g.D.Stream.ReadyStream.calls g.D.Door.calls c.args.backlog c.in_ok-was_read.was_read c.write_turns-was_written.result c.args.first c.args.door.now c.dismiss.new.door c.gather.new.door c.lets_reply.new.self c.args.core.now c.gather.new.core c.flush.new.self c.write_turns-was_written.new.core
          c.args.slots.now c.dismiss.new.slots c.gather.new.slots c.write_turns-was_written.new.slots read.0 read.1 written.0 written.1 c.dismiss.ensures.judges c.in_ok-was_read.ensures.askings read.2 c.in_ok-flush.ensures.did c.if-not-lets_reply.ensures written.2
          (c.write_turns-was_written.ensures.idle c.in_ok-flush.ensures.idle) (returns-clause-turn g c),
      λ idle. elim c.if-was_read-was_written.branch [
        | then-was_read-was_written w ↦ absurd (cc (w.result-is, idle))
        | else-was_read-was_written w ↦ neither_of c.in_ok-was_read.was_read c.write_turns-was_written.result (search rules)
      ],
      λ moving. elim c.if-was_read-was_written.branch [
        | then-was_read-was_written w ↦ one_of c.in_ok-was_read.was_read c.write_turns-was_written.result (search rules)
        | else-was_read-was_written w ↦ absurd (cc (w.result-is, moving))
      ],
    )

pub returns-clause-withheld : goal.returns-clause-withheld
returns-clause-withheld g c = λ is. elim c.if-was_read-was_written.branch [
  | then-was_read-was_written w ↦ absurd (cc (w.result-is, is))
  | else-was_read-was_written w ↦ absurd (cc (w.result-is, is))
]

pub returns-then-not-lets_reply-clause-pass : goal.returns-then-not-lets_reply-clause-pass
returns-then-not-lets_reply-clause-pass g c = λ apart. absurd (apart refl)

pub returns-then-not-lets_reply-clause-withheld : goal.returns-then-not-lets_reply-clause-withheld
returns-then-not-lets_reply-clause-withheld g c = λ is.
    let read = c.in_ok-was_read.ensures.done in
    withheld_pass g.C.SessionCore.model g.D.Stream.ReadyStream.calls g.D.Door.calls c.args.backlog c.in_ok-was_read.was_read c.args.first c.args.door.now c.dismiss.new.door c.gather.new.door c.lets_reply.new.self c.args.core.now c.gather.new.core c.flush.new.self c.args.slots.now c.dismiss.new.slots c.gather.new.slots
    read.0 read.1 c.dismiss.ensures.judges c.in_ok-was_read.ensures.askings read.2 c.in_ok-flush.ensures.did c.if-not-lets_reply.ensures c.in_ok-flush.ensures.idle (returns-then-not-lets_reply-clause-turn g c)

pub returns-clause-within : goal.returns-clause-within
returns-clause-within g c =
    let M = g.C.SessionCore.model in
    let backlog = c.args.backlog in
    λ nothing inside.
    written_after M backlog c.gather.new.core c.flush.new.self c.write_turns-was_written.new.core c.gather.new.slots c.write_turns-was_written.new.slots c.in_ok-flush.ensures.owes c.in_ok-flush.ensures.did
    (c.write_turns-was_written.ensures.within backlog c.in_ok-flush.ensures.idle)
    (c.in_ok-was_read.ensures.within (owes_in M backlog c.dismiss.new.slots c.args.slots.now c.args.core.now c.dismiss.auto.slots nothing) (c.dismiss.ensures.within backlog inside))

pub returns-then-not-lets_reply-clause-within : goal.returns-then-not-lets_reply-clause-within
returns-then-not-lets_reply-clause-within g c =
    let M = g.C.SessionCore.model in
    let backlog = c.args.backlog in
    λ nothing inside.
    within_flushed M backlog c.gather.new.core c.flush.new.self c.gather.new.slots (a_flush ∷ []) no_bytes c.in_ok-flush.ensures.owes c.in_ok-flush.ensures.did
    (c.in_ok-was_read.ensures.within (owes_in M backlog c.dismiss.new.slots c.args.slots.now c.args.core.now c.dismiss.auto.slots nothing) (c.dismiss.ensures.within backlog inside))
