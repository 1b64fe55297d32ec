use Rattle.std.proofs.Common.{◌++◌, ◌∷◌, [], refl, arith, Some, None, Err, ◌≡◌, inl, inr, rules}
use Rattle.std.proofs.lemmas.List.{length-append}
use Rattle.audit_serve_sockets.specs.declared.loop_fault.LoopError.TheVariants.{Connection}
use Rattle.audit_serve_sockets.specs.FrameLine.{bytes_of_line}
use Rattle.audit_serve_sockets.proofs.Feeding.{no_line, line_served}
use Rattle.audit_serve_sockets.proofs.Inputs.{none_spelled, line_spelled, all_spelled, bad_spelled}
use Rattle.audit_serve_sockets.proofs.Reaching.{spelled_first, lines_reached, send_stopped, reply_stopped, cut_off_after}
use Rattle.audit_serve_sockets.proofs.looping.serve_lines.Goals as goal

pub loop-number-init : goal.loop-number-init
loop-number-init g c = record {
  served = ([], refl, no_line c.args.core.now (g.W.LineOutput.contents c.args.writer.now), none_spelled (g.R.LineInput.remaining c.args.reader.now));
  room = c.requires.room;
}

pub returns-then-not-branch-clause-done : goal.returns-then-not-branch-clause-done
returns-then-not-branch-clause-done g c =
    let so_far = c.loop-number.invariant.served in
    let ended = c.in_ok-next_line.ensures.none (search rules) in
    (so_far.0, so_far.2, all_spelled _ _ so_far.0 so_far.3 ended)

pub returns-in_default-clause-bad : goal.returns-in_default-clause-bad
returns-in_default-clause-bad g c = λ number is.
    let so_far = c.loop-number.invariant.served in
    let read = c.in_ok-next_line.ensures.read (search rules) in
    let says : bytes_of_line c.next_line.new.line.items ≡ None = search rules in
    let same : c.loop-number.number ≡ number = cc is in
    (so_far.0, omega (arith, so_far.1, same), so_far.2, bad_spelled _ _ _ so_far.0 c.next_line.new.line.items so_far.3 read says)

pub returns-in_err-send-clause-reaches : goal.returns-in_err-send-clause-reaches
returns-in_err-send-clause-reaches g c =
    let so_far = c.loop-number.invariant.served in
    let bytes = c.deref-in-loop-number.result.now in
    let known = g.R.LineInput.remaining c.args.reader.now in
    let read = c.in_ok-next_line.ensures.read (search rules) in
    let says : bytes_of_line c.next_line.new.line.items ≡ Some bytes = search rules in
    send_stopped c.args.core.now c.loop-number.core c.send.new.core known so_far.0 bytes so_far.2 c.send.ensures.reaches
    (spelled_first known (g.R.LineInput.remaining c.next_line.new.reader) (so_far.0 ++ bytes ∷ [])
    (line_spelled known (g.R.LineInput.remaining c.loop-number.reader) (g.R.LineInput.remaining c.next_line.new.reader) so_far.0 c.next_line.new.line.items bytes so_far.3 read says))

pub returns-in_err-reply-clause-reaches : goal.returns-in_err-reply-clause-reaches
returns-in_err-reply-clause-reaches g c =
    let so_far = c.loop-number.invariant.served in
    let bytes = c.deref-in-loop-number.result.now in
    let known = g.R.LineInput.remaining c.args.reader.now in
    let read = c.in_ok-next_line.ensures.read (search rules) in
    let says : bytes_of_line c.next_line.new.line.items ≡ Some bytes = search rules in
    reply_stopped c.args.core.now c.loop-number.core c.send.new.core c.reply.new.core known so_far.0 bytes so_far.2 c.in_ok-send.ensures.done c.reply.ensures.reaches
    (spelled_first known (g.R.LineInput.remaining c.next_line.new.reader) (so_far.0 ++ bytes ∷ [])
    (line_spelled known (g.R.LineInput.remaining c.loop-number.reader) (g.R.LineInput.remaining c.next_line.new.reader) so_far.0 c.next_line.new.line.items bytes so_far.3 read says))

pub loop-number-preserved : goal.loop-number-preserved
loop-number-preserved g c =
    let so_far = c.loop-number.invariant.served in
    let bytes = c.deref-in-loop-number.result.now in
    let read = c.in_ok-next_line.ensures.read (search rules) in
    let says : bytes_of_line c.next_line.new.line.items ≡ Some bytes = search rules in
    record {
      served = (
        so_far.0 ++ bytes ∷ [],
        omega (arith, so_far.1, length-append so_far.0 (bytes ∷ [])),
        line_served c.args.core.now c.loop-number.core c.send.new.core c.reply.new.core _ _ _ so_far.0 bytes so_far.2 c.in_ok-send.ensures.done c.in_ok-reply.ensures.done,
        line_spelled (g.R.LineInput.remaining c.args.reader.now) (g.R.LineInput.remaining c.loop-number.reader) (g.R.LineInput.remaining c.next_line.new.reader) so_far.0 c.next_line.new.line.items bytes so_far.3 read says,
      );
      room = search rules;
    }

pub returns-in_err-next_line-clause-reaches : goal.returns-in_err-next_line-clause-reaches
returns-in_err-next_line-clause-reaches g c =
    let so_far = c.loop-number.invariant.served in
    lines_reached c.args.core.now c.loop-number.core (g.R.LineInput.remaining c.args.reader.now) so_far.0 so_far.2 (spelled_first _ (g.R.LineInput.remaining c.loop-number.reader) so_far.0 so_far.3)

pub returns-then-not-branch-clause-reaches : goal.returns-then-not-branch-clause-reaches
returns-then-not-branch-clause-reaches g c =
    let so_far = c.loop-number.invariant.served in
    lines_reached c.args.core.now c.loop-number.core (g.R.LineInput.remaining c.args.reader.now) so_far.0 so_far.2 (spelled_first _ (g.R.LineInput.remaining c.loop-number.reader) so_far.0 so_far.3)

pub returns-in_err-bytes-clause-reaches : goal.returns-in_err-bytes-clause-reaches
returns-in_err-bytes-clause-reaches g c =
    let so_far = c.loop-number.invariant.served in
    lines_reached c.args.core.now c.loop-number.core (g.R.LineInput.remaining c.args.reader.now) so_far.0 so_far.2 (spelled_first _ (g.R.LineInput.remaining c.loop-number.reader) so_far.0 so_far.3)

pub returns-in_default-clause-reaches : goal.returns-in_default-clause-reaches
returns-in_default-clause-reaches g c =
    let so_far = c.loop-number.invariant.served in
    lines_reached c.args.core.now c.loop-number.core (g.R.LineInput.remaining c.args.reader.now) so_far.0 so_far.2 (spelled_first _ (g.R.LineInput.remaining c.loop-number.reader) so_far.0 so_far.3)

pub returns-clause-reaches : goal.returns-clause-reaches
returns-clause-reaches g c =
    let so_far = c.loop-number.invariant.served in
    lines_reached c.args.core.now c.loop-number.core (g.R.LineInput.remaining c.args.reader.now) so_far.0 so_far.2 (spelled_first _ (g.R.LineInput.remaining c.loop-number.reader) so_far.0 so_far.3)

pub returns-in_err-reply-clause-lost : goal.returns-in_err-reply-clause-lost
returns-in_err-reply-clause-lost g c is =
    let so_far = c.loop-number.invariant.served.2 in
    let sent = c.in_ok-send.ensures.done in
    let lost : c.reply.result ≡ Err Connection = search rules in
    elim (c.reply.ensures.lost lost) [
      | inl piece ↦ inr (inl piece)
      | inr cut ↦ inr (inr (cut_off_after c.args.core.now c.loop-number.core c.reply.new.core so_far.steps so_far.taken so_far.did (cut_off_after c.loop-number.core c.send.new.core c.reply.new.core sent.steps sent.taken sent.did cut)))
    ]
