use Rattle.std.proofs.Common.{arith, take, sym, ap, ◌∙◌, ◌++◌}
use Rattle.std.proofs.lemmas.List.{take-append-drop}
use Rattle.std.proofs.lemmas.Grind.{common_steps}
use Rattle.std.proofs.lemmas.Result.{err_from_is_err_and}
use Rattle.audit_text.proofs.Writing.{written_more}
use Rattle.audit_wire_ask.proofs.Conversations.{front_left, kept_same}
use Rattle.audit_wire_ask.proofs.conversation.send_rest.Goals as goal

pub loop-preserved : goal.loop-preserved
loop-preserved g c =
    let written = c.in_ok-written.written in
    let rest = c.loop.rest.now in
    record {
      written = written_more _ _ _ (take written rest) _ _ _ c.loop.invariant.written
          (sym (take-append-drop written rest) ∙ ap (λ left. take written rest ++ left) (sym c.split_at.ensures.back)) c.in_ok-written.ensures.written;
      some = grind (arith, common_steps);
    }

pub returns-in_err-written-clause-part : goal.returns-in_err-written-clause-part
returns-in_err-written-clause-part g c =
    let p = err_from_is_err_and c.from_residual.result c.from_residual.ensures.1 in
    rw p.1 (front_left _ _ _ _ _ c.loop.invariant.written c.in_err-written.ensures.kept c.loop.invariant.some)

pub returns-clause-part : goal.returns-clause-part
returns-clause-part g c = front_left _ _ _ _ _ c.loop.invariant.written (kept_same _) c.loop.invariant.some
