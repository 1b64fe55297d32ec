use Rattle.std.proofs.Common.{inl, inr, [], ◌∷◌}
use Rattle.audit_serve_passes.specs.Core.{no_bytes}
use Rattle.audit_serve_passes.specs.Steps.{an_end}
use Rattle.audit_serve_sockets.proofs.Feeding.{loop_ended, turned}
use Rattle.audit_serve_sockets.proofs.Reaching.{all_first, end_refused, last_reply_stopped, cut_off_after}
use Rattle.audit_serve_sockets.proofs.looping.run_lines.Goals as goal

pub returns-in-Err-clause-reaches : goal.returns-in-Err-clause-reaches
returns-in-Err-clause-reaches g c =
    let served = c.in_ok-serve_lines.ensures.done in
    end_refused c.args.core.now c.serve_lines.new.core c.end.new.self (g.R.LineInput.remaining c.args.reader.now) served.0 served.1 c.end.ensures.reaches (all_first _ served.0 served.2)

pub returns-clause-reaches : goal.returns-clause-reaches
returns-clause-reaches g c =
    let served = c.in_ok-serve_lines.ensures.done in
    last_reply_stopped c.args.core.now c.serve_lines.new.core c.end.new.self c.reply.new.core (g.R.LineInput.remaining c.args.reader.now) served.0 served.1 c.in_default.ensures.did c.reply.ensures.reaches
    (all_first _ served.0 served.2)

pub returns-clause-done : goal.returns-clause-done
returns-clause-done g c =
    let served = c.in_ok-serve_lines.ensures.done in
    turned c.reply.result c.reply.ensures.done
    (λ replied. (served.0, loop_ended c.args.core.now c.serve_lines.new.core c.end.new.self c.reply.new.core _ _ _ served.0 served.1 c.in_default.ensures.did replied, served.2))

pub returns-clause-lost : goal.returns-clause-lost
returns-clause-lost g c is =
    let served = c.in_ok-serve_lines.ensures.done.1 in
    elim (c.reply.ensures.lost is) [
      | inl piece ↦ inr (inl piece)
      | inr cut ↦ inr (inr (cut_off_after c.args.core.now c.serve_lines.new.core c.reply.new.core served.steps served.taken served.did (cut_off_after c.serve_lines.new.core c.end.new.self c.reply.new.core (an_end 0 ∷ []) no_bytes c.in_default.ensures.did cut)))
    ]
