use Rattle.std.proofs.Common.{◌∙◌, sym, rules}
use Rattle.audit_serve_passes.proofs.Reaching.{done_reached, cut_reached, reached_any}
use Rattle.audit_serve_passes.proofs.serving.serve.Goals.{in-Ok-true, in-Ok-false, in-Err}
use Rattle.audit_serve_passes.proofs.serving.serve.Goals as goal

pub returns-clause-reaches : goal.returns-clause-reaches
returns-clause-reaches g c =
    let M = g.C.SessionCore.model in
    let N = g.S.SessionStream.model in
    elim c.match-serve_all.branch [
      | in-Ok-true w ↦ cut_reached M N c.args.core.now c.serve_all.new.core c.args.streams.now c.serve_all.new.streams (w.in-Ok-true.ensures.cut (search (rules, w))).1
      | in-Ok-false w ↦ done_reached M N c.args.core.now c.serve_all.new.core c.args.streams.now c.serve_all.new.streams (w.in-Ok-false.ensures.served (search (rules, w)))
      | in-Err w ↦ reached_any M N c.args.core.now c.serve_all.new.core c.args.streams.now c.serve_all.new.streams w.in-Err.ensures.stopped
    ]

pub returns-clause-cut : goal.returns-clause-cut
returns-clause-cut g c =
    λ is. elim c.match-serve_all.branch [
      | in-Ok-true w ↦ w.in-Ok-true.ensures.cut (search (rules, w))
      | in-Ok-false w ↦ absurd (cc (sym w.fault-is ∙ is))
      | in-Err w ↦ absurd (cc (sym w.fault-is ∙ is))
    ]
