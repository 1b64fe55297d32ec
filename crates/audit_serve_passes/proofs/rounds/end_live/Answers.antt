use Rattle.std.proofs.Common.{◌≡◌, ℕ, suc, [], true, false, sym, subst, rules, add-one}
use Rattle.audit_serve_passes.specs.Transition.{CoreTransition, AreEndsBelow}
use Rattle.audit_serve_passes.proofs.Runs.{no_ends, end_more, end_skipped}
use Rattle.audit_serve_passes.proofs.Turns.{if_err}
use Rattle.audit_serve_passes.proofs.Reaching.{end_stops}
use Rattle.audit_serve_passes.proofs.rounds.end_live.Goals as goal
use Rattle.audit_serve_passes.proofs.rounds.end_live.Goals.{then-not-ended+in_ok-end, else-not-ended}

pub loop-session-init : goal.loop-session-init
loop-session-init g c = no_ends g.C.SessionCore.model c.args.core.now

pub loop-session-preserved : goal.loop-session-preserved
loop-session-preserved g c =
    let M = g.C.SessionCore.model in
    let l = c.loop-session in
    subst (λ (count : ℕ). CoreTransition M c.args.core.now c.if-not-ended.core (AreEndsBelow count (M.ended c.args.core.now []))) (sym (add-one l.session))
    (elim c.if-not-ended.branch [
      | then-not-ended+in_ok-end w ↦
          let live : M.ended l.core [] l.session ≡ false = search rules in
          subst (λ core. CoreTransition M c.args.core.now core (AreEndsBelow (suc l.session) (M.ended c.args.core.now []))) (sym w.core-is)
          (end_more M l.session c.args.core.now l.core w.end.new.self l.invariant live w.in_ok-end.ensures.did)
      | else-not-ended w ↦
          let over : M.ended l.core [] l.session ≡ true = search rules in
          subst (λ core. CoreTransition M c.args.core.now core (AreEndsBelow (suc l.session) (M.ended c.args.core.now []))) (sym w.core-is)
          (end_skipped M l.session c.args.core.now l.core l.invariant over)
    ])

pub returns-in_err-end-clause-stopped : goal.returns-in_err-end-clause-stopped
returns-in_err-end-clause-stopped g c =
    let M = g.C.SessionCore.model in
    let l = c.loop-session in
    let live : M.ended l.core [] l.session ≡ false = search rules in
    if_err c.from_residual.result
    (end_stops M c.args.count l.session c.args.core.now l.core c.end.new.self l.invariant live (search rules) c.end.ensures.reaches)
