use Rattle.std.proofs.Common.{◌+◌, length, map, sym, subst, refl, rules, arith}
use Rattle.audit_base.specs.declared.limits.TheConstants.{SESSIONS}
use Rattle.std.proofs.lemmas.List.{length-set}
use Rattle.std.proofs.Common.{◌≡◌, ◌∙◌}
use Rattle.audit_test_serve.proofs.Replying.{Replying, begins, pushed, skipped, is_idle}
use Rattle.audit_test_serve.proofs.recorder.Recorder.reply.Goals as goal
use Rattle.audit_test_serve.proofs.recorder.Recorder.reply.Goals.{then-self-session+in_ok-push, else-self-session}

pub loop-session-init : goal.loop-session-init
loop-session-init c =
    let i = c.self.inside in
    (subst (λ begun. Replying begun 0 i.ended i.fed (map (λ v. v.items) i.outputs.items)) c.self.view_is (begins _ c.self.told.1), c.self.invariant)

pub loop-session-preserved : goal.loop-session-preserved
loop-session-preserved c =
    let l = c.loop-session in
    let i = l.self-inside in
    let begun = c.args.self.now in
    elim c.if-self-session.branch [
      | then-self-session+in_ok-push w ↦
          subst (λ now. Replying begun (l.session + 1) now.ended now.fed (map (λ v. v.items) now.outputs.items) × (length now.outputs.items ≡ SESSIONS)) (sym w.self-inside-is) (
            pushed begun l.session i.ended i.fed i.outputs.items w.index_mut.result.now w.push.new.self i.total l.invariant.0 (omega (arith, c.loop-session-test.true, l.invariant.1)) (search rules) w.index_mut.ensures.value w.in_ok-push.ensures.items,
            length-set i.outputs.items l.session w.push.new.self ∙ l.invariant.1,
          )
      | else-self-session w ↦
          subst (λ now. Replying begun (l.session + 1) now.ended now.fed (map (λ v. v.items) now.outputs.items) × (length now.outputs.items ≡ SESSIONS)) (sym w.self-inside-is)
          (skipped begun l.session i.ended i.fed (map (λ v. v.items) i.outputs.items) l.invariant.0 (search rules), l.invariant.1)
    ]

pub returns-in_err-push-clause-ended : goal.returns-in_err-push-clause-ended
returns-in_err-push-clause-ended c = c.loop-session.invariant.0.ended_is

pub returns-clause-ended : goal.returns-clause-ended
returns-clause-ended c = c.loop-session.invariant.0.ended_is

pub returns-clause-none : goal.returns-clause-none
returns-clause-none c =
    let l = c.loop-session in
    is_idle c.args.self.now l.session l.self-inside.ended l.self-inside.fed (map (λ v. v.items) l.self-inside.outputs.items) l.invariant.0 (omega (arith, c.loop-session-test.false))

pub returns-clause-owes : goal.returns-clause-owes
returns-clause-owes c = c.loop-session.invariant.0.owes
