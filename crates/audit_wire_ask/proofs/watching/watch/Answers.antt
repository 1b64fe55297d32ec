use Rattle.std.proofs.Common.{refl, inl, inr, arith}
use Rattle.std.proofs.lemmas.Result.{err_from_is_err_and}
use Rattle.audit_wire_ask.proofs.Conversations.{converses_more}
use Rattle.audit_wire_ask.proofs.Failures.{fails_to_join_after}
use Rattle.audit_wire_ask.proofs.watching.watch.Goals as goal

pub returns-in-Ok-clause-seen : goal.returns-in-Ok-clause-seen
returns-in-Ok-clause-seen g c =
    let j = c.in-Ok.ensures.done in
    rw c.in-Some.is (
      omega (arith, c.if-newest-kept.false, c.if-newest-kept-2.false),
      inr (omega arith, (j.0, converses_more _ _ _ _ _ _ _ _ _ _ c.in_ok-newest.ensures.done j.1, j.2, j.3)),
    )

pub returns-in_err-newest-clause-fault : goal.returns-in_err-newest-clause-fault
returns-in_err-newest-clause-fault g c =
    let p = err_from_is_err_and c.from_residual.result c.from_residual.ensures.1 in
    rw (p.1, p.2) (inl (refl, c.in_err-newest.ensures.fault))

pub returns-in-Err-clause-fault : goal.returns-in-Err-clause-fault
returns-in-Err-clause-fault g c =
    rw c.in-Some.is (inr (
      c.in_ok-newest.newest,
      c.in-Some.kept,
      refl,
      c.not_seen-in-Err.ensures.given,
      rw c.not_seen-in-Err.ensures.error (fails_to_join_after _ _ _ _ _ _ _ _ _ c.in_ok-newest.ensures.done (λ none. omega arith) (λ fewer. omega arith) (λ same. omega arith) c.in-Err.ensures.fault),
    ))
