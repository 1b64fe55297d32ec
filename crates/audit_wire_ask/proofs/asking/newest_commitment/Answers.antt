use Rattle.std.proofs.Common.{inr}
use Rattle.std.proofs.lemmas.Result.{err_from_is_err_and}
use Rattle.audit_wire_ask.proofs.Failures.{fails_to_ask, otherwise}
use Rattle.audit_wire_ask.proofs.asking.newest_commitment.Goals as goal

pub returns-in_err-given-clause-fault : goal.returns-in_err-given-clause-fault
returns-in_err-given-clause-fault g c =
    let p = err_from_is_err_and c.from_residual.result c.from_residual.ensures.1 in
    rw (p.1, p.2) (fails_to_ask _ _ _ _ _ _ _ _ c.in_err-given.ensures.fault)

pub returns-in_err-newest-clause-fault : goal.returns-in_err-newest-clause-fault
returns-in_err-newest-clause-fault g c =
    let p = err_from_is_err_and c.from_residual-in_err-newest.result c.from_residual-in_err-newest.ensures.1 in
    rw (p.1, p.2) (inr (otherwise _ _ _ _ _ _ _ _ _ c.in_ok-given.ensures.heard c.in_err-newest.ensures.fault))
