use Rattle.std.proofs.lemmas.Result.{err_from_is_err_and}
use Rattle.audit_wire_ask.proofs.Failures.{fails_to_join}
use Rattle.audit_wire_ask.proofs.asking.join_by.Goals as goal

pub returns-in_err-proof-clause-fault : goal.returns-in_err-proof-clause-fault
returns-in_err-proof-clause-fault g c =
    let p = err_from_is_err_and c.from_residual.result c.from_residual.ensures.1 in
    rw (p.1, p.2) (fails_to_join _ _ _ _ _ _ _ _ c.in_err-proof.ensures.fault)
