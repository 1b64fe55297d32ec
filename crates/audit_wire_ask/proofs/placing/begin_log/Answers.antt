use Rattle.std.proofs.Common.{inl}
use Rattle.audit_wire_ask.proofs.placing.begin_log.Goals as goal

pub returns-in-Err-clause-fault : goal.returns-in-Err-clause-fault
returns-in-Err-clause-fault g c = inl c.in-Err.ensures.fault
