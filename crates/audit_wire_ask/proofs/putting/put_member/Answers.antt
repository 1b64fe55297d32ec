use Rattle.std.proofs.Common.{inl}
use Rattle.audit_wire_ask.proofs.PutFiles.{fails_to_put}
use Rattle.audit_wire_ask.proofs.OutputFailures.{member_only}
use Rattle.audit_wire_ask.proofs.putting.put_member.Goals as goal

pub returns-in-Ok-clause-fault : goal.returns-in-Ok-clause-fault
returns-in-Ok-clause-fault g c = fails_to_put _ _ _ _ c.put_bytes.ensures.fault (rw c.deref.ensures.value c.in-Ok.ensures.done)

pub returns-in-Err-clause-fault : goal.returns-in-Err-clause-fault
returns-in-Err-clause-fault g c = inl c.in-Err.ensures.fault

pub returns-in-Err-clause-broken : goal.returns-in-Err-clause-broken
returns-in-Err-clause-broken g c = member_only _ _ c.in-Err.ensures.fault
