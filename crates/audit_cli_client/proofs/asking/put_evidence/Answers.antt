use Rattle.audit_cli_client.proofs.AskedQuestions.{given_of}
use Rattle.audit_cli_client.proofs.asking.put_evidence.Goals as goal

pub returns-in-Entry-clause-given : goal.returns-in-Entry-clause-given
returns-in-Entry-clause-given g c = rw c.in-Entry.is (given_of c.put_entry.result _ _ c.put_entry.ensures.done)

pub returns-in-Entry-clause-fault : goal.returns-in-Entry-clause-fault
returns-in-Entry-clause-fault g c = rw c.in-Entry.is c.put_entry.ensures.fault
