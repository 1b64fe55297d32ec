use Rattle.audit_proof.proofs.OneReading.{member_reading, increment_reading}
use Rattle.audit_proof.proofs.laws.one_reading_of_proof_bytes.Goals as goal

pub returns-clause-member : goal.returns-clause-member
returns-clause-member c = member_reading

pub returns-clause-increment : goal.returns-clause-increment
returns-clause-increment c = increment_reading
