use Rattle.audit_proof.specs.ProofBytes.{number_bytes}
use Rattle.audit_proof.proofs.bytes.number_to_bytes.Goals as goal

pub returns : goal.returns
unfolding number_bytes
returns c = c.to_be_bytes.ensures
