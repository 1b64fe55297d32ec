use Rattle.audit_wire_ask.proofs.KeptCommitments.{runs_joined}
use Rattle.audit_wire_ask.proofs.laws.runs_of_a_witness_stay_joined.Goals as goal

pub returns : goal.returns
returns c = runs_joined
