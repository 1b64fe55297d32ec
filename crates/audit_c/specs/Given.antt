-- What C hands in.
use Rattle.audit_proof.specs.declared.commitment.Commitment.{Commitment}
use Rattle.audit_c.specs.declared.commitment.GivenCommitment.{GivenCommitment}

-- the commitment
abbrev pub given : GivenCommitment → Commitment
given c = record { count = c.count; root = c.root }
