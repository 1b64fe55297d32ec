use Rattle.audit_proof.proofs.climb.+climb_from.Given as goal

abbrev pub decreases-climb_from : goal.decreases-climb_from
decreases-climb_from g l = l.way.height
