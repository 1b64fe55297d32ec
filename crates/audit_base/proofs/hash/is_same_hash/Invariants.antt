use Rattle.audit_base.proofs.Differences.{Gathers}
use Rattle.audit_base.proofs.hash.is_same_hash.Given as goal

abbrev pub invariant-loop-place : goal.invariant-loop-place
invariant-loop-place l = Gathers l.difference l.place l.left l.right
