use Rattle.audit_server.proofs.Steps.{DoneTo}
use Rattle.audit_server.proofs.driving.drive.Given as goal

abbrev pub invariant-loop-number : goal.invariant-loop-number
invariant-loop-number g l = DoneTo l.fn.steps l.number l.fn.core l.core
