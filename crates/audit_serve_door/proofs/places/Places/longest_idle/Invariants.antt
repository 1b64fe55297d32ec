use Rattle.audit_serve_door.proofs.Idle.{IsFoundBelow}
use Rattle.audit_serve_door.proofs.places.Places.longest_idle.Given as goal

abbrev pub invariant-loop-place : goal.invariant-loop-place
invariant-loop-place l = IsFoundBelow l.place l.candidates l.self.places l.found
