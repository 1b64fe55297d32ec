use Rattle.std.proofs.Common.{[]}
use Rattle.audit_serve_passes.specs.Transition.{CoreTransition, AreEndsBelow}
use Rattle.audit_serve_passes.proofs.rounds.end_live.Given as goal

abbrev pub invariant-loop-session : goal.invariant-loop-session
invariant-loop-session g l = CoreTransition g.C.SessionCore.model l.fn.core l.core (AreEndsBelow l.session (g.C.SessionCore.model.ended l.fn.core []))
