use Rattle.std.proofs.Common.{[]}
use Rattle.audit_serve_passes.specs.Transition.{Transition, AreVisitsBelow}
use Rattle.audit_serve_passes.proofs.reading.read_turns.Given as goal

abbrev pub invariant-loop-session : goal.invariant-loop-session
invariant-loop-session g l =
    Transition g.C.SessionCore.model g.S.SessionStream.model l.fn.core l.core l.fn.streams l.streams (λ calls. AreVisitsBelow l.session (g.C.SessionCore.model.ended l.fn.core []))
