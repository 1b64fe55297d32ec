use Rattle.audit_serve_passes.specs.Transition.{Transition, AreTaken}
use Rattle.audit_serve_passes.proofs.writing.write_turns.Given as goal

abbrev pub invariant-loop-session : goal.invariant-loop-session
invariant-loop-session g l =
    Transition g.C.SessionCore.model g.S.SessionStream.model l.fn.core l.core l.fn.streams l.streams (AreTaken g.C.SessionCore.model l.session l.fn.core l.core)
