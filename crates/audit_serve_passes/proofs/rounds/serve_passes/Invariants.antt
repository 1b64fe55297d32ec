use Rattle.std.proofs.Common.{◌≡◌, length}
use Rattle.audit_serve_passes.specs.Rounds.{ArePasses}
use Rattle.audit_serve_passes.specs.Transition.{Transition, closed_by}
use Rattle.audit_serve_passes.proofs.rounds.serve_passes.Given as goal

abbrev pub invariant-loop-round : goal.invariant-loop-round
invariant-loop-round g l =
    (l.turns ≡ l.round) × Transition g.C.SessionCore.model g.S.SessionStream.model l.fn.core l.core l.fn.streams l.streams
    (λ calls. ArePasses (length l.fn.streams) (g.C.SessionCore.model.ended l.fn.core) (closed_by calls) l.round)
