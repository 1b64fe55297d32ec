use Rattle.std.proofs.Common.{◌≡◌, length}
use Rattle.audit_serve_passes.specs.declared.limits.TheConstants.{MAX_PIECE}
use Rattle.audit_serve_passes.specs.Transition.{CoreTransition}
use Rattle.audit_serve_sockets.specs.Looping.{Brings}
use Rattle.audit_serve_sockets.proofs.looping.send.Given as goal

-- all bytes except the rest were fed
abbrev pub invariant-loop-rest : goal.invariant-loop-rest
invariant-loop-rest g l = record {
  fed : CoreTransition g.C.SessionCore.model l.fn.core l.core (Brings l.fn.bytes l.rest);
  room : length l.buffer ≡ MAX_PIECE;
}

abbrev pub decreases-loop-rest : goal.decreases-loop-rest
decreases-loop-rest g l = length l.rest
