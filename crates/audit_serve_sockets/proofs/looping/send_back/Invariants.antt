use Rattle.std.proofs.Common.{◌≡◌, ◌++◌, length}
use Rattle.audit_serve_passes.specs.declared.limits.TheConstants.{MAX_PIECE}
use Rattle.audit_serve_sockets.proofs.looping.send_back.Given as goal

-- all bytes except the rest arrived
abbrev pub invariant-loop-rest : goal.invariant-loop-rest
invariant-loop-rest g l = record {
  all : l.arrived.items ++ l.rest ≡ l.fn.bytes;
  room : length l.buffer ≡ MAX_PIECE;
}

abbrev pub decreases-loop-rest : goal.decreases-loop-rest
decreases-loop-rest g l = length l.rest
