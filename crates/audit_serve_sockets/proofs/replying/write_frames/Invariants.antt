use Rattle.std.proofs.Common.{length}
use Rattle.audit_serve_sockets.proofs.Lines.{HasLinesBefore}
use Rattle.audit_serve_sockets.proofs.replying.write_frames.Given as goal

-- lines of all frames except those of the rest were written
abbrev pub invariant-loop-rest : goal.invariant-loop-rest
invariant-loop-rest g l = HasLinesBefore (g.W.LineOutput.contents l.fn.writer) (g.W.LineOutput.contents l.writer) l.rest l.fn.bytes

abbrev pub decreases-loop-rest : goal.decreases-loop-rest
decreases-loop-rest g l = length l.rest
