use Rattle.std.proofs.Common.{◌≡◌, ◌+◌, ℕ, List, length}
use Rattle.audit_serve_passes.specs.declared.limits.TheConstants.{MAX_PIECE}
use Rattle.audit_serve_sockets.specs.Looping.{AreLinePasses, LoopTransition}
use Rattle.audit_serve_sockets.proofs.Inputs.{HasSpelled}
use Rattle.audit_serve_sockets.proofs.looping.serve_lines.Given as goal

-- the lines before this one were served
abbrev pub invariant-loop-number : goal.invariant-loop-number
invariant-loop-number g l = record {
  served : (lines : List (List ℕ)) × (length lines + 1 ≡ l.number)
      × LoopTransition g.C.SessionCore.model l.fn.core l.core (g.W.LineOutput.contents l.fn.writer) (g.W.LineOutput.contents l.writer) (AreLinePasses lines)
      × HasSpelled (g.R.LineInput.remaining l.fn.reader) (g.R.LineInput.remaining l.reader) lines;
  room : length l.buffer ≡ MAX_PIECE;
}
