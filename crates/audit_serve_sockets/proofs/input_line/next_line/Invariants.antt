use Rattle.std.proofs.Common.{◌≡◌, vec_len}
use Rattle.audit_serve_sockets.proofs.Inputs.{HasTaken}
use Rattle.audit_serve_sockets.proofs.input_line.next_line.Given as goal

-- the bytes taken so far are the start of the line
abbrev pub invariant-loop : goal.invariant-loop
invariant-loop g l = record {
  taken : HasTaken (g.R.LineInput.remaining l.fn.reader) (g.R.LineInput.remaining l.reader) l.line.items;
  counted : vec_len l.line ≡ l.counter;
}
