use Rattle.std.proofs.Common.{◌≤◌, ◌+◌}
use Rattle.std.specs.Io.Buffered.{reader_remaining}
use Rattle.audit_wire_ask.proofs.TakenLines.{IsTaken}
use Rattle.audit_wire_ask.proofs.taking.take_lines.Given as goal

abbrev pub invariant-loop-count : goal.invariant-loop-count
invariant-loop-count g l = record {
  taken : IsTaken l.places l.form (reader_remaining g.I.Read.remaining l.fn.input) (reader_remaining g.I.Read.remaining l.input) l.before l.count l.frames.items;
  fits : l.before + l.count ≤ 18446744073709551615;
}
