use Rattle.std.proofs.Common.{◌≡◌, ◌+◌, ◌<◌, ◌≤◌}
use Rattle.std.specs.Io.Buffered.{reader_remaining}
use Rattle.audit_wire_ask.specs.declared.stop_at.StopAt.TheVariants as stop
use Rattle.audit_wire_ask.specs.Sending.{SendsOn, IsWithin, StaysNear}
use Rattle.audit_wire_ask.specs.EntryKeys.{KeepsAllKeys}
use Rattle.audit_wire_ask.proofs.sending.send_events.Given as goal

abbrev pub invariant-loop : goal.invariant-loop
invariant-loop g l = record {
  on : SendsOn l.places l.form l.before (reader_remaining g.I.Read.remaining l.fn.input) (reader_remaining g.I.Read.remaining l.input) (g.W.Write.contents l.fn.to) (g.W.Write.contents l.to) (g.R.Read.remaining l.fn.from) (g.R.Read.remaining l.from)
      (g.O.Write.contents l.fn.output) (g.O.Write.contents l.output) l.end;
  within : IsWithin l.window l.end;
  number : l.before + l.end.sent ≤ 18446744073709551615;
  further : 0 < l.window → l.counter ≤ l.end.sent;
  keys : KeepsAllKeys (g.R.Read.remaining l.fn.from) (g.R.Read.remaining l.from) (g.K.Write.contents l.fn.keys) (g.K.Write.contents l.keys) l.end.answered;
  stays : l.stop_at ≡ stop.Refusal → StaysNear l.places l.before (g.R.Read.remaining l.fn.from) (g.R.Read.remaining l.from) l.window l.end;
}
