use Rattle.audit_wire_ask.specs.Sending.{PrintsAll}
use Rattle.audit_wire_ask.specs.EntryKeys.{KeepsAllKeys}
use Rattle.audit_wire_ask.proofs.answering.take_answers.Given as goal

abbrev pub invariant-loop-place : goal.invariant-loop-place
invariant-loop-place g l = record {
  keys : KeepsAllKeys (g.R.Read.remaining l.fn.from) (g.R.Read.remaining l.from) (g.K.Write.contents l.fn.keys) (g.K.Write.contents l.keys) l.place;
  prints : PrintsAll l.places (g.R.Read.remaining l.fn.from) (g.R.Read.remaining l.from) (g.O.Write.contents l.fn.output) (g.O.Write.contents l.output) l.before l.place l.place l.refused;
}
