use Rattle.audit_serve_ready.specs.Places.{WritesOn}
use Rattle.audit_serve_ready.specs.Rounds.{OffersOn}
use Rattle.audit_serve_ready.proofs.serving.finish_writing.Given as goal

abbrev pub invariant-loop-times : goal.invariant-loop-times
invariant-loop-times g l =
    WritesOn g.D.Stream.ReadyStream.calls l.fn.slots l.slots
    × OffersOn g.D.Stream.ReadyStream.calls g.D.Door.calls l.times l.initial.door l.door l.fn.slots l.slots
