use Rattle.audit_serve_door.specs.Comings.{Receives}
use Rattle.audit_serve_door.proofs.socket_door.announce_all.Given as goal

abbrev pub invariant-loop-event : goal.invariant-loop-event
invariant-loop-event g l = Receives g.L.Accepts.model g.J.Journal.notes l.fn.entrances l.entrances l.fn.waiting l.waiting l.fn.journal l.journal
