use Rattle.std.specs.Prelude.{◌≡◌}
use Rattle.audit_serve_door.specs.Comings.{Receives, flags_of}
use Rattle.audit_serve_door.proofs.socket_door.SocketDoor.accept_at.Given as goal

abbrev pub invariant-loop-at : goal.invariant-loop-at
invariant-loop-at g l = Receives g.L.Accepts.model g.J.Journal.notes l.fn.self.entrances.items l.self.entrances.items l.fn.self.waiting l.self.waiting l.fn.self.journal l.self.journal × (flags_of l.self ≡ flags_of l.fn.self) × (l.self.places ≡ l.fn.self.places)
