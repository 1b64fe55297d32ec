use Rattle.std.specs.Prelude.{◌≡◌}
use Rattle.audit_serve_door.specs.Waits.{NoArrival, ChangesWaiters}
use Rattle.audit_serve_door.specs.Comings.{flags_of}
use Rattle.audit_serve_door.proofs.socket_door.SocketDoor.accept_orders.Given as goal

abbrev pub invariant-loop : goal.invariant-loop
invariant-loop g l = ChangesWaiters g.J.Journal.notes NoArrival l.fn.self.waiting l.self.waiting l.fn.self.journal l.self.journal × (l.self.entrances ≡ l.fn.self.entrances) × (flags_of l.self ≡ flags_of l.fn.self) × (l.self.places ≡ l.fn.self.places)
