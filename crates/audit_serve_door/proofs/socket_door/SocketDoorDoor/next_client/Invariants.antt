use Rattle.std.specs.Prelude.{◌≡◌, ◌≢◌, ◌<◌, []}
use Rattle.audit_serve_door.specs.Waits.{NoArrival, ChangesWaiters}
use Rattle.audit_serve_door.specs.Comings.{flags_of}
use Rattle.audit_serve_door.proofs.socket_door.SocketDoorDoor.next_client.Given as goal

-- those that the system refused to report on were turned away
abbrev pub invariant-loop-tries : goal.invariant-loop-tries
invariant-loop-tries g l = (turned : ChangesWaiters g.J.Journal.notes NoArrival l.fn.self.waiting l.self.waiting l.fn.self.journal l.self.journal) × (l.self.entrances ≡ l.fn.self.entrances) × (flags_of l.self ≡ flags_of l.fn.self)
    × (l.self.places ≡ l.fn.self.places) × (l.self.now ≡ l.fn.self.now) × (0 < l.tries → turned.gone ≢ [])
