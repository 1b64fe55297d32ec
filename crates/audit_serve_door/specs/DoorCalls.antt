-- A door over sockets as a door of the engine that serves clients.
use Rattle.std.proofs.Common.{refl}
use Rattle.audit_serve_ready.specs.Door.{DoorModel}
use Rattle.audit_serve_door.specs.Accepting.{AcceptModel}
use Rattle.audit_serve_door.specs.Notes.{NoteModel}
use Rattle.audit_serve_door.specs.declared.metered.Metered.{Metered}
use Rattle.audit_serve_door.specs.declared.nonblocking.Nonblocking.{Nonblocking}
use Rattle.audit_serve_door.specs.declared.socket_door.SocketDoor.{SocketDoor}
use Rattle.audit_serve_door.specs.Comings.{AreDoorCalls}
use Rattle.audit_serve_door.specs.ComingsLaws.{are-append}

module _ {C J W L S : Type 0} (A : AcceptModel L S) (N : NoteModel J) (Left : W → Type 0) where
  abbrev pub socket_door_calls : DoorModel (SocketDoor C J W L S) (Metered (Nonblocking S))
  socket_door_calls = record {
    DidCalls = λ old new calls. AreDoorCalls A N Left old calls new;
    nothing_called = λ door. refl;
    more_called = λ old mid new calls later first second. are-append A N Left old mid new calls later first second;
  }
