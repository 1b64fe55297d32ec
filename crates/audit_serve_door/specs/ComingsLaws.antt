-- A law of calls of a door one after another.
use Rattle.std.specs.Prelude.{List, [], ◌∷◌, ◌++◌}
use Rattle.std.proofs.Common.{subst}
use Rattle.audit_serve_ready.specs.Door.{DoorCall}
use Rattle.audit_serve_door.specs.Accepting.{AcceptModel}
use Rattle.audit_serve_door.specs.Notes.{NoteModel}
use Rattle.audit_serve_door.specs.declared.metered.Metered.{Metered}
use Rattle.audit_serve_door.specs.declared.nonblocking.Nonblocking.{Nonblocking}
use Rattle.audit_serve_door.specs.declared.socket_door.SocketDoor.{SocketDoor}
use Rattle.audit_serve_door.specs.Comings.{AreDoorCalls}

module _ {C J W L S : Type 0} (A : AcceptModel L S) (N : NoteModel J) (Left : W → Type 0) where
  pub are-append : (old mid new : SocketDoor C J W L S) (calls later : List (DoorCall (Metered (Nonblocking S))))
      → AreDoorCalls A N Left old calls mid → AreDoorCalls A N Left mid later new
      → AreDoorCalls A N Left old (calls ++ later) new
  are-append old mid new [] later first second =
      subst (λ (door : SocketDoor C J W L S). AreDoorCalls A N Left door later new) first second
  are-append old mid new (call ∷ calls) later first second =
      (first.0, first.1, are-append first.0 mid new calls later first.2 second)
