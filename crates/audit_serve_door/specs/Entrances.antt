-- The sockets on which clients come in.
use Rattle.std.specs.Prelude.{◌≡◌, ℕ, ℤ, ◌<◌, Option, List, [], ◌∷◌, length, map, Contains, get_or}
use Rattle.std.specs.List.{AllByRecursion}
use Rattle.std.specs.declared.time.Duration.{Duration}
use Rattle.mio.specs.Net.{unix_listener_fd}
use Rattle.mio.specs.declared.net.uds.listener.UnixListener.{UnixListener}
use Rattle.audit_serve_passes.specs.declared.rights.Rights.{Rights}
use Rattle.audit_serve_door.specs.Accepting.{AcceptModel}
use Rattle.audit_serve_door.specs.declared.entrance.Arrival.{Arrival}
use Rattle.audit_serve_door.specs.declared.entrance.Entrance.{Entrance}
use Rattle.audit_serve_door.specs.declared.incoming.Incoming.{Incoming}
use Rattle.audit_serve_door.specs.declared.incoming.Accepted.{Accepted}
use Rattle.audit_serve_door.specs.declared.incoming.Accepted.TheVariants.{One}
use Rattle.audit_serve_door.specs.declared.socket_door.SocketDoor.{SocketDoor}

-- what the clients of a socket may ask for
abbrev pub rights_of : {L : Type 0} → Entrance L → Rights
rights_of entrance = entrance.rights

-- the permission bits of its file
abbrev pub mode_of : {L : Type 0} → Entrance L → ℕ
mode_of entrance = entrance.mode

-- the socket itself
abbrev pub listener_of : {L : Type 0} → Incoming L → L
listener_of incoming = incoming.listener

abbrev pub socket_of : {L : Type 0} → Entrance L → L
socket_of entrance = listener_of entrance.incoming

-- the descriptor of a socket of the system
abbrev pub descriptor_of : Entrance UnixListener → ℤ
descriptor_of entrance = unix_listener_fd (socket_of entrance)

abbrev pub rights_at_arrival : {S : Type 0} → Arrival S → Rights
rights_at_arrival arrival = arrival.rights

abbrev pub stream_at_arrival : {S : Type 0} → Arrival S → S
stream_at_arrival arrival = arrival.stream

-- what an attempt accepted, if anything
abbrev pub arrived_in : {T : Type 0} → Accepted T → List T
arrived_in (One arrival) = arrival ∷ []
arrived_in _ = []

-- nobody came in by a socket
pub record IsQuiet {L : Type 0} (old new : Entrance L) : Type 0 where
  pub socket : socket_of new ≡ socket_of old
  pub rights : rights_of new ≡ rights_of old
  pub mode : mode_of new ≡ mode_of old

-- These connections came in by a socket: it accepted them, in order, and they have its rights. Nothing was read of them
-- or written to them.
pub record ComesIn {L S : Type 0} (A : AcceptModel L S) (came : List (Arrival S)) (old new : Entrance L) : Type 0 where
  pub did : A.DidAccept (socket_of old) (socket_of new) (map stream_at_arrival came)
  pub allowed : AllByRecursion (λ (arrival : Arrival S). arrival.rights ≡ old.rights) came
  pub rights : new.rights ≡ old.rights
  pub mode : new.mode ≡ old.mode

-- these came in by each of several sockets
pub record ComeIn {L S : Type 0} (A : AcceptModel L S) (came : ℕ → List (Arrival S)) (old new : List (Entrance L))
    : Type 0 where
  pub same : length new ≡ length old
  pub at : (k : ℕ) (none : Entrance L) → k < length old → ComesIn A (came k) (get_or old k none) (get_or new k none)

-- a connection that came in by one of the first `count` sockets
abbrev pub IsOneOf : {S : Type 0} → ℕ → (ℕ → List (Arrival S)) → Arrival S → Type 0
IsOneOf count came arrival = (k : ℕ) × (k < count) × Contains (came k) arrival

-- what the clients of each socket of a door may ask for
abbrev pub rights_of_door : {C J W L S : Type 0} → SocketDoor C J W L S → List Rights
rights_of_door door = map rights_of door.entrances.items

abbrev pub modes_of_door : {C J W L S : Type 0} → SocketDoor C J W L S → List ℕ
modes_of_door door = map mode_of door.entrances.items

-- the sockets of a door
abbrev pub sockets_of_door : {C J W L S : Type 0} → SocketDoor C J W L S → List L
sockets_of_door door = map socket_of door.entrances.items

-- and their descriptors
abbrev pub descriptors_of_door : {C J W S : Type 0} → SocketDoor C J W UnixListener S → List ℤ
descriptors_of_door door = map unix_listener_fd (sockets_of_door door)

-- how long a client of a door may be idle while another one waits
abbrev pub idle_of_door : {C J W L S : Type 0} → SocketDoor C J W L S → Option Duration
idle_of_door door = door.places.idle
