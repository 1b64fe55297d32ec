-- What the clients of a daemon may ask for, by the socket that they come by.
use Rattle.std.specs.Prelude.{◌≡◌, ◌<◌, ◌*◌, ℕ, ℤ, Bool, true, false, Option, Some, None, List, [], ◌∷◌, ◌++◌, map}
use Rattle.std.specs.Duration.{as_nanos}
use Rattle.std.specs.declared.time.Duration.{Duration}
use Rattle.audit_serve_passes.specs.declared.bound_kinds.BoundKinds.{BoundKinds}
use Rattle.audit_serve_passes.specs.declared.rights.Rights.{Rights}
use Rattle.audit_serve_passes.specs.declared.rights.Rights.TheVariants as rights
use Rattle.mio.specs.declared.net.uds.listener.UnixListener.{UnixListener}
use Rattle.audit_serve_door.specs.Entrances.{rights_of_door, modes_of_door, descriptors_of_door, idle_of_door}
use Rattle.audit_serve_door.specs.Comings.{who_waits, places_of, is_replaced, has_failed}
use Rattle.audit_serve_door.specs.Idle.{IsVacant}
use Rattle.audit_serve_door.specs.Waits.{NobodyWaits}
use Rattle.audit_serve_door.specs.declared.socket_door.SocketDoor.{SocketDoor}
use Rattle.audit_cli_daemon.specs.Sources.{SourceData}
use Rattle.audit_cli_daemon.specs.declared.gauge.GaugedDoor.{GaugedDoor}

-- if there is a socket for readers, its clients only read
abbrev pub rights_of_readers : {A : Type 0} → Option A → List Rights
rights_of_readers None = []
rights_of_readers (Some readers) = rights.Read ∷ []

-- those of a source append its kind
abbrev pub source_rights : SourceData → Rights
source_rights source = rights.Source source.kind

-- and those of the last socket have these rights
abbrev pub rights_at : {A : Type 0} → Option A → List SourceData → Rights → List Rights
rights_at readers sources others = rights_of_readers readers ++ (map source_rights sources ++ others ∷ [])

-- what the others may ask for: whether they may close the log is asked, and they append no kind that is bound
abbrev pub rights_of_others : Bool → BoundKinds → Rights
rights_of_others true bound = rights.Close bound
rights_of_others false bound = rights.Append bound

-- the files of all sockets have the same permissions
abbrev pub modes_at : List Rights → ℕ → List ℕ
modes_at allowed mode = map (λ one. mode) allowed

-- this many seconds, or none for ever
abbrev pub IsIdleTime : ℕ → Option Duration → Type 0
IsIdleTime seconds None = seconds ≡ 0
IsIdleTime seconds (Some time) = (0 < seconds) × (as_nanos time ≡ seconds * 1_000_000_000)

-- a door with sockets for clients of these rights, whose files have these permissions, and which listen as `Listen` says
-- of their descriptors; it dismisses clients that are idle for so long, and nobody waits at it or has a place yet
pub record IsDoorFor {C J W S F M : Type 0} (allowed : List Rights) (modes : List ℕ) (Listen : List ℤ → Type 0)
    (seconds : ℕ) (door : GaugedDoor (SocketDoor C J W UnixListener S) F M) : Type 0 where
  pub rights_are : rights_of_door door.door ≡ allowed
  pub modes_are : modes_of_door door.door ≡ modes
  pub listen : Listen (descriptors_of_door door.door)
  pub idle : IsIdleTime seconds (idle_of_door door.door)
  pub nobody : NobodyWaits (who_waits door.door)
  pub in_place : is_replaced door.door ≡ false
  pub works : has_failed door.door ≡ false
  pub vacant : IsVacant (idle_of_door door.door) (places_of door.door)
