-- A door behind which a gauge is read: its calls are those of the door.
use Rattle.std.specs.Prelude.{◌≡◌, ◌⊎◌, true, Some}
use Rattle.std.specs.declared.time.Instant.{Instant}
use Rattle.audit_serve_ready.specs.Door.{DoorModel}
use Rattle.audit_serve_door.specs.Comings.{was_told, flags_of}
use Rattle.audit_serve_door.specs.Finishing.{IsFinishingTime}
use Rattle.audit_serve_door.specs.declared.socket_door.SocketDoor.{SocketDoor}
use Rattle.audit_cli_daemon.specs.declared.gauge.GaugedDoor.{GaugedDoor}

abbrev pub gauged_calls : {E F M S : Type 0} → DoorModel E S → DoorModel (GaugedDoor E F M) S
gauged_calls N = record {
  DidCalls = λ old new calls. N.DidCalls old.door new.door calls;
  nothing_called = λ gauged. N.nothing_called gauged.door;
  more_called = λ old mid new calls later first second.
      N.more_called old.door mid.door new.door calls later first second;
}

-- at the door behind which it is read, the order to stop has come
abbrev pub IsTold : {C J W L S F M : Type 0} → GaugedDoor (SocketDoor C J W L S) F M → Type 0
IsTold gauged = was_told gauged.door ≡ true

-- The end of the door has begun: the time is set when it is over, or it began when the clock was too late for one.
abbrev pub HasBegunEnd : {C J W L S : Type 0} → SocketDoor C J W L S → Type 0
HasBegunEnd door = ((last : Instant) × ((flags_of door).0 ≡ Some last))
    ⊎ ((now : Instant) × IsFinishingTime now (flags_of door).0)

-- the end of the door behind which it is read has begun
abbrev pub IsEnding : {C J W L S F M : Type 0} → GaugedDoor (SocketDoor C J W L S) F M → Type 0
IsEnding gauged = HasBegunEnd gauged.door

-- nothing is known of a look at the store's file
abbrev pub watch_of_file : {W : Type 0} → W → Type 0
watch_of_file watch = Unit {0}
