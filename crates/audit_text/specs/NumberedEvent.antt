-- Events with their places in a log.
use Rattle.std.specs.Prelude.{ℕ, ◌<◌, ◌^◌, Option, Some, None, List}
use Rattle.audit_base.specs.Bytes.{AreBytes}

-- an event, and the number of events before it
pub record NumberedEvent : Type 0 where
  pub index : ℕ
  pub kind : ℕ
  pub payload : List ℕ

-- index and kind have 64 and 32 bits, and the payload is a list of bytes
pub record IsNumbered (event : NumberedEvent) : Type 0 where
  pub index : event.index < 2 ^ 64
  pub kind : event.kind < 2 ^ 32
  pub bytes : AreBytes event.payload

-- the event with these fields, if all are there
abbrev pub event_of_fields : Option ℕ → Option ℕ → Option (List ℕ) → Option NumberedEvent
event_of_fields (Some index) (Some kind) (Some payload) =
    Some (record { index = index; kind = kind; payload = payload })
event_of_fields _ _ _ = None
