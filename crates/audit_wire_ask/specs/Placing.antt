-- The places that events are given, and what is sent with them.
use Rattle.std.specs.Prelude.{◌≡◌, ◌⊎◌, ℕ, Option, List, [], ◌∷◌}
use Rattle.std.specs.Io.KnownBytes.{Appends, Keeps}
use Rattle.audit_proof.specs.declared.commitment.Commitment.{Commitment}
use Rattle.audit_text.specs.Writing.{WritesInPart}
use Rattle.audit_text.specs.declared.line_form.LineForm.{LineForm}
use Rattle.audit_wire.specs.declared.request.Request.TheVariants as request
use Rattle.audit_wire_ask.specs.declared.asking.TheConstants.{ASKED_TAG}
use Rattle.audit_wire_ask.specs.declared.fault.ClientError.{ClientError}
use Rattle.audit_wire_ask.specs.declared.kind_place.KindPlace.{KindPlace}
use Rattle.audit_wire_ask.specs.declared.places.Places.{Places}
use Rattle.audit_wire_ask.specs.declared.places.Places.TheVariants as places
use Rattle.audit_wire_ask.specs.declared.placing.Placing.{Placing}
use Rattle.audit_wire_ask.specs.declared.placing.Placing.TheVariants as placing
use Rattle.audit_wire_ask.specs.declared.sending.SendEnd.{SendEnd}
use Rattle.audit_wire_ask.specs.Conversation.{Converses}
use Rattle.audit_wire_ask.specs.declared.fault.ClientError.TheVariants as client
use Rattle.audit_wire_ask.specs.declared.send_error.SendError.{SendError}
use Rattle.audit_wire_ask.specs.declared.send_error.SendError.TheVariants.{Client, Keys}
use Rattle.audit_wire_ask.specs.Failing.{IsUnasked, FailsNewest}
use Rattle.audit_wire_ask.specs.PlaceAsking.{place_reply, FailsPlace}
use Rattle.audit_wire_ask.specs.Sending.{Sends}
use Rattle.audit_wire_ask.specs.EntryKeys.{KeepsKeys, log_line}
use Rattle.audit_wire_ask.specs.Watching.{GivesNewest}

-- these places are given; the next one of a kind is that of the server's answer, and nothing else is asked
abbrev pub GivesPlaces : Option (List ℕ) → Option (List ℕ) → Option (List ℕ) → Option (List ℕ) → Placing → Places
    → Type 0
GivesPlaces written_old written_new read_old read_new placing.Unplaced given =
    (given ≡ places.Any) × IsUnasked written_old written_new read_old read_new
GivesPlaces written_old written_new read_old read_new (placing.From first) given =
    (given ≡ places.From first) × IsUnasked written_old written_new read_old read_new
GivesPlaces written_old written_new read_old read_new (placing.Next kind) given =
    (place : KindPlace) × (given ≡ places.From place.number) × Converses written_old written_new read_old read_new
    (request.Place ASKED_TAG kind ∷ []) (place_reply place ∷ [])

-- the place of a kind was asked for, and there was no answer, or another; nothing else can fail
abbrev pub FailsPlacing : Option (List ℕ) → Option (List ℕ) → Option (List ℕ) → Option (List ℕ) → Placing → ClientError
    → Type 0
FailsPlacing written_old written_new read_old read_new (placing.Next kind) error =
    FailsPlace written_old written_new read_old read_new kind error
FailsPlacing written_old written_new read_old read_new _ error = ⊥

-- the places were given, and then events sent at them, and the keys in their answers kept
pub record PlacesAndSends (placing : Placing) (form : LineForm) (before : ℕ)
    (input written_old written_new read_old old new keys_old keys_new : Option (List ℕ)) (given : Places) (end : SendEnd)
    : Type 0 where
  pub written : Option (List ℕ)
  pub read : Option (List ℕ)
  pub placed : GivesPlaces written_old written read_old read placing given
  pub sends : Sends given form before input written written_new read old new end
  pub kept : KeepsKeys read keys_old keys_new end.answered

-- the newest commitment was asked for and given, and its line kept
pub record BeginsLog (written_old written_new read_old read_new keys_old keys_new : Option (List ℕ)) : Type 0 where
  pub newest : Commitment
  pub given : GivesNewest written_old written_new read_old read_new newest
  pub kept : Appends keys_old keys_new (log_line newest)

-- nothing was kept but the line of a commitment, or a part of it
abbrev pub LogsInPart : Option (List ℕ) → Option (List ℕ) → Type 0
LogsInPart keys_old keys_new =
    Keeps keys_old keys_new ⊎ ((newest : Commitment) × WritesInPart keys_old keys_new (log_line newest))

-- There was no newest commitment; or it was given, and its line couldn't be made or kept.
abbrev pub FailsBegin : Option (List ℕ) → Option (List ℕ) → Option (List ℕ) → Option (List ℕ) → SendError → Type 0
FailsBegin written_old written_new read_old read_new (Client error) =
    FailsNewest written_old written_new read_old read_new error ⊎ ((error ≡ client.Memory)
    × ((newest : Commitment) × GivesNewest written_old written_new read_old read_new newest))
FailsBegin written_old written_new read_old read_new Keys =
    (newest : Commitment) × GivesNewest written_old written_new read_old read_new newest
FailsBegin written_old written_new read_old read_new _ = ⊥

-- That failed; or the newest commitment was given, and then the place of a kind wasn't.
abbrev pub FailsLogging : Option (List ℕ) → Option (List ℕ) → Option (List ℕ) → Option (List ℕ) → Placing → SendError
    → Type 0
FailsLogging written_old written_new read_old read_new placing (Client error) =
    FailsBegin written_old written_new read_old read_new (Client error)
    ⊎ ((newest : Commitment) × (written read : Option (List ℕ)) × GivesNewest written_old written read_old read newest
    × FailsPlacing written written_new read read_new placing error)
FailsLogging written_old written_new read_old read_new placing error =
    FailsBegin written_old written_new read_old read_new error

-- the log was begun, and then events sent at their places
pub record LogsAndSends (placing : Placing) (form : LineForm) (before : ℕ)
    (input written_old written_new read_old old new keys_old keys_new : Option (List ℕ)) (given : Places) (end : SendEnd)
    : Type 0 where
  pub written : Option (List ℕ)
  pub read : Option (List ℕ)
  pub keys : Option (List ℕ)
  pub begun : BeginsLog written_old written read_old read keys_old keys
  pub sends : PlacesAndSends placing form before input written written_new read old new keys keys_new given end
