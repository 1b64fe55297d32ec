-- What was sent over several connections, and the status with which the program exits after it sent events.
use Rattle.std.specs.Prelude.{◌≡◌, ◌⊎◌, ◌+◌, ◌-◌, ◌^◌, ◌<◌, ℕ, Option, Some, None, nat_lt, min, if◌then◌else◌}
use Rattle.audit_cli_base.specs.declared.status.Status.{Status}
use Rattle.audit_cli_base.specs.declared.status.Status.TheVariants as ends
use Rattle.audit_wire_ask.specs.declared.places.Places.{Places}
use Rattle.audit_wire_ask.specs.declared.places.Places.TheVariants as places
use Rattle.audit_wire_ask.specs.declared.placing.Placing.{Placing}
use Rattle.audit_wire_ask.specs.declared.placing.Placing.TheVariants as placing
use Rattle.audit_wire_ask.specs.declared.send_error.SendError.{SendError}
use Rattle.audit_wire_ask.specs.declared.sending.SendEnd.{SendEnd}
use Rattle.audit_cli_connection.specs.declared.fault.RemoteError.{RemoteError}
use Rattle.audit_cli_connection.specs.Faults.{remote_status, of_sending}

-- the error's status, or refused if some answers are refusals
abbrev pub status_of_sending : Option SendError → ℕ → Status
status_of_sending (Some error) refused = remote_status (of_sending error)
status_of_sending None refused = if nat_lt 0 refused then ends.Refused else ends.Done

abbrev pub status_of_sent : SendEnd → Status
status_of_sent end = status_of_sending end.error end.refused

-- nothing yet
abbrev pub nothing_sent : SendEnd
nothing_sent = record { sent = 0; answered = 0; refused = 0; error = None }

-- two numbers counted together, as far as numbers of 64 bits go
abbrev pub counted_on : ℕ → ℕ → ℕ
counted_on before more = min (before + more) (2 ^ 64 - 1)

-- What was sent and answered with one more connection: lines that weren't answered before were sent again over it.
abbrev pub with_leg : SendEnd → SendEnd → SendEnd
with_leg total leg = record {
  sent = counted_on total.answered leg.sent;
  answered = counted_on total.answered leg.answered;
  refused = counted_on total.refused leg.refused;
  error = leg.error;
}

-- the places of the same lines over another connection
abbrev pub placing_after : Places → Placing
placing_after places.Any = placing.Unplaced
placing_after (places.From first) = placing.From first

-- Sending ended with this status. It is that of all that was sent over one or more connections, as `Sent` says; or,
-- while lines weren't answered, that of the fault with which a further one failed, as `Broke` says.
abbrev pub EndsSending : (ℕ → Placing → SendEnd → Type 0) → (RemoteError → Type 0) → Status → Type 0
EndsSending Sent Broke status = (count : ℕ) × (next : Placing) × (total : SendEnd) × Sent count next total
    × (((0 < count) × (status ≡ status_of_sent total))
    ⊎ ((fault : RemoteError) × Broke fault × (status ≡ remote_status fault) × (total.answered < total.sent)))

-- What is known of the connections after a call, that there was one, as `Reached` says, or none, as `Broke` says, is a
-- fact of the system, and was so before.
abbrev pub KeepsConnections : {L : Type 0} → (L → Type 0) → (L → RemoteError → Type 0) → L → L → Type 0
KeepsConnections Reached Broke old new =
    (Reached new → Reached old) × ((fault : RemoteError) → Broke new fault → Broke old fault)
