-- What is kept of a server that contradicts a witness.
use Rattle.std.specs.Prelude.{ℕ, Bool, true, false, Option, Some, List, [], ◌∷◌, ◌++◌, codes}
use Rattle.httpdate.specs.declared.date.HttpDate.{HttpDate as Date}
use Rattle.audit_proof.specs.declared.commitment.Commitment.{Commitment}
use Rattle.audit_text.specs.Lines.{line_feed}
use Rattle.audit_wire_ask.specs.declared.fault.ClientError.{ClientError}
use Rattle.audit_wire_ask.specs.declared.fault.ClientError.TheVariants as client
use Rattle.audit_wire_ask.specs.declared.keeping.WatchError.{WatchError}
use Rattle.audit_wire_ask.specs.declared.keeping.WatchError.TheVariants as watching
use Rattle.audit_cli_connection.specs.declared.contradiction.Contradiction.{Contradiction}
use Rattle.audit_cli_connection.specs.declared.fault.RemoteError.{RemoteError}
use Rattle.audit_cli_connection.specs.declared.fault.RemoteError.TheVariants.{Server, Contradicted}
use Rattle.audit_cli_connection.specs.Dates.{date_or_dash}
use Rattle.audit_cli_witness.specs.State.{commitment_word}

-- what an error is that judges the log
abbrev pub judgment_word : ClientError → List ℕ
judgment_word client.Shorter = codes "shorter"
judgment_word client.OtherRoot = codes "other root"
judgment_word client.NotAccepted = codes "not accepted"
judgment_word _ = []

-- what a judgment comes to if a commitment is held and another one was given
abbrev pub contradiction_of : Option Commitment → Option Commitment → ClientError → RemoteError
contradiction_of (Some held) (Some given) error =
    Contradicted (record { error = error; held = held; given = given; is_kept = false })
contradiction_of held given error = Server error

-- only a judgment of the log contradicts what is held
abbrev pub fault_of_seeing : Option Commitment → Option Commitment → ClientError → RemoteError
fault_of_seeing held given client.Shorter = contradiction_of held given client.Shorter
fault_of_seeing held given client.OtherRoot = contradiction_of held given client.OtherRoot
fault_of_seeing held given client.NotAccepted = contradiction_of held given client.NotAccepted
fault_of_seeing held given error = Server error

abbrev pub fault_of_look : Option Commitment → WatchError RemoteError → RemoteError
fault_of_look held (watching.Client unseen) = fault_of_seeing held unseen.given unseen.error
fault_of_look held (watching.Kept fault) = fault

-- what a contradiction is, what is held, and what was given
abbrev pub contradiction_text : Contradiction → List ℕ
contradiction_text found = codes " " ++ judgment_word found.error ++ codes ": held " ++ commitment_word found.held
    ++ codes ", given " ++ commitment_word found.given

-- the line of a contradiction, which begins with when it was found
abbrev pub alarm_line : Option Date → Contradiction → List ℕ
alarm_line date found = date_or_dash date ++ contradiction_text found

-- the bytes that add it, after a last line that lacks its line feed, or not
abbrev pub alarm_after : Bool → Option Date → Contradiction → List ℕ
alarm_after true date found = line_feed ∷ alarm_line date found ++ codes "\n"
alarm_after false date found = alarm_line date found ++ codes "\n"
