-- What is said on the messages of a fault.
use Rattle.std.specs.Prelude.{◌≡◌, ◌⊎◌, ℕ, Bool, true, false, Option, Some, None, List, ◌++◌, codes}
use Rattle.std.specs.Io.KnownBytes.{Appends, Keeps}
use Rattle.httpdate.specs.declared.date.HttpDate.{HttpDate as Date}
use Rattle.audit_text.specs.Writing.{WritesInPart}
use Rattle.audit_wire_ask.specs.declared.fault.ClientError.{ClientError}
use Rattle.audit_wire_ask.specs.declared.fault.ClientError.TheVariants as client
use Rattle.audit_link.specs.declared.checking.LinkJudgment.{LinkJudgment}
use Rattle.audit_link.specs.declared.checking.LinkJudgment.TheVariants as link
use Rattle.audit_cli_connection.specs.Dates.{date_or_dash}
use Rattle.audit_cli_connection.specs.declared.fault.RemoteError.{RemoteError}
use Rattle.audit_cli_connection.specs.declared.fault.RemoteError.TheVariants.{NoConnection, StateInUse, ReaderInUse, Server, NotLed, NotLinked}

-- the line of an error of the server that has no number
abbrev pub message_of_server : ClientError → Option (List ℕ)
message_of_server client.BadReply = Some (codes "audit: bad reply\n")
message_of_server client.Ended = Some (codes "audit: connection ended\n")
message_of_server client.TimedOut = Some (codes "audit: no reply in time\n")
message_of_server client.Output = Some (codes "audit: file fault\n")
message_of_server _ = None

-- the line of a reader that judges the log
abbrev pub message_not_led : ClientError → Option (List ℕ)
message_not_led client.NotAccepted = Some (codes "audit: not accepted\n")
message_not_led client.Shorter = Some (codes "audit: shorter\n")
message_not_led client.OtherRoot = Some (codes "audit: other root\n")
message_not_led _ = None

-- the line of a witness that can't go on from the log before
abbrev pub message_not_linked : LinkJudgment → Option (List ℕ)
message_not_linked link.OldHalf = Some (codes "audit: not linked: old half\n")
message_not_linked link.NewHalf = Some (codes "audit: not linked: new half\n")
message_not_linked link.Accepted = None

-- the line that says why a command failed, if it is one of the client's own and has no number: each passing fault's is
abbrev pub message_of : RemoteError → Option (List ℕ)
message_of (NoConnection kind) = Some (codes "audit: file fault\n")
message_of StateInUse = Some (codes "audit: witness file in use\n")
message_of ReaderInUse = Some (codes "audit: state in use\n")
message_of (Server error) = message_of_server error
message_of (NotLed error found) = message_not_led error
message_of (NotLinked half) = message_not_linked half
message_of _ = None

-- The text was written; or a part of it, and then the writer failed.
abbrev pub Says : Option (List ℕ) → Option (List ℕ) → Type 0 → List ℕ → Type 0
Says old new failed text = Appends old new text ⊎ (failed × WritesInPart old new text)

-- The text was written, and others after it; or a part of it, and then the writer failed.
abbrev pub SaysFirst : Option (List ℕ) → Option (List ℕ) → Type 0 → List ℕ → Type 0
SaysFirst old new failed text =
    ((later : List ℕ) × Appends old new (text ++ later)) ⊎ (failed × WritesInPart old new text)

-- a line with the name of a file, as it is printed for people, what is said of it, and a date
abbrev pub IsMomentLine : List ℕ → Option Date → List ℕ → Type 0
IsMomentLine what date line = (name : List ℕ)
    × (line ≡ codes "audit: " ++ name ++ codes ": " ++ what ++ codes ", " ++ date_or_dash date ++ codes "\n")

-- such a line of a server that answers again; if memory for it was refused, one without a name
abbrev pub IsReturnLine : Option Date → List ℕ → Type 0
IsReturnLine date line =
    IsMomentLine (codes "answers again") date line ⊎ (line ≡ codes "audit: answers again\n")

-- it was reported that a server isn't there, or doesn't answer
abbrev pub was_absent : Option RemoteError → Bool
was_absent (Some (NoConnection kind)) = true
was_absent (Some (Server error)) = true
was_absent reported = false

abbrev pub SaysReturned : Bool → Option Date → Option (List ℕ) → Option (List ℕ) → Type 0 → Type 0
SaysReturned true date old new failed = (line : List ℕ) × IsReturnLine date line × Says old new failed line
SaysReturned false date old new failed = Keeps old new

-- the return of a server is said if its absence was reported, and nothing else is
abbrev pub SaysAnswersAgain : Option RemoteError → Option Date → Option (List ℕ) → Option (List ℕ) → Type 0 → Type 0
SaysAnswersAgain reported date old new failed = SaysReturned (was_absent reported) date old new failed
