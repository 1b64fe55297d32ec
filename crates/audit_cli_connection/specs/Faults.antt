-- The errors of commands that ask a server, and the status with which the program exits after each.
use Rattle.std.specs.Prelude.{◌≡◌, ℕ, Bool, true, false, Option, Some, None, List, codes, Result, Ok, Err}
use Rattle.audit_wire.specs.declared.refusal.Refusal.{Refusal}
use Rattle.audit_wire.specs.declared.refusal.Refusal.TheVariants as refusal
use Rattle.audit_store.specs.declared.store_error.StoreError.TheVariants as store
use Rattle.audit_cli_base.specs.declared.status.Status.{Status}
use Rattle.audit_cli_base.specs.declared.status.Status.TheVariants as ends
use Rattle.audit_cli_base.specs.declared.fault.CommandError.TheVariants.{Refused, File, Lines}
use Rattle.audit_cli_base.specs.Faults as commands
use Rattle.audit_wire_ask.specs.declared.fault.ClientError.{ClientError}
use Rattle.audit_wire_ask.specs.declared.fault.ClientError.TheVariants as client
use Rattle.audit_wire_ask.specs.declared.putting.AskError.{AskError}
use Rattle.audit_wire_ask.specs.declared.putting.AskError.TheVariants as asking
use Rattle.audit_wire_ask.specs.declared.send_error.SendError.{SendError}
use Rattle.audit_wire_ask.specs.declared.send_error.SendError.TheVariants as sending
use Rattle.audit_cli_connection.specs.declared.fault.RemoteError.{RemoteError}
use Rattle.audit_cli_connection.specs.declared.fault.RemoteError.TheVariants.{Command, NoConnection, Server, BadStateLine}
use Rattle.audit_cli_connection.specs.declared.fault.RemoteError.TheVariants.{Contradicted, NotLed, NotLinked, NotAcknowledged, StateInUse, ReaderInUse}

-- the error for refused memory
abbrev pub no_memory : RemoteError
no_memory = Command (Refused store.Memory)

-- a refusal of the server's device is a device's; every other refusal is one of the log
abbrev pub status_of_answer : Refusal → Status
status_of_answer refusal.Device = ends.Device
status_of_answer _ = ends.Refused

-- An answer that isn't due or isn't accepted is refused; one that never comes, or can't be written, is a failed file.
abbrev pub status_of_server : ClientError → Status
status_of_server (client.Refused code) = status_of_answer code
status_of_server client.Ended = ends.Device
status_of_server client.TimedOut = ends.Device
status_of_server client.Output = ends.Device
status_of_server client.Memory = ends.Memory
status_of_server _ = ends.Refused

abbrev pub remote_status : RemoteError → Status
remote_status (Command fault) = commands.status_of fault
remote_status (NoConnection kind) = ends.Device
remote_status (Server error) = status_of_server error
remote_status (Contradicted found) = ends.Refused
remote_status (NotLed error found) = ends.Refused
remote_status (NotLinked half) = ends.Refused
remote_status (BadStateLine line) = ends.Refused
remote_status StateInUse = ends.Device
remote_status ReaderInUse = ends.Device
remote_status (NotAcknowledged lines first) = ends.Device

-- not a wrong argument
abbrev pub IsNoBadArgument : RemoteError → Type 0
IsNoBadArgument (Command fault) = commands.IsNoWordFault fault
IsNoBadArgument _ = Unit {0}

-- A later try may succeed: the server isn't there or doesn't answer, or another witness or reader has the file.
abbrev pub is_passing_fault : RemoteError → Bool
is_passing_fault (NoConnection kind) = true
is_passing_fault StateInUse = true
is_passing_fault ReaderInUse = true
is_passing_fault (Server client.Ended) = true
is_passing_fault (Server client.TimedOut) = true
is_passing_fault _ = false

-- the command's error with the same meaning
abbrev pub of_sending : SendError → RemoteError
of_sending (sending.Input cause) = Command (Lines cause)
of_sending (sending.Client error) = Server error
of_sending sending.Output = Command File
of_sending sending.Keys = Command File

abbrev pub of_asking : AskError RemoteError → RemoteError
of_asking (asking.Client error) = Server error
of_asking (asking.Out error) = error

-- the line of the output that judges the log, if the error is a judgment
abbrev pub judgment_in : ClientError → Option (List ℕ)
judgment_in client.NotAccepted = Some (codes "not accepted\n")
judgment_in client.Shorter = Some (codes "shorter\n")
judgment_in client.OtherRoot = Some (codes "other root\n")
judgment_in _ = None

abbrev pub judgment_of : RemoteError → Option (List ℕ)
judgment_of (Server error) = judgment_in error
judgment_of (Contradicted found) = judgment_in found.error
judgment_of _ = None

-- the error isn't a judgment of the log
abbrev pub IsNoJudgment : Result Status RemoteError → Type 0
IsNoJudgment (Ok status) = Unit {0}
IsNoJudgment (Err fault) = judgment_of fault ≡ None
