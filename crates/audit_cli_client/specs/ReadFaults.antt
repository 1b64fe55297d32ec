-- Why a log wasn't read on.
use Rattle.std.specs.Prelude.{false, Option, Some, None}
use Rattle.audit_proof.specs.declared.commitment.Commitment.{Commitment}
use Rattle.audit_cli_base.specs.declared.fault.CommandError.{CommandError}
use Rattle.audit_cli_base.specs.declared.fault.CommandError.TheVariants.{Export}
use Rattle.audit_wire_ask.specs.declared.fault.ClientError.{ClientError}
use Rattle.audit_wire_ask.specs.declared.fault.ClientError.TheVariants as client
use Rattle.audit_wire_ask.specs.declared.watching.Unseen.{Unseen}
use Rattle.audit_wire_read.specs.declared.read_error.ReadError.{ReadError}
use Rattle.audit_wire_read.specs.declared.read_error.ReadError.TheVariants as reading
use Rattle.audit_cli_connection.specs.declared.fault.RemoteError.{RemoteError}
use Rattle.audit_cli_connection.specs.declared.fault.RemoteError.TheVariants.{Command, Server, NotLed}

-- a judgment of the log is one of what the reader holds
abbrev pub fault_of_client : ClientError → RemoteError
fault_of_client client.Shorter = NotLed client.Shorter None
fault_of_client client.OtherRoot = NotLed client.OtherRoot None
fault_of_client client.NotAccepted = NotLed client.NotAccepted None
fault_of_client error = Server error

-- the same with the commitment that is held and the one that was given
abbrev pub fault_of_given : Commitment → Commitment → ClientError → RemoteError
fault_of_given held given client.Shorter =
    NotLed client.Shorter (Some (record { error = client.Shorter; held = held; given = given; is_kept = false }))
fault_of_given held given client.OtherRoot =
    NotLed client.OtherRoot (Some (record { error = client.OtherRoot; held = held; given = given; is_kept = false }))
fault_of_given held given client.NotAccepted = NotLed client.NotAccepted
    (Some (record { error = client.NotAccepted; held = held; given = given; is_kept = false }))
fault_of_given held given error = Server error

abbrev pub fault_of_unjudged : Commitment → Option Commitment → ClientError → RemoteError
fault_of_unjudged held None error = fault_of_client error
fault_of_unjudged held (Some given) error = fault_of_given held given error

abbrev pub fault_of_unseen : Commitment → Unseen → RemoteError
fault_of_unseen held unseen = fault_of_unjudged held unseen.given unseen.error

abbrev pub fault_of_reading : Commitment → ReadError CommandError → RemoteError
fault_of_reading held (reading.Unseen unseen) = fault_of_unseen held unseen
fault_of_reading held (reading.Client error) = fault_of_client error
fault_of_reading held (reading.Export fault) = Command (Export fault)
fault_of_reading held (reading.Outlet fault) = Command fault
