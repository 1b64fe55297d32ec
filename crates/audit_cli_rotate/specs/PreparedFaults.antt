-- The errors of a rotation to a store that was prepared, and the program's exit status for each.
use Rattle.audit_join.specs.declared.join_error.JoinError.{JoinError}
use Rattle.audit_join.specs.declared.join_error.JoinError.TheVariants as joining
use Rattle.audit_cli_base.specs.Faults.{status_of}
use Rattle.audit_cli_base.specs.declared.fault.CommandError.{CommandError}
use Rattle.audit_cli_base.specs.declared.fault.CommandError.TheVariants as commands
use Rattle.audit_cli_base.specs.declared.status.Status.{Status}
use Rattle.audit_cli_base.specs.declared.status.Status.TheVariants.{Usage, Refused}
use Rattle.audit_cli_rotate.specs.declared.prepared_error.PreparedError.{PreparedError}
use Rattle.audit_cli_rotate.specs.declared.prepared_error.PreparedError.TheVariants.{Command, OwnKey}
use Rattle.audit_cli_rotate.specs.declared.prepared_error.PreparedError.TheVariants.{NotEmpty, TooManyKinds}
use Rattle.audit_cli_rotate.specs.declared.prepared_error.PreparedError.TheVariants.{TooManyEvents}

abbrev pub prepared_status : PreparedError → Status
prepared_status (Command fault) = status_of fault
prepared_status OwnKey = Usage
prepared_status _ = Refused

-- the error of the same name
abbrev pub of_join : JoinError → PreparedError
of_join (joining.Store error) = Command (commands.Refused error)
of_join joining.TooManyKinds = TooManyKinds
of_join joining.TooManyEvents = TooManyEvents

-- a store with events is another one if no link was found
abbrev pub of_unread : CommandError → PreparedError
of_unread commands.BadProof = NotEmpty
of_unread commands.File = NotEmpty
of_unread fault = Command fault
