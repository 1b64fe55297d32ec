-- The program's exit status for each error of a rotation.
use Rattle.audit_cli_base.specs.Faults.{status_of}
use Rattle.audit_cli_base.specs.declared.status.Status.{Status}
use Rattle.audit_cli_base.specs.declared.status.Status.TheVariants.{Usage}
use Rattle.audit_cli_rotate.specs.declared.fault.RotationError.{RotationError}
use Rattle.audit_cli_rotate.specs.declared.fault.RotationError.TheVariants.{Command, OwnKey}

abbrev pub rotation_status : RotationError → Status
rotation_status (Command fault) = status_of fault
rotation_status OwnKey = Usage
