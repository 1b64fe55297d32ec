-- The error of a command that serves sessions, and the status with which the program exits after it.
use Rattle.audit_store.specs.declared.store_error.StoreError.{StoreError}
use Rattle.audit_serve_passes.specs.declared.serve_end.ServeFault.{ServeFault}
use Rattle.audit_serve_passes.specs.declared.serve_end.ServeFault.TheVariants as serving
use Rattle.audit_serve_sockets.specs.declared.loop_fault.LoopError.{LoopError}
use Rattle.audit_serve_sockets.specs.declared.loop_fault.LoopError.TheVariants as looping
use Rattle.audit_cli_base.specs.declared.status.Status.{Status}
use Rattle.audit_cli_base.specs.declared.status.Status.TheVariants as ends
use Rattle.audit_cli_base.specs.declared.fault.CommandError.TheVariants.{Refused, Lines, File}
use Rattle.audit_cli_base.specs.Faults as commands
use Rattle.audit_cli_serve.specs.declared.fault.ServingError.{ServingError}
use Rattle.audit_cli_serve.specs.declared.fault.ServingError.TheVariants.{Command, BadFrameLine, TooManyPasses}

abbrev pub serving_status : ServingError → Status
serving_status (Command fault) = commands.status_of fault
serving_status (BadFrameLine line) = ends.Refused
serving_status TooManyPasses = ends.Device

-- a refusal of the core is a refusal of its store
abbrev pub of_serving : ServeFault StoreError → ServingError
of_serving (serving.Core error) = Command (Refused error)
of_serving serving.ReadFault = TooManyPasses

-- a connection error is reported as a file error
abbrev pub of_loop : LoopError StoreError → ServingError
of_loop looping.Connection = Command File
of_loop (looping.Lines fault) = Command (Lines fault)
of_loop (looping.BadLine line) = BadFrameLine line
of_loop (looping.Core error) = Command (Refused error)

-- not a wrong argument
abbrev pub IsNoWordError : ServingError → Type 0
IsNoWordError (Command fault) = commands.IsNoWordFault fault
IsNoWordError _ = Unit {0}
