-- The program's exit status for each error of a command.
use Rattle.std.specs.Prelude.{◌≡◌, ◌⊎◌, ℕ, Option, Result, Ok, Err, List}
use Rattle.std.specs.Io.KnownBytes.{Keeps}
use Rattle.audit_store.specs.declared.store_error.StoreError.{StoreError}
use Rattle.audit_store.specs.declared.store_error.StoreError.TheVariants as store
use Rattle.audit_store.specs.declared.extending_error.ExtendingError.{ExtendingError}
use Rattle.audit_store.specs.declared.extending_error.ExtendingError.TheVariants as extending
use Rattle.audit_disk.specs.declared.file_fault.FileFault.{FileFault}
use Rattle.audit_disk.specs.declared.file_fault.FileFault.TheVariants as file
use Rattle.audit_text.specs.declared.fault.LinesError.{LinesError}
use Rattle.audit_text.specs.declared.fault.LinesError.TheVariants as lines
use Rattle.audit_proof.specs.declared.commitment.Commitment.{Commitment}
use Rattle.audit_proof.specs.declared.codec.ProofError.{ProofError}
use Rattle.audit_proof.specs.declared.codec.ProofError.TheVariants as reading
use Rattle.audit_verify.specs.declared.fault.Cause.{Cause}
use Rattle.audit_verify.specs.declared.fault.Cause.TheVariants as cause
use Rattle.audit_cli_offline.specs.declared.fault.OfflineError.{OfflineError}
use Rattle.audit_cli_offline.specs.declared.fault.OfflineError.TheVariants as auditor
use Rattle.audit_cli_base.specs.declared.status.Status.{Status}
use Rattle.audit_cli_base.specs.declared.status.Status.TheVariants as ends
use Rattle.audit_cli_base.specs.declared.fault.CommandError.{CommandError}
use Rattle.audit_cli_base.specs.declared.fault.CommandError.TheVariants.{BadArgument, File, InUse, Replaced}
use Rattle.audit_cli_base.specs.declared.fault.CommandError.TheVariants.{TooSmall, Lines, Refused, Export}
use Rattle.audit_cli_base.specs.declared.fault.CommandError.TheVariants.{BadProof, OtherLog}

-- the status as a number
abbrev pub exit_status_of : Status → ℕ
exit_status_of ends.Done = 0
exit_status_of ends.Refused = 1
exit_status_of ends.Usage = 2
exit_status_of ends.Device = 3
exit_status_of ends.Memory = 4

-- the status for an error in lines
abbrev pub status_of_lines : LinesError → Status
status_of_lines lines.InputTooLong = ends.Refused
status_of_lines (lines.Line line cause) = ends.Refused
status_of_lines lines.Read = ends.Device
status_of_lines lines.Write = ends.Device
status_of_lines lines.Memory = ends.Memory

-- the status for a store's error
abbrev pub status_of_refusal : StoreError → Status
status_of_refusal store.Device = ends.Device
status_of_refusal store.Memory = ends.Memory
status_of_refusal _ = ends.Refused

-- the status for an export that can't be verified
abbrev pub status_of_cause : Cause → Status
status_of_cause cause.ReadFault = ends.Device
status_of_cause cause.Memory = ends.Memory
status_of_cause _ = ends.Refused

abbrev pub status_of : CommandError → Status
status_of BadArgument = ends.Usage
status_of File = ends.Device
status_of InUse = ends.Device
status_of Replaced = ends.Device
status_of (Lines cause) = status_of_lines cause
status_of (Refused error) = status_of_refusal error
status_of (Export fault) = status_of_cause fault.cause
status_of _ = ends.Refused

-- the error of a store that has to extend a commitment
abbrev pub of_extending : Commitment → ExtendingError → CommandError
of_extending held (extending.Refused error) = Refused error
of_extending held (extending.OtherLog own) = OtherLog held own

-- not a wrong argument
abbrev pub IsNoWordFault : CommandError → Type 0
IsNoWordFault BadArgument = ⊥
IsNoWordFault _ = Unit {0}

-- the status if the output was written completely
abbrev pub status_of_end : Result (Unit {0}) CommandError → Status
status_of_end (Ok done) = ends.Done
status_of_end (Err fault) = status_of fault

-- the command's error with the same meaning
abbrev pub of_auditor : OfflineError → CommandError
of_auditor (auditor.Export fault) = Export fault
of_auditor (auditor.Lines fault) = Lines fault

abbrev pub of_reading : ProofError → CommandError
of_reading reading.BadProof = BadProof
of_reading reading.Memory = Refused store.Memory

abbrev pub of_file : FileFault → CommandError
of_file file.Io = File
of_file file.Length = File
of_file file.InUse = InUse
of_file (file.TooSmall sectors) = TooSmall sectors
of_file file.Memory = Refused store.Memory

-- why a text wasn't written completely: a write failed, or memory for it was refused before its first byte
abbrev pub IsUnwritten : Option (List ℕ) → Option (List ℕ) → CommandError → Type 0
IsUnwritten before after fault = (fault ≡ Lines lines.Write) ⊎ ((fault ≡ Refused store.Memory) × Keeps before after)
