-- Errors of the calls by which files get their names.
use Rattle.std.proofs.Common.{◌≡◌, sym, subst}
use Rattle.audit_store.specs.declared.store_error.StoreError.TheVariants.{Memory}
use Rattle.audit_cli_base.specs.declared.fault.CommandError.{CommandError}
use Rattle.audit_cli_base.specs.declared.fault.CommandError.TheVariants.{File, Refused}
use Rattle.audit_cli_rotate.specs.LinkFile.{IsCallFault}

-- a call failed
pub call_fault : (Failed : Type 0) (fault : CommandError) → fault ≡ File → Failed → IsCallFault Failed fault
call_fault Failed fault file failed = subst (IsCallFault Failed) (sym file) failed

-- memory was refused
pub memory_fault : (Failed : Type 0) (fault : CommandError) → fault ≡ Refused Memory → IsCallFault Failed fault
memory_fault Failed fault memory = subst (IsCallFault Failed) (sym memory) tt
