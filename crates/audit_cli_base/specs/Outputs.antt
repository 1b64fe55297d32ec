-- Why an output isn't made or published.
use Rattle.audit_store.specs.declared.store_error.StoreError.TheVariants as store
use Rattle.audit_cli_base.specs.declared.fault.CommandError.{CommandError}
use Rattle.audit_cli_base.specs.declared.fault.CommandError.TheVariants.{File, FileExists, Refused}

-- A call failed, as `Failed` says; something is in the way that no output may replace, as `Kept` says; or memory was
-- refused.
abbrev pub IsOutputFault : (Failed Kept : Type 0) → CommandError → Type 0
IsOutputFault Failed Kept File = Failed
IsOutputFault Failed Kept FileExists = Kept
IsOutputFault Failed Kept (Refused store.Memory) = Unit {0}
IsOutputFault Failed Kept _ = ⊥
