-- Why sockets weren't made.
use Rattle.std.proofs.Common.{◌≡◌, ◌⊎◌, inl, inr, refl, sym, subst}
use Rattle.audit_store.specs.declared.store_error.StoreError.TheVariants.{Memory}
use Rattle.audit_cli_base.specs.declared.fault.CommandError.{CommandError}
use Rattle.audit_cli_base.specs.declared.fault.CommandError.TheVariants.{BadArgument, File, Refused}
use Rattle.audit_cli_base.specs.Faults.{IsNoWordFault}
use Rattle.audit_cli_daemon.specs.Sockets.{IsBindFault}

-- a call failed, and this is the error
pub bind_fault : (Failed : Type 0) (fault : CommandError) → Failed → (fault ≡ File) ⊎ (fault ≡ Refused Memory) → IsBindFault Failed fault
bind_fault Failed fault failed (inl file) = subst (IsBindFault Failed) (sym file) failed
bind_fault Failed fault failed (inr memory) = subst (IsBindFault Failed) (sym memory) refl

-- which is not of a word
pub no_word : (Failed : Type 0) (fault : CommandError) → IsBindFault Failed fault → IsNoWordFault fault
no_word Failed BadArgument bound = bound
no_word Failed _ bound = tt
