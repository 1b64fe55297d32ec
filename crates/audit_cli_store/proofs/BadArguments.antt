-- When an argument is a bad one.
use Rattle.std.specs.Prelude.{IfErr, IfSome, OnOk}
use denote.Ref.{Bor}
use Rattle.std.proofs.Common.{◌≡◌, ◌⊎◌, ◌∙◌, inl, inr, ℕ, ◌<◌, ◌≤◌, arith, Option, Some, None, Result, Ok, Err, List, refl, subst}
use Rattle.audit_disk.specs.FileFacts.{FileFacts}
use Rattle.audit_proof.specs.declared.commitment.Commitment.{Commitment}
use Rattle.audit_verify.specs.State.{StateData}
use Rattle.audit_cli_offline.specs.declared.check_form.CheckForm.{CheckForm}
use Rattle.audit_cli_offline.specs.declared.report_form.ReportForm.{ReportForm}
use Rattle.audit_cli_base.specs.Arguments.{IsCommitmentAsked}
use Rattle.audit_cli_base.specs.Faults.{IsNoWordFault}
use Rattle.audit_cli_base.specs.StartFile.{IsNoStart, IsStart, IsStartFault}
use Rattle.audit_cli_base.specs.declared.fault.CommandError.{CommandError}
use Rattle.audit_cli_base.specs.declared.fault.CommandError.TheVariants.{BadArgument}
use Rattle.audit_cli_store.specs.Checks.{HasOtherKindAt, IsChecked, IsOfOtherKind}
use Rattle.audit_cli_store.specs.OpenedProofs.{IsProofOpened}
use Rattle.audit_cli_store.specs.Verifications.{HasNoStartAt, IsStartAt}

-- a call of which no word is the fault
pub never_bad : {T : Type 0} (result : Result T CommandError) → result ≡ Err BadArgument → IfErr result IsNoWordFault → ⊥
never_bad {T = T} result bad fault = subst (λ (given : Result T CommandError). IfErr given IsNoWordFault) bad fault

-- a proof that was read is of the other kind
pub other_checked : (form : CheckForm) (result : Result Unit CommandError) (known : Option (List ℕ)) (older : Commitment) (newer : Option Commitment) (old new : Option (List ℕ)) → result ≡ Err BadArgument
    → IfSome known (λ bytes. IsChecked form result bytes older newer old new) → IfSome known (λ bytes. IsOfOtherKind bytes newer)
other_checked form result None older newer old new bad found = tt
other_checked form result (Some bytes) older newer old new bad found = (subst (λ (given : Result Unit CommandError). IsChecked form given bytes older newer old new) bad found).0

pub other_opened : (form : ReportForm) (key : List ℕ) (result : Result ℕ CommandError) (known : Option (List ℕ)) (commitment : Commitment) (old new : Option (List ℕ)) → result ≡ Err BadArgument
    → IfSome known (λ bytes. IsProofOpened form key result bytes commitment old new) → IfSome known (λ bytes. IsOfOtherKind bytes None)
other_opened form key result None commitment old new bad found = tt
other_opened form key result (Some bytes) commitment old new bad found = (subst (λ (given : Result ℕ CommandError). IsProofOpened form key given bytes commitment old new) bad found).0

-- no start was read
pub startless : {T : Type 0} (result : Result T CommandError) (known : Option (List ℕ)) → result ≡ Err BadArgument → IfErr result (IsStartFault known) → IfSome known IsNoStart
startless {T = T} result known bad why = subst (λ (given : Result T CommandError). IfErr given (IsStartFault known)) bad why

-- the call doesn't change what holds before it
pub holds_anyway : {T E P : Type 0} (result : Result T E) → P → OnOk result P
holds_anyway (Ok value) holds = holds
holds_anyway (Err error) holds = tt

-- what isn't less is at least as much
pub not_ahead : (n m : ℕ) → (n < m → ⊥) → m ≤ n
not_ahead n m none = omega (arith, none)
