-- A file whose length is no whole number of sectors.
use Rattle.std.specs.Prelude.{◌≢◌, ◌%◌, IsErrOf}
use Rattle.std.proofs.Common.{◌≡◌, ℕ, Result, Err, IfErr, sym, ap, subst, refl, ◌∙◌}
use Rattle.audit_base.specs.declared.limits.TheConstants.{SECTOR_SIZE}
use Rattle.audit_disk.specs.FileFaults.{IsMeasuringFault}
use Rattle.audit_disk.specs.Positioned.{PositionedView, IsOnlyRead}
use Rattle.audit_disk.specs.declared.file_fault.FileFault.{FileFault}
use Rattle.audit_disk.specs.declared.file_fault.FileFault.TheVariants.{Length}

module _ {F : Type 0} (positioned : F → PositionedView) (file after : F) (bytes : ℕ) where
  pub ragged : {T : Type 0} (sectors : Result ℕ FileFault) (fault : FileFault) (result : Result T FileFault) → sectors ≡ Err fault → result ≡ Err fault → (IsErrOf sectors Length → bytes % SECTOR_SIZE ≢ 0) → IfErr sectors (λ fault. fault ≡ Length)
      → IsOnlyRead (positioned file) (positioned after) → (positioned after).told bytes → IfErr result (IsMeasuringFault positioned file)
  ragged sectors fault result is same not only read told = subst (λ (r : Result _ FileFault). IfErr r (IsMeasuringFault positioned file)) (sym (same ∙ ap Err was)) (bytes, record { after = after; only = read; told = told }, not (subst (λ (r : Result ℕ FileFault). IsErrOf r Length) (sym (is ∙ ap Err was)) refl))
    where
      was : fault ≡ Length
      was = subst (λ (r : Result ℕ FileFault). IfErr r (λ fault. fault ≡ Length)) is only
