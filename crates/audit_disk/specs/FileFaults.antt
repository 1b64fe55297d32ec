-- The fault of a failed call of a file.
use Rattle.std.specs.declared.fs.TryLockError.{TryLockError}
use Rattle.std.specs.declared.fs.TryLockError.TheVariants as lock
use Rattle.audit_disk.specs.declared.file_fault.FileFault.{FileFault}
use Rattle.audit_disk.specs.declared.file_fault.FileFault.TheVariants.{Io, InUse, Memory, Length, TooSmall}
use Rattle.audit_disk.specs.declared.files.TheConstants.{OWNER_ONLY}
use Rattle.audit_disk.specs.declared.guards.Hold.{Hold}
use Rattle.audit_disk.specs.FileFacts.{FileFacts, IsOpenedAs}
use Rattle.audit_disk.specs.Positioned.{PositionedView, IsOnlyRead}
use Rattle.audit_base.specs.declared.limits.TheConstants.{SECTOR_SIZE}
use Rattle.std.specs.Prelude.{◌≡◌, ◌≢◌, ◌⊎◌, ℕ, ◌/◌, ◌%◌, ◌<◌, List}

-- another open holds the lock, or the call itself failed
abbrev pub of_lock : TryLockError → FileFault
of_lock lock.WouldBlock = InUse
of_lock (lock.Error error) = Io

-- a call of the system failed, or memory was refused
abbrev pub IsSystemFault : (failed : Type 0) → FileFault → Type 0
IsSystemFault failed Io = failed
IsSystemFault failed Memory = Unit {0}
IsSystemFault failed _ = ⊥

module _ {F : Type 0} (facts : F → FileFacts) where
  -- Why a file couldn't be opened and locked: a call of the system or of a file failed, another open holds the lock of
  -- a file whose lock was asked for, or memory was refused.
  abbrev pub IsLockingFault : (failed : Type 0) → FileFault → Type 0
  IsLockingFault failed Io = failed ⊎ ((file : F) × (facts file).failed)
  IsLockingFault failed InUse = (file : F) × (facts file).failed
  IsLockingFault failed Memory = Unit {0}
  IsLockingFault failed _ = ⊥

  -- a call of a file that was made at this path failed
  pub record FailsNewFile (path : List ℕ) : Type 0 where
    pub file : F
    pub made : (facts file).made path OWNER_ONLY
    pub failed : (facts file).failed

  -- Why no file was made at a path: a call of the system or of the new file failed, or its lock couldn't be had, or its
  -- length would be 2^64 bytes or more, or memory was refused.
  abbrev pub IsMakingFault : (failed : Type 0) → List ℕ → FileFault → Type 0
  IsMakingFault failed path Io = failed ⊎ FailsNewFile path
  IsMakingFault failed path InUse = FailsNewFile path
  IsMakingFault failed path Length = Unit {0}
  IsMakingFault failed path Memory = Unit {0}
  IsMakingFault failed path (TooSmall sectors) = ⊥

module _ {F : Type 0} (positioned : F → PositionedView) (file : F) where
  -- The file was asked for its length, and that call failed.
  pub record FailsToMeasure : Type 0 where
    pub after : F
    pub only : IsOnlyRead (positioned file) (positioned after)
    pub failed : (positioned after).last_failed

  -- The file was asked for its length, and answered with this number of bytes.
  pub record TellsLength (bytes : ℕ) : Type 0 where
    pub after : F
    pub only : IsOnlyRead (positioned file) (positioned after)
    pub told : (positioned after).told bytes

  -- Why a file isn't a device of all its sectors: the call for its length failed, or that is no whole number of
  -- sectors, or memory was refused.
  abbrev pub IsMeasuringFault : FileFault → Type 0
  IsMeasuringFault Io = FailsToMeasure
  IsMeasuringFault Length = (bytes : ℕ) × TellsLength bytes × (bytes % SECTOR_SIZE ≢ 0)
  IsMeasuringFault Memory = Unit {0}
  IsMeasuringFault _ = ⊥

  -- Why a file isn't a device of this many sectors: the call for its length failed, or it has fewer, or memory was
  -- refused.
  abbrev pub IsFrontFault : ℕ → FileFault → Type 0
  IsFrontFault sectors Io = FailsToMeasure
  IsFrontFault sectors (TooSmall held) = (held < sectors) × ((bytes : ℕ) × TellsLength bytes × (held ≡ bytes / SECTOR_SIZE))
  IsFrontFault sectors Memory = Unit {0}
  IsFrontFault sectors _ = ⊥

module _ {F : Type 0} (facts : F → FileFacts) (positioned : F → PositionedView) where
  -- a file that was opened and locked so isn't a device, for this reason
  pub record IsNoDevice (hold : Hold) (path : List ℕ) (Reason : F → Type 0) : Type 0 where
    pub file : F
    pub opened : IsOpenedAs hold path (facts file)
    pub reason : Reason file

  -- Why what is at a path couldn't be opened as a device: a call of the system, of a file that was to be locked, or of
  -- the one that was opened and locked failed; another open holds a lock; its length is no whole number of sectors; or
  -- memory was refused.
  abbrev pub IsOpeningFault : (failed : Type 0) → Hold → List ℕ → FileFault → Type 0
  IsOpeningFault failed hold path Io = IsLockingFault facts failed Io ⊎ IsNoDevice hold path (FailsToMeasure positioned)
  IsOpeningFault failed hold path InUse = (file : F) × (facts file).failed
  IsOpeningFault failed hold path Length = IsNoDevice hold path (λ file. IsMeasuringFault positioned file Length)
  IsOpeningFault failed hold path Memory = Unit {0}
  IsOpeningFault failed hold path (TooSmall sectors) = ⊥

  -- the same if this many sectors are asked for
  abbrev pub IsFrontOpeningFault : (failed : Type 0) → Hold → List ℕ → ℕ → FileFault → Type 0
  IsFrontOpeningFault failed hold path sectors Io =
      IsLockingFault facts failed Io ⊎ IsNoDevice hold path (FailsToMeasure positioned)
  IsFrontOpeningFault failed hold path sectors InUse = (file : F) × (facts file).failed
  IsFrontOpeningFault failed hold path sectors (TooSmall held) =
      IsNoDevice hold path (λ file. IsFrontFault positioned file sectors (TooSmall held))
  IsFrontOpeningFault failed hold path sectors Memory = Unit {0}
  IsFrontOpeningFault failed hold path sectors Length = ⊥
