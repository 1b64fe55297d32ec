-- Why the file of a witness, or of a reader, couldn't be locked within a time.
use Rattle.std.specs.Prelude.{ℕ}
use Rattle.audit_disk.specs.FileFacts.{FileFacts}
use Rattle.audit_cli_base.specs.declared.fault.CommandError.TheVariants.{File}
use Rattle.audit_cli_connection.specs.Dialing.{HavePassed}
use Rattle.audit_cli_connection.specs.declared.fault.RemoteError.{RemoteError}
use Rattle.audit_cli_connection.specs.declared.fault.RemoteError.TheVariants.{Command, StateInUse, ReaderInUse}

module _ {F : Type 0} (facts : F → FileFacts) where
  -- a call of a file failed that locks it, or judges whether it is the one at its path
  abbrev pub HasFailedCall : Type 0
  HasFailedCall = (file : F) × (facts file).failed

  -- a try to lock failed for that, or with a file fault
  abbrev pub IsUnlockedNow : RemoteError → Type 0
  IsUnlockedNow StateInUse = HasFailedCall
  IsUnlockedNow (Command File) = Unit {0}
  IsUnlockedNow _ = ⊥

  -- The file is in use: a try to lock failed, and the seconds are over by a clock that read so.
  abbrev pub IsInUse : (read : ℕ → Type 0) → ℕ → Type 0
  IsInUse read seconds = HasFailedCall × HavePassed read seconds

  -- why it wasn't locked within the seconds: it is in use, or there was a file fault
  abbrev pub IsUnlocked : (read : ℕ → Type 0) → ℕ → RemoteError → Type 0
  IsUnlocked read seconds StateInUse = IsInUse read seconds
  IsUnlocked read seconds (Command File) = Unit {0}
  IsUnlocked read seconds _ = ⊥

  -- the same for the file of a reader
  abbrev pub IsReaderUnlocked : (read : ℕ → Type 0) → ℕ → RemoteError → Type 0
  IsReaderUnlocked read seconds ReaderInUse = IsInUse read seconds
  IsReaderUnlocked read seconds (Command File) = Unit {0}
  IsReaderUnlocked read seconds _ = ⊥
