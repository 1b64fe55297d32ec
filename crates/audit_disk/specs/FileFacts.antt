-- What a program knows of an open file of the system because a call succeeded.
use Rattle.std.specs.Prelude.{◌≡◌, ℕ, ◌*◌, List, [], length, replicate, Result, OnOk}
use Rattle.audit_disk_model.specs.View.{View}
use Rattle.audit_base.specs.declared.limits.TheConstants.{SECTOR_SIZE}
use Rattle.audit_disk.specs.declared.files.TheConstants.{OWNER_ONLY}
use Rattle.audit_disk.specs.declared.guards.Hold.{Hold}
use Rattle.audit_disk.specs.declared.guards.Hold.TheVariants.{Alone, Shared}
use Rattle.audit_disk.specs.MemDisk.{IsFresh}
use Rattle.audit_disk.specs.Positioned.{PositionedView, IsUncalled, ShowsFront}

-- Each fact is established by its call alone: code that is generic over the file can have it from nothing else.
pub record FileFacts : Type 1 where
  -- what is at this path was opened, for reading and writing
  pub opened : List ℕ → Type 0
  -- it was opened for reading alone
  pub opened_to_read : List ℕ → Type 0
  -- it was made at this path, where nothing was, with these permission bits
  pub made : List ℕ → ℕ → Type 0
  -- no other open holds a lock of it
  pub locked : Type 0
  -- no other open holds it locked alone
  pub locked_shared : Type 0
  -- its permission bits are these: those that the last call gave it, or it was made with them, less those of the umask
  pub mode : ℕ → Type 0
  -- it was given this length and synced
  pub laid_out : ℕ → Type 0
  -- a call that locks it, or gives it its permission bits or its length, failed
  pub failed : Type 0

-- a file of which each call establishes its fact
abbrev pub facts_of_calls : FileFacts
facts_of_calls = record {
  opened = λ path. Unit {0};
  opened_to_read = λ path. Unit {0};
  made = λ path mode. Unit {0};
  locked = Unit {0};
  locked_shared = Unit {0};
  mode = λ mode. Unit {0};
  laid_out = λ length. Unit {0};
  failed = Unit {0};
}

-- what was known before is still known, except for the permission bits
pub record KeepsPlace (old new : FileFacts) : Type 0 where
  pub made : (path : List ℕ) (mode : ℕ) → old.made path mode → new.made path mode
  pub locked : old.locked → new.locked

-- what was known before is still known
pub record KeepsFacts (old new : FileFacts) : Type 0 where
  pub place : KeepsPlace old new
  pub mode : (mode : ℕ) → old.mode mode → new.mode mode

-- a new file: no call was made, and it has no bytes
pub record IsNewFile (file : PositionedView) : Type 0 where
  pub uncalled : IsUncalled file
  pub empty : file.honest → file.bytes ≡ []

-- only the permission bits of a file have changed
pub record HasSameBytes (old new : PositionedView) : Type 0 where
  pub honest : old.honest → new.honest
  pub was_honest : new.honest → old.honest
  pub uncalled : IsUncalled old → IsUncalled new
  pub bytes : old.honest → new.bytes ≡ old.bytes

-- An empty file was given this length. Then it has zeros, and a crash leaves them.
pub record IsLaidOut {E : Type 0} (old new : PositionedView) (length : ℕ) (result : Result (Unit {0}) E) : Type 0 where
  pub honest : old.honest → new.honest
  pub was_honest : new.honest → old.honest
  pub uncalled : IsUncalled old → IsUncalled new
  pub zeros : old.honest → old.bytes ≡ [] → OnOk result (new.bytes ≡ replicate length 0)
  pub only : old.honest → OnOk result ((left : List ℕ) → new.left_at new.moment left → left ≡ new.bytes)

-- nobody else has it open in a way that this lock excludes
abbrev pub IsHeldAs : Hold → FileFacts → Type 0
IsHeldAs Alone facts = facts.locked
IsHeldAs Shared facts = facts.locked_shared

-- what is at this path was opened and locked: for writing too if the lock is held alone
abbrev pub IsOpenedAs : Hold → List ℕ → FileFacts → Type 0
IsOpenedAs Alone path facts = facts.opened path × facts.locked
IsOpenedAs Shared path facts = facts.opened_to_read path × facts.locked_shared

module _ {F : Type 0} (facts : F → FileFacts) (positioned : F → PositionedView) where
  -- The device has the first sectors of a file that was opened and locked so, before any call of it.
  pub record IsFrontOfOpened (hold : Hold) (path : List ℕ) (view : View) : Type 0 where
    pub file : F
    pub opened : IsOpenedAs hold path (facts file)
    pub front : ShowsFront (positioned file) view

  -- the same for all sectors of the file
  pub record IsWholeOpened (hold : Hold) (path : List ℕ) (view : View) : Type 0 where
    pub file : F
    pub opened : IsOpenedAs hold path (facts file)
    pub front : ShowsFront (positioned file) view
    pub whole : (positioned file).honest → length (positioned file).bytes ≡ SECTOR_SIZE * view.size

  -- The device is over a file that was made at this path for its owner alone and then locked, given its length, and
  -- synced. It has these permission bits, and no others were given to it since. If the file is honest, it is all zeros.
  pub record IsMadeDevice (path : List ℕ) (mode sectors : ℕ) (view : View) : Type 0 where
    pub file : F
    pub made : (facts file).made path OWNER_ONLY
    pub locked : (facts file).locked
    pub permissions : (facts file).mode mode
    pub laid_out : (facts file).laid_out (SECTOR_SIZE * sectors)
    pub zeros : (positioned file).honest → IsFresh view (replicate sectors (replicate SECTOR_SIZE 0))
    pub honest : view.honest → (positioned file).honest
