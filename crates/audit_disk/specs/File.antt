-- A file of bytes that is written in whole sectors.
use Rattle.std.specs.Prelude.{◌≡◌, ◌≢◌, ◌⊎◌, ℕ, zero, suc, ◌+◌, ◌*◌, ◌%◌, ◌^◌, ◌<◌, ◌≤◌, min, List, [], ◌∷◌, ◌++◌}
use Rattle.std.specs.Prelude.{length, take, drop, Result, OnOk, OnErr}
use Rattle.audit_disk_model.specs.Image.{Sector, Image, sector_at}
use Rattle.audit_disk_model.specs.View.{last_count}
use Rattle.audit_disk_model.specs.Calls.{CountsFailure, HasRisen}
use Rattle.audit_base.specs.declared.limits.TheConstants.{SECTOR_SIZE}

-- the file with these bytes written at the offset
abbrev pub overlaid : List ℕ → ℕ → List ℕ → List ℕ
overlaid file offset bytes = take offset file ++ bytes ++ drop (offset + length bytes) file

-- the file with these consecutive sectors written from the offset on
abbrev pub overlaid_row : List ℕ → ℕ → List Sector → List ℕ
overlaid_row file offset [] = file
overlaid_row file offset (bytes ∷ row) = overlaid_row (overlaid file offset bytes) (offset + SECTOR_SIZE) row

-- the file with some of these consecutive sectors written, each of them whole, and the others not
abbrev pub SomeWritten : List ℕ → ℕ → List Sector → List ℕ → Type 0
SomeWritten file offset [] new = new ≡ file
SomeWritten file offset (bytes ∷ row) new = SomeWritten file (offset + SECTOR_SIZE) row new
    ⊎ SomeWritten (overlaid file offset bytes) (offset + SECTOR_SIZE) row new

-- the first sectors of a file
abbrev pub sectors_of : ℕ → List ℕ → Image
sectors_of zero file = []
sectors_of (suc count) file = take SECTOR_SIZE file ∷ sectors_of count (drop SECTOR_SIZE file)

-- What is known of a file: the crash model, in which a write at a multiple of the sector size lands whole or not at
-- all.
pub record FileView : Type 1 where
  -- what reads return
  pub bytes : List ℕ
  -- how many writes and syncs were requested
  pub moment : ℕ
  -- what a crash at this moment may leave
  pub left_at : ℕ → List ℕ → Type 0
  -- how many calls have failed
  pub failures : ℕ
  -- the last successful read at this offset returned these bytes, and nothing was written there since
  pub gave : ℕ → Sector → Type 0
  -- the file behaves as described here
  pub honest : Type 0
  -- a proposition: it is either true or false, and carries no other information
  pub given_once : (offset : ℕ) (bytes : Sector) → IsProp (gave offset bytes)
  pub bytes_left : honest → left_at moment bytes
  pub same_length : honest → (at : ℕ) (file : List ℕ) → left_at at file → length file ≡ length bytes

-- What reads returned at other offsets remains valid: nothing was written there.
abbrev pub KeepsGiven : FileView → FileView → ℕ → Type 0
KeepsGiven old new offset = (other : ℕ) (bytes : Sector) → other ≢ offset → old.gave other bytes → new.gave other bytes

-- some calls were made
pub record FileContinues (old new : FileView) : Type 0 where
  pub honest : old.honest → new.honest
  pub was_honest : new.honest → old.honest
  pub kept : old.honest → (at : ℕ) (file : List ℕ) → at ≤ old.moment → old.left_at at file → new.left_at at file
  pub no_other : old.honest → (at : ℕ) (file : List ℕ) → at ≤ old.moment → new.left_at at file → old.left_at at file

pub record IsFileRead {E : Type 0} (old new : FileView) (offset : ℕ) (into : Sector)
    (result : Result (Unit {0}) E) : Type 0 where
  pub goes_on : FileContinues old new
  pub failures : CountsFailure old.failures new.failures result
  pub given : OnOk result (new.gave offset into)
  pub still_given : KeepsGiven old new offset
  pub moment : old.honest → new.moment ≡ old.moment
  pub same : old.honest → new.bytes ≡ old.bytes
  pub found : old.honest → OnOk result (into ≡ take SECTOR_SIZE (drop offset old.bytes))

-- Only reads were requested, of any sectors.
pub record OnlyFileReads (old new : FileView) : Type 0 where
  pub goes_on : FileContinues old new
  -- the count of failures didn't fall
  pub failures : min old.failures last_count ≤ new.failures
  pub moment : old.honest → new.moment ≡ old.moment
  pub same : old.honest → new.bytes ≡ old.bytes

-- The first `count` of these sectors are what the file last returned, one after the other, from the offset on, and
-- nothing was written there since.
pub record HasRow (file : FileView) (offset count : ℕ) (sectors : Image) : Type 0 where
  pub given : (at : ℕ) → at < count → file.gave (offset + SECTOR_SIZE * at) (sector_at sectors at)
  pub found : file.honest → (at : ℕ) → at < count
      → sector_at sectors at ≡ take SECTOR_SIZE (drop (offset + SECTOR_SIZE * at) file.bytes)

-- What reads returned at offsets outside the row remains valid.
abbrev pub KeepsOutside : FileView → FileView → ℕ → ℕ → Type 0
KeepsOutside old new offset count =
    (other : ℕ) (bytes : Sector) → ((at : ℕ) → at < count → other ≢ offset + SECTOR_SIZE * at) → old.gave other bytes
    → new.gave other bytes

-- A read of `count` consecutive sectors: all of them, or an error.
pub record IsRowRead {E : Type 0} (old new : FileView) (offset count : ℕ) (sectors : Image)
    (result : Result (Unit {0}) E) : Type 0 where
  pub only : OnlyFileReads old new
  pub failures : CountsFailure old.failures new.failures result
  pub row : OnOk result (HasRow new offset count sectors)
  pub still_given : KeepsOutside old new offset count

pub record IsFileWrite {E : Type 0} (old new : FileView) (offset : ℕ) (bytes : Sector)
    (result : Result (Unit {0}) E) : Type 0 where
  pub goes_on : FileContinues old new
  pub failures : CountsFailure old.failures new.failures result
  pub still_given : KeepsGiven old new offset
  pub moment : old.honest → old.moment < last_count → new.moment ≡ old.moment + 1
  pub later : old.honest → old.moment ≤ new.moment
  pub stands : old.honest → OnOk result (new.bytes ≡ overlaid old.bytes offset bytes)
  pub stands_err : old.honest → OnErr result ((new.bytes ≡ old.bytes) ⊎ (new.bytes ≡ overlaid old.bytes offset bytes))
  pub images : old.honest → (file : List ℕ) → new.left_at new.moment file
      → old.left_at old.moment file
      ⊎ ((before : List ℕ) × old.left_at old.moment before × (file ≡ overlaid before offset bytes))
  pub unwritten : old.honest → (file : List ℕ) → old.left_at old.moment file → new.left_at new.moment file
  pub written : old.honest
      → OnOk result ((file : List ℕ) → old.left_at old.moment file
      → new.left_at new.moment (overlaid file offset bytes))

-- a crash may leave one of these contents: a possible content of the file now, with some of the row's sectors written
abbrev pub MayLeaveRow : FileView → ℕ → List Sector → List ℕ → Type 0
MayLeaveRow file offset row bytes = (before : List ℕ) × file.left_at file.moment before
    × SomeWritten before offset row bytes

-- A write of consecutive sectors, which counts as one of each.
pub record IsRowWrite {E : Type 0} (old new : FileView) (offset : ℕ) (row : List Sector)
    (result : Result (Unit {0}) E) : Type 0 where
  pub goes_on : FileContinues old new
  pub failures : CountsFailure old.failures new.failures result
  pub still_given : KeepsOutside old new offset (length row)
  pub moment : old.honest → old.moment + length row ≤ last_count → new.moment ≡ old.moment + length row
  pub later : old.honest → old.moment ≤ new.moment
  pub stands : old.honest → OnOk result (new.bytes ≡ overlaid_row old.bytes offset row)
  pub stands_err : old.honest → OnErr result (SomeWritten old.bytes offset row new.bytes)
  pub images : old.honest → (file : List ℕ) → new.left_at new.moment file → MayLeaveRow old offset row file
  pub unwritten : old.honest → (file : List ℕ) → old.left_at old.moment file → new.left_at new.moment file
  pub pending : old.honest
      → OnOk result ((file : List ℕ) → MayLeaveRow old offset row file → new.left_at new.moment file)
  -- if the row succeeded: at each moment some of the sectors so far are written, and nothing else
  pub written : old.honest → old.moment + length row ≤ last_count
      → OnOk result ((count : ℕ) (file : List ℕ) → count ≤ length row → MayLeaveRow old offset (take count row) file
      → new.left_at (old.moment + count) file)
  pub no_other : old.honest → old.moment + length row ≤ last_count
      → OnOk result ((count : ℕ) (file : List ℕ) → count ≤ length row → new.left_at (old.moment + count) file
      → MayLeaveRow old offset (take count row) file)

pub record IsFileSync {E : Type 0} (old new : FileView) (result : Result (Unit {0}) E) : Type 0 where
  pub goes_on : FileContinues old new
  pub failures : CountsFailure old.failures new.failures result
  pub still_given : (other : ℕ) (bytes : Sector) → old.gave other bytes → new.gave other bytes
  pub moment : old.honest → old.moment < last_count → new.moment ≡ old.moment + 1
  pub same : old.honest → new.bytes ≡ old.bytes
  pub only : old.honest → OnOk result ((file : List ℕ) → new.left_at new.moment file → file ≡ old.bytes)
  pub no_other : old.honest → OnErr result ((file : List ℕ) → new.left_at new.moment file → old.left_at old.moment file)
  pub kept : old.honest → OnErr result ((file : List ℕ) → old.left_at old.moment file → new.left_at new.moment file)

-- A read at this offset, by any reads of the file. Ok returns what the file last returned there, with nothing written
-- there since. There is an error only if a call of the file failed.
pub record ReadsFile {E : Type 0} (old new : FileView) (offset : ℕ) (into : Sector)
    (result : Result (Unit {0}) E) : Type 0 where
  pub given : OnOk result (new.gave offset into)
  pub fault : OnErr result (HasRisen old.failures new.failures)

-- A read of one sector at this offset. Other sectors may have been read too, or none at all.
pub record IsReadThrough {E : Type 0} (old new : FileView) (offset : ℕ) (into : Sector)
    (result : Result (Unit {0}) E) : Type 0 where
  pub only : OnlyFileReads old new
  pub file : ReadsFile old new offset into result
  pub found : old.honest → OnOk result (into ≡ take SECTOR_SIZE (drop offset old.bytes))

-- the offset is that of a whole sector
pub record IsSectorOffset (file : FileView) (offset : ℕ) : Type 0 where
  pub multiple : offset % SECTOR_SIZE ≡ 0
  pub within : file.honest → offset + SECTOR_SIZE ≤ length file.bytes

-- `count` whole sectors start at this offset
pub record IsRowOffset (file : FileView) (offset count : ℕ) : Type 0 where
  pub multiple : offset % SECTOR_SIZE ≡ 0
  pub within : file.honest → offset + SECTOR_SIZE * count ≤ length file.bytes
  pub fits : offset + SECTOR_SIZE * count ≤ 2 ^ 64

-- the file has at least `sectors` sectors, and no write or sync was requested
pub record IsUnusedFile (file : FileView) (sectors : ℕ) : Type 0 where
  pub sized : file.honest → SECTOR_SIZE * sectors ≤ length file.bytes
  pub moment : file.honest → file.moment ≡ 0
