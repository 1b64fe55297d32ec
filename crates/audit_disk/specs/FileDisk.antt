-- A device in a file.
use Rattle.std.specs.Prelude.{◌≡◌, ◌⊎◌, ℕ, ◌+◌, ◌-◌, ◌<◌, ◌≤◌, min, Bool, true, false, Option, Some, None, List, []}
use Rattle.std.specs.Prelude.{take, IsErr, unwrap_or}
use Rattle.std.specs.Option.{is_some}
use Rattle.audit_disk_model.specs.Image.{Sector, Image}
use Rattle.audit_disk_model.specs.View.{View, last_count}
use Rattle.audit_disk_model.specs.Calls.{Outcome}
use Rattle.audit_disk.specs.File.{FileView, sectors_of}
use Rattle.audit_disk.specs.FileView.{file_view}
use Rattle.audit_disk.specs.RowLaws.{sectors_fit, whole_active}
use Rattle.audit_disk.specs.Rows.{active_row}
use Rattle.audit_disk.specs.KeptRow.{kept_sectors, TakesSector}
use Rattle.audit_disk.specs.KeptRowLaws.{whole_kept}
use Rattle.audit_disk.specs.declared.file_disk.FileDisk.{FileDisk}
use Rattle.audit_disk.specs.declared.file_disk.TheConstants.{LAST_SINGLE}
use Rattle.audit_disk.specs.declared.sector_file.SectorFile as files

-- the clock from which on writes and syncs are refused
abbrev pub end_from : Option ℕ → ℕ
end_from None = last_count
end_from (Some from) = LAST_SINGLE

-- two more calls of the file have failed, or the count is at its maximum
abbrev pub HasRisenTwice : ℕ → ℕ → Type 0
HasRisenTwice old new = min (old + 2) last_count ≤ new

-- a device of the first sectors of another
pub record IsFrontOf (front whole : View) (count : ℕ) : Type 0 where
  pub size : front.size ≡ count
  pub content : front.content ≡ take count whole.content
  pub clock : front.clock ≡ whole.clock
  pub failures : front.failures ≡ whole.failures
  pub honest : whole.honest → front.honest
  pub was_honest : front.honest → whole.honest
  -- a crash leaves the first sectors of what it leaves of the other device, and nothing else
  pub left : (moment : ℕ) (image : Image) → whole.left_at moment image → front.left_at moment (take count image)
  pub no_other : (moment : ℕ) (image : Image) → front.left_at moment image → (full : Image) × whole.left_at moment full
      × (image ≡ take count full)

module _ {F : Type 0} {g : files.Ghosts F} where
  -- everything that is known of it as a device
  abbrev pub file_disk_view : FileDisk F g → View
  file_disk_view disk =
      file_view (g.file disk.file.inner) (record {
        sectors = disk.sectors;
        clock = disk.clock;
        failures = disk.failures;
        start = disk.kept.start;
        kept = kept_sectors disk.kept;
        active = active_row disk.single_from (kept_sectors disk.kept);
        base = unwrap_or disk.single_from (unwrap_or disk.failed_at disk.clock) - disk.kept.count;
        split = unwrap_or disk.single_from (unwrap_or disk.failed_at disk.clock);
        reached = unwrap_or disk.failed_at disk.clock;
        fits = sectors_fit disk.sectors disk.fits;
        in_range = disk.in_range;
        in_order = disk.split_in_order;
        le = disk.in_order;
        whole = whole_kept disk.kept;
        whole_active = whole_active disk.single_from (kept_sectors disk.kept) (whole_kept disk.kept);
        sized = disk.sized;
      })

  -- its file
  abbrev pub file_inside : FileDisk F g → F
  file_inside disk = disk.file.inner

  -- everything that is known of its file
  abbrev pub file_of : FileDisk F g → FileView
  file_of disk = g.file disk.file.inner

  -- what was written and the file doesn't have yet
  abbrev pub waiting : FileDisk F g → List Sector
  waiting disk = active_row disk.single_from (kept_sectors disk.kept)

  -- the sector isn't among them
  abbrev pub IsElsewhere : FileDisk F g → ℕ → Type 0
  IsElsewhere disk at = (waiting disk ≡ []) ⊎ ((at < disk.kept.start) ⊎ (disk.kept.start + disk.kept.count ≤ at))

  -- a write of this sector can be kept
  pub record CanKeep (disk : FileDisk F g) (at : ℕ) : Type 0 where
    pub rows : disk.single_from ≡ None
    pub takes : TakesSector disk.kept at

  abbrev pub end_of : FileDisk F g → ℕ
  end_of disk = end_from disk.single_from

  -- a sync or a row failed, or a call was refused at the end of the clock
  abbrev pub has_stopped : FileDisk F g → Bool
  has_stopped disk = is_some disk.failed_at

  -- the next write or sync reaches the file
  pub record PassesCalls (disk : FileDisk F g) : Type 0 where
    pub working : has_stopped disk ≡ false
    pub below_end : (file_disk_view disk).clock < end_of disk

  -- Two calls of the file have failed: a row, and then one of its sectors by itself. So close to the end of the clock
  -- that its sectors aren't written again, the row is enough.
  abbrev pub HasLostRow : FileDisk F g → FileDisk F g → Type 0
  HasLostRow old new = (file_disk_view old).clock < LAST_SINGLE
      → HasRisenTwice (file_of old).failures (file_of new).failures

  -- no call reaches the file any more, because a sync or a row failed or the clock is at its end
  abbrev pub IsShut : FileDisk F g → Type 0
  IsShut disk = (has_stopped disk ≡ true) ⊎ (end_of disk ≤ (file_disk_view disk).clock)

  -- the call failed and didn't reach the file
  pub record IsKeptBack (old new : FileDisk F g) (result : Outcome) : Type 0 where
    pub fails : IsErr result
    pub unseen : new.file ≡ old.file

  -- the device has the sectors of this file, and no call of it was made
  pub record IsOverFile (disk : FileDisk F g) (file : F) (count : ℕ) : Type 0 where
    pub size : (file_disk_view disk).size ≡ count
    pub content : (file_disk_view disk).content ≡ sectors_of count (g.file file).bytes
    pub clock : (file_disk_view disk).clock ≡ 0
    pub failures : (file_disk_view disk).failures ≡ 0
    pub working : has_stopped disk ≡ false
    pub honest : (g.file file).honest → (file_disk_view disk).honest
    pub was_honest : (file_disk_view disk).honest → (g.file file).honest
    -- a crash now may leave the sectors of any file that a crash may leave, and nothing else
    pub left : (g.file file).honest → (bytes : List ℕ) → (g.file file).left_at (g.file file).moment bytes
        → (file_disk_view disk).left_at 0 (sectors_of count bytes)
    pub no_other : (image : Image) → (file_disk_view disk).left_at 0 image → (bytes : List ℕ)
        × (g.file file).left_at (g.file file).moment bytes × (image ≡ sectors_of count bytes)

  -- no call was made
  pub record IsFreshFile (disk : FileDisk F g) : Type 0 where
    pub clock : (file_disk_view disk).clock ≡ 0
    pub failures : (file_disk_view disk).failures ≡ 0
    pub working : has_stopped disk ≡ false
