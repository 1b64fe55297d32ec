-- Sectors that were written to a device and not yet to its file.
use Rattle.std.specs.Prelude.{◌≡◌, ◌⊎◌, ℕ, ◌+◌, ◌<◌, ◌≤◌, List, [], ◌∷◌, ◌++◌, take}
use Rattle.audit_disk_model.specs.Image.{Sector}
use Rattle.audit_disk.specs.declared.kept_row.KeptRow.{KeptRow}
use Rattle.audit_disk.specs.declared.kept_row.TheConstants.{KEPT_FROM}
use Rattle.audit_disk.specs.declared.read_ahead.TheConstants.{ROW_SECTORS}

-- the kept sectors in order
abbrev pub kept_sectors : KeptRow → List Sector
kept_sectors kept = take kept.count kept.row.items

-- nothing is kept
pub record IsEmptyRow (kept : KeptRow) : Type 0 where
  pub start : kept.start ≡ 0
  pub count : kept.count ≡ 0

-- a write of this sector can be kept
pub record TakesSector (kept : KeptRow) (at : ℕ) : Type 0 where
  pub after_headers : KEPT_FROM ≤ at
  pub room : kept.count < ROW_SECTORS
  pub follows : (kept.count ≡ 0) ⊎ (at ≡ kept.start + kept.count)

-- it is kept after those that were
pub record KeepsSector (old new : KeptRow) (at : ℕ) (bytes : Sector) : Type 0 where
  pub there : new.start + old.count ≡ at
  pub first : (old.count ≡ 0) ⊎ (new.start ≡ old.start)
  pub count : new.count ≡ old.count + 1
  pub sectors : kept_sectors new ≡ kept_sectors old ++ bytes ∷ []
