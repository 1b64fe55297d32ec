-- Rows of consecutive sectors over an image.
use Rattle.std.specs.Prelude.{◌≡◌, ◌⊎◌, ℕ, ◌+◌, ◌-◌, ◌<◌, ◌≤◌, min, nat_lt, cond}
use Rattle.std.specs.Prelude.{Option, Some, None, List, [], ◌∷◌, length, take}
use Rattle.audit_disk_model.specs.Image.{Sector, Image, sector_at, with_sector}
use Rattle.audit_base.specs.declared.limits.TheConstants.{SECTOR_SIZE}

-- the image with these consecutive sectors written, from number `at` on; those past its end are left out
abbrev pub with_row : Image → ℕ → List Sector → Image
with_row image at [] = image
with_row image at (bytes ∷ row) = with_row (with_sector image at bytes) (at + 1) row

-- sector k is in the row with these bytes
pub record StandsInRow (at : ℕ) (row : List Sector) (k : ℕ) (bytes : Sector) : Type 0 where
  pub from : at ≤ k
  pub to : k < at + length row
  pub is : bytes ≡ sector_at row (k - at)

-- each sector independently is the old one or the row's
pub record MayHaveRow (at : ℕ) (row : List Sector) (old new : Image) : Type 0 where
  pub sectors : length new ≡ length old
  pub each : (k : ℕ) → (sector_at new k ≡ sector_at old k) ⊎ StandsInRow at row k (sector_at new k)

-- each sector of the row is whole
pub record IsWholeRow (row : List Sector) : Type 0 where
  pub each : (k : ℕ) → k < length row → length (sector_at row k) ≡ SECTOR_SIZE

-- The file's moment at this moment of the clock. Up to `split` the clock counts the calls that the file had made at
-- `base`, and then kept writes. From there on both advance together, up to the last call that reached the file.
abbrev pub file_moment : (base split reached now : ℕ) → ℕ → ℕ
file_moment base split reached now at = cond (nat_lt at split) (min at base) (now - (reached - at))

-- what is kept at this moment of the clock
abbrev pub row_at : (base split : ℕ) (kept active : List Sector) → ℕ → List Sector
row_at base split kept active at = cond (nat_lt at split) (take (at - base) kept) active

-- what the file doesn't have yet: nothing once each write is made by itself
abbrev pub active_row : Option ℕ → List Sector → List Sector
active_row None kept = kept
active_row (Some from) kept = []
