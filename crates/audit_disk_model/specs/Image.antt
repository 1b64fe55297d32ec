-- The contents of a device: a list of sectors.
use Rattle.std.specs.Prelude.{◌≡◌, ℕ, ◌+◌, ◌<◌, ◌≤◌, List, ◌++◌, length, take, drop, slice_index_or, slice_set, []}
use Rattle.audit_base.specs.declared.limits.TheConstants.{SECTOR_SIZE}

-- the bytes of a sector
abbrev pub Sector : Type 0
Sector = List ℕ

-- the sectors of a device in order
abbrev pub Image : Type 0
Image = List Sector

-- the sector with this number
abbrev pub sector_at : Image → ℕ → Sector
sector_at image at = slice_index_or image at []

-- the image with one sector replaced
abbrev pub with_sector : Image → ℕ → Sector → Image
with_sector image at bytes = slice_set image at bytes

-- the image with consecutive sectors replaced, from number `at` on
abbrev pub with_sectors : Image → ℕ → List Sector → Image
with_sectors image at sectors = take at image ++ sectors ++ drop (at + length sectors) image

-- the image has as many sectors as the device, each of full length
pub record IsWhole (size : ℕ) (image : Image) : Type 0 where
  pub sectors : length image ≡ size
  pub each : (at : ℕ) → at < size → length (sector_at image at) ≡ SECTOR_SIZE

-- the images are equal except in `count` sectors from `at` on
pub record DiffersOnlyIn (at count : ℕ) (old new : Image) : Type 0 where
  pub sectors : length new ≡ length old
  pub before : (other : ℕ) → other < at → sector_at new other ≡ sector_at old other
  pub after : (other : ℕ) → at + count ≤ other → sector_at new other ≡ sector_at old other
