-- A device over a source that is only read, with the writes kept over it.
use Rattle.std.specs.Prelude.{◌≡◌, ℕ, ◌<◌, Option, Some, None, List, [], ◌∷◌, length, reverse, OnOk}
use Rattle.audit_disk_model.specs.Image.{Sector, Image, sector_at, with_sector}
use Rattle.audit_disk_model.specs.Calls.{Outcome, MayBeWritten}
use Rattle.audit_disk.specs.SectorSource.{SourceView}
use Rattle.audit_disk.specs.declared.block.Block.{Block}
use Rattle.audit_disk.specs.declared.call.Call.{Call}
use Rattle.audit_disk.specs.declared.call.Effect.{Effect}
use Rattle.audit_disk.specs.declared.call.Effect.TheVariants.{Write, Sync}

-- the content after a call
abbrev pub content_by : Effect → Image → Image
content_by (Write at block) content = with_sector content at block.bytes
content_by Sync content = content

-- the content after these calls, latest first
abbrev pub content_over : List Call → Image → Image
content_over [] start = start
content_over (call ∷ older) start = content_by call.effect (content_over older start)

-- the images that a crash may leave after a call, given those before it
abbrev pub images_after : Effect → Image → (Image → Type 0) → Image → Type 0
images_after (Write at block) content left image = MayBeWritten left at block.bytes image
images_after Sync content left image = image ≡ content

-- the images that a crash may leave after these calls, latest first; at the start nothing is pending
abbrev pub left_over : List Call → Image → Image → Type 0
left_over [] start image = image ≡ start
left_over (call ∷ older) start image = images_after call.effect (content_over older start) (left_over older start) image

-- the bytes of the block that was found, or else these bytes
abbrev pub bytes_or : Option Block → Sector → Sector
bytes_or None bytes = bytes
bytes_or (Some block) bytes = block.bytes

-- on any image, after these calls the sector has the bytes that were found, or else the image's own
pub record IsLastWritten (calls : List Call) (at : ℕ) (found : Option Block) : Type 0 where
  pub over : (image : Image) → at < length image
      → sector_at (content_over (reverse calls) image) at ≡ bytes_or found (sector_at image at)

-- a read of the source with these calls applied over it
abbrev pub IsReadThrough : SourceView → List Call → ℕ → Sector → Outcome → Type 0
IsReadThrough source calls at into result = source.honest
    → OnOk result (into ≡ sector_at (content_over (reverse calls) source.content) at)
