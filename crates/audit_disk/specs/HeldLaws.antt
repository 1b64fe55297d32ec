-- Laws of sectors' contents: what reads return is a possible image, and each image is a whole device.
use Rattle.std.specs.Prelude.{◌≡◌, ℕ, zero, suc, ◌<◌, List, [], ◌∷◌, length, refl}
use Rattle.std.proofs.Common.{sym, ◌∙◌, ap, arith}
use Rattle.audit_disk_model.specs.Image.{Image, IsWhole, sector_at}
use Rattle.audit_disk.specs.Held.{Held, picked, newest, content_of, IsImageOf, after_write, after_sync}
use Rattle.audit_disk.specs.declared.block.Block.{Block}
use Rattle.audit_base.specs.declared.limits.TheConstants.{SECTOR_SIZE}

-- a pick beyond the last content selects the last
pub chosen_last : (synced : Block) (since : List Block) → (p : ℕ) × (picked synced since p ≡ newest synced since)
chosen_last synced [] = (zero, refl)
chosen_last synced (block ∷ since) = let rest = chosen_last block since in (suc rest.0, rest.1)

pub length-after_write : (held : List Held) (at : ℕ) (block : Block) → length (after_write held at block) ≡ length held
length-after_write [] at block = refl
length-after_write (sector ∷ rest) zero block = refl
length-after_write (sector ∷ rest) (suc at) block = ap suc (length-after_write rest at block)

pub length-after_sync : (held : List Held) → length (after_sync held) ≡ length held
length-after_sync [] = refl
length-after_sync (sector ∷ rest) = ap suc (length-after_sync rest)

-- what reads return is a possible image
pub content_image : (held : List Held) → IsImageOf held (content_of held)
content_image [] = tt
content_image (sector ∷ rest) =
    let last = chosen_last sector.synced sector.since in
    ((last.0, ap (λ (b : Block). b.bytes) (sym last.1)), content_image rest)

-- each image is a whole device
pub whole_image : (held : List Held) (image : Image) → IsImageOf held image → IsWhole (length held) image
whole_image held image is = record { sectors = many held image is; each = each held image is }
  where
    many : (held : List Held) (image : Image) → IsImageOf held image → length image ≡ length held
    many [] [] is = refl
    many [] (bytes ∷ image) is = absurd is
    many (sector ∷ rest) [] is = absurd is
    many (sector ∷ rest) (bytes ∷ image) is = ap suc (many rest image is.1)

    each : (held : List Held) (image : Image) → IsImageOf held image → (at : ℕ) → at < length held
        → length (sector_at image at) ≡ SECTOR_SIZE
    each [] image is at lt = absurd (omega arith)
    each (sector ∷ rest) [] is at lt = absurd is
    each (sector ∷ rest) (bytes ∷ image) is zero lt = ap length is.0.1
        ∙ (picked sector.synced sector.since is.0.0).whole
    each (sector ∷ rest) (bytes ∷ image) is (suc at) lt = each rest image is.1 at (omega arith)
