-- The effects of a write and of a sync on the images.
use Rattle.std.proofs.Common.{◌≡◌, ◌⊎◌, inl, inr, ⊎_elim, ℕ, zero, suc, List, [], ◌∷◌, ◌++◌, set, refl, sym, ◌∙◌, ap, ◌≤◌, length, arith}
use Rattle.audit_disk_model.specs.Image.{Sector, Image}
use Rattle.audit_disk.specs.Held.{Held, picked, newest, content_of, IsImageOf, crashed, after_write, after_sync}
use Rattle.audit_disk.specs.HeldLaws.{chosen_last}
use Rattle.audit_disk.specs.MemDisk.{ArePicks}
use Rattle.audit_disk.specs.declared.block.Block.{Block}

pub newest-push : (synced block : Block) (since : List Block) → newest synced (since ++ block ∷ []) ≡ block
newest-push synced block [] = refl
newest-push synced block (next ∷ since) = newest-push next block since

pub synced_first : (synced : Block) (since : List Block) → synced.bytes ≡ (picked synced since zero).bytes
synced_first synced [] = refl
synced_first synced (next ∷ since) = refl

chosen_push : (synced block : Block) (since : List Block) (p : ℕ) → (picked synced (since ++ block ∷ []) p ≡ picked synced since p) ⊎ (picked synced (since ++ block ∷ []) p ≡ block)
chosen_push synced block [] zero = inl refl
chosen_push synced block [] (suc p) = inr refl
chosen_push synced block (next ∷ since) zero = inl refl
chosen_push synced block (next ∷ since) (suc p) = chosen_push next block since p

chosen_kept : (synced block : Block) (since : List Block) (p : ℕ) → (q : ℕ) × (picked synced (since ++ block ∷ []) q ≡ picked synced since p)
chosen_kept synced block [] p = (zero, refl)
chosen_kept synced block (next ∷ since) zero = (zero, refl)
chosen_kept synced block (next ∷ since) (suc p) = let rest = chosen_kept next block since p in (suc rest.0, rest.1)

-- a pick selects the synced content or one of those written since
chosen_within : (synced : Block) (since : List Block) (p : ℕ) → (q : ℕ) × (q ≤ length since) × (picked synced since q ≡ picked synced since p)
chosen_within synced [] p = (zero, omega arith, refl)
chosen_within synced (block ∷ since) zero = (zero, omega arith, refl)
chosen_within synced (block ∷ since) (suc p) = let rest = chosen_within block since p in (suc rest.0, omega (arith, rest.1), rest.2)

-- what reads return after a write
pub content_of-after_write : (held : List Held) (at : ℕ) (block : Block) → content_of (after_write held at block) ≡ set (content_of held) at block.bytes
content_of-after_write [] at block = refl
content_of-after_write (sector ∷ rest) zero block = ap (λ (b : Block). b.bytes ∷ content_of rest) (newest-push sector.synced block sector.since)
content_of-after_write (sector ∷ rest) (suc at) block = ap (λ (image : Image). (newest sector.synced sector.since).bytes ∷ image) (content_of-after_write rest at block)

pub content_of-after_sync : (held : List Held) → content_of (after_sync held) ≡ content_of held
content_of-after_sync [] = refl
content_of-after_sync (sector ∷ rest) = ap (λ (image : Image). (newest sector.synced sector.since).bytes ∷ image) (content_of-after_sync rest)

-- an image after a write was left before it, as it is or without the write
pub written_image : (held : List Held) (at : ℕ) (block : Block) (image : Image) → IsImageOf (after_write held at block) image
    → IsImageOf held image ⊎ ((before : Image) × IsImageOf held before × (image ≡ set before at block.bytes))
written_image [] at block [] is = inl tt
written_image [] at block (bytes ∷ image) is = absurd is
written_image (sector ∷ rest) zero block [] is = absurd is
written_image (sector ∷ rest) (suc at) block [] is = absurd is
written_image (sector ∷ rest) zero block (bytes ∷ image) is =
    ⊎_elim
    (λ (old : picked sector.synced (sector.since ++ block ∷ []) is.0.0 ≡ picked sector.synced sector.since is.0.0). inl ((is.0.0, is.0.1 ∙ ap (λ (b : Block). b.bytes) old), is.1))
    (λ (new : picked sector.synced (sector.since ++ block ∷ []) is.0.0 ≡ block).
    inr (sector.synced.bytes ∷ image, ((zero, synced_first sector.synced sector.since), is.1), ap (λ (s : Sector). s ∷ image) (is.0.1 ∙ ap (λ (b : Block). b.bytes) new)))
    (chosen_push sector.synced block sector.since is.0.0)
written_image (sector ∷ rest) (suc at) block (bytes ∷ image) is =
    ⊎_elim
    (λ (old : IsImageOf rest image). inl (is.0, old))
    (λ (new : (before : Image) × IsImageOf rest before × (image ≡ set before at block.bytes)). inr (bytes ∷ new.0, (is.0, new.1), ap (λ (i : Image). bytes ∷ i) new.2))
    (written_image rest at block image is.1)

-- an image left before a write is left after it
pub unwritten_image : (held : List Held) (at : ℕ) (block : Block) (image : Image) → IsImageOf held image → IsImageOf (after_write held at block) image
unwritten_image [] at block image is = is
unwritten_image (sector ∷ rest) zero block [] is = is
unwritten_image (sector ∷ rest) (suc at) block [] is = is
unwritten_image (sector ∷ rest) zero block (bytes ∷ image) is =
    let kept = chosen_kept sector.synced block sector.since is.0.0 in ((kept.0, is.0.1 ∙ ap (λ (b : Block). b.bytes) (sym kept.1)), is.1)
unwritten_image (sector ∷ rest) (suc at) block (bytes ∷ image) is = (is.0, unwritten_image rest at block image is.1)

-- so is that image with the sector written
pub image_written : (held : List Held) (at : ℕ) (block : Block) (image : Image) → IsImageOf held image → IsImageOf (after_write held at block) (set image at block.bytes)
image_written [] at block [] is = tt
image_written [] at block (bytes ∷ image) is = absurd is
image_written (sector ∷ rest) zero block [] is = is
image_written (sector ∷ rest) (suc at) block [] is = is
image_written (sector ∷ rest) zero block (bytes ∷ image) is =
    let last = chosen_last sector.synced (sector.since ++ block ∷ []) in
    ((last.0, ap (λ (b : Block). b.bytes) (sym (last.1 ∙ newest-push sector.synced block sector.since))), is.1)
image_written (sector ∷ rest) (suc at) block (bytes ∷ image) is = (is.0, image_written rest at block image is.1)

-- after a sync only one image is left
pub synced_image : (held : List Held) (image : Image) → IsImageOf (after_sync held) image → image ≡ content_of held
synced_image [] [] is = refl
synced_image [] (bytes ∷ image) is = absurd is
synced_image (sector ∷ rest) [] is = absurd is
synced_image (sector ∷ rest) (bytes ∷ image) is =
    ap (λ (s : Sector). s ∷ image) is.0.1 ∙ ap (λ (i : Image). (newest sector.synced sector.since).bytes ∷ i) (synced_image rest image is.1)

-- the image of each pick may be left, and each image that may be left is the image of some pick
pub crashed_image : (held : List Held) (pick : List ℕ) → IsImageOf held (crashed held pick)
crashed_image [] pick = tt
crashed_image (sector ∷ rest) [] = ((zero, synced_first sector.synced sector.since), crashed_image rest [])
crashed_image (sector ∷ rest) (p ∷ pick) = ((p, refl), crashed_image rest pick)

pub image_crashed : (held : List Held) (image : Image) → IsImageOf held image → (pick : List ℕ) × ArePicks held pick × (crashed held pick ≡ image)
image_crashed [] [] is = ([], tt, refl)
image_crashed [] (bytes ∷ image) is = absurd is
image_crashed (sector ∷ rest) [] is = absurd is
image_crashed (sector ∷ rest) (bytes ∷ image) is =
    let others = image_crashed rest image is.1 in
    let here = chosen_within sector.synced sector.since is.0.0 in (
      here.0 ∷ others.0,
      (here.1, others.1),
      ap (λ (s : Sector). s ∷ crashed rest others.0) (ap (λ (b : Block). b.bytes) here.2 ∙ sym is.0.1) ∙ ap (λ (i : Image). bytes ∷ i) others.2,
    )
