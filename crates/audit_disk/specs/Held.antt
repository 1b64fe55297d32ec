-- What each sector of a device holds: its last synced content, and what was written since.
use Rattle.std.specs.Prelude.{◌≡◌, ℕ, zero, suc, List, [], ◌∷◌, ◌++◌, map}
use Rattle.audit_disk_model.specs.Image.{Sector, Image}
use Rattle.audit_disk.specs.declared.block.Block.{Block}

-- one sector: its last synced content, and each content written since, oldest first
pub record Held : Type 0 where
  pub synced : Block
  pub since : List Block

-- the p-th content written since; the synced one if p is 0, the last one if p is too large
abbrev pub picked : Block → List Block → ℕ → Block
picked synced [] p = synced
picked synced (block ∷ since) zero = synced
picked synced (block ∷ since) (suc p) = picked block since p

-- the last written content
abbrev pub newest : Block → List Block → Block
newest synced [] = synced
newest synced (block ∷ since) = newest block since

-- the bytes of these blocks
abbrev pub bytes_of_blocks : List Block → Image
bytes_of_blocks blocks = map (λ (block : Block). block.bytes) blocks

-- what reads return
abbrev pub content_of : List Held → Image
content_of [] = []
content_of (held ∷ rest) = (newest held.synced held.since).bytes ∷ content_of rest

-- a crash leaves in this sector its synced content or any content written since
abbrev pub MayHold : Held → Sector → Type 0
MayHold held bytes = (p : ℕ) × (bytes ≡ (picked held.synced held.since p).bytes)

-- a crash may leave this image, each sector independently
abbrev pub IsImageOf : List Held → Image → Type 0
IsImageOf [] [] = Unit {0}
IsImageOf [] (bytes ∷ image) = ⊥
IsImageOf (held ∷ rest) [] = ⊥
IsImageOf (held ∷ rest) (bytes ∷ image) = MayHold held bytes × IsImageOf rest image

-- the image that a crash with these picks leaves; a missing pick is 0
abbrev pub crashed : List Held → List ℕ → Image
crashed [] pick = []
crashed (held ∷ rest) [] = held.synced.bytes ∷ crashed rest []
crashed (held ∷ rest) (p ∷ pick) = (picked held.synced held.since p).bytes ∷ crashed rest pick

-- a sector with nothing pending
abbrev pub settled : Block → Held
settled block = record { synced = block; since = [] }

-- after a write to one sector
abbrev pub after_write : List Held → ℕ → Block → List Held
after_write [] at block = []
after_write (held ∷ rest) zero block = record { synced = held.synced; since = held.since ++ block ∷ [] } ∷ rest
after_write (held ∷ rest) (suc at) block = held ∷ after_write rest at block

-- after a sync
abbrev pub after_sync : List Held → List Held
after_sync held = map (λ (sector : Held). settled (newest sector.synced sector.since)) held
