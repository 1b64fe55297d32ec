-- The view of a device in memory.
use Rattle.std.specs.Prelude.{◌≡◌, ℕ, List, map, length, ◌≤◌, [], ◌∷◌, MatchResult}
use Rattle.audit_disk_model.specs.Image.{Sector, Image}
use Rattle.audit_disk_model.specs.View.{View}
use Rattle.audit_disk_model.specs.Calls.{Outcome}
use Rattle.audit_disk_model.specs.Moments.{IsSettled}
use Rattle.audit_disk.specs.Held.{Held, settled, bytes_of_blocks, crashed, after_write, after_sync}
use Rattle.audit_disk.specs.Memory.{after_calls}
use Rattle.audit_disk.specs.declared.block.Block.{Block}
use Rattle.audit_disk.specs.declared.mem_disk.MemDisk.{MemDisk}
use Rattle.audit_disk.specs.MemoryView.{memory_view}

-- everything that is known of it as a device
abbrev pub disk_view : MemDisk → View
disk_view disk =
    memory_view disk.start.items (bytes_of_blocks disk.content.items) disk.log.calls.items disk.log.clock
    disk.log.failures disk.current disk.log.stamped disk.sized disk.log.in_range

-- the contents of its sectors
abbrev pub disk_held : MemDisk → List Held
disk_held disk = after_calls disk.log.calls.items (map settled disk.start.items)

-- the sectors have this content, and nothing was written since
abbrev pub HoldsOnly : List Held → Image → Type 0
HoldsOnly held image = (blocks : List Block) × (held ≡ map settled blocks) × (bytes_of_blocks blocks ≡ image)

-- a successful write added these bytes to what its sector holds, and a failed one added nothing
abbrev pub HoldsWrite : List Held → List Held → ℕ → Sector → Outcome → Type 0
HoldsWrite old new at bytes result =
    MatchResult result (λ _. (block : Block) × (block.bytes ≡ bytes) × (new ≡ after_write old at block))
    (λ _. new ≡ old)

-- after a successful sync each sector holds only its last content; a failed one changed nothing
abbrev pub HoldsSync : List Held → List Held → Outcome → Type 0
HoldsSync old new result = MatchResult result (λ _. new ≡ after_sync old) (λ _. new ≡ old)

-- an honest device with this content, all synced, of which no call was made
pub record IsFresh (view : View) (image : Image) : Type 0 where
  pub size : view.size ≡ length image
  pub content : view.content ≡ image
  pub clock : view.clock ≡ 0
  pub failures : view.failures ≡ 0
  pub honest : view.honest
  pub settled : IsSettled view

-- Each pick is 0 or the number of a content written since the sync.
abbrev pub ArePicks : List Held → List ℕ → Type 0
ArePicks [] [] = Unit {0}
ArePicks [] (p ∷ pick) = ⊥
ArePicks (held ∷ rest) [] = ⊥
ArePicks (held ∷ rest) (p ∷ pick) = (p ≤ length held.since) × ArePicks rest pick

-- Each image that a crash now may leave is selected by some picks.
abbrev pub IsEachPicked : View → List Held → Type 0
IsEachPicked view held = (image : Image) → view.left_at view.clock image → (pick : List ℕ) × ArePicks held pick
    × (crashed held pick ≡ image)
