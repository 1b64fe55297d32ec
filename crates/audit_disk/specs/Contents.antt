-- The contents of sectors after some calls, if nothing is pending.
use Rattle.std.specs.Prelude.{◌≡◌, List, map, set}
use Rattle.audit_disk.specs.Held.{Held, settled, newest}
use Rattle.audit_disk.specs.Memory.{after_calls}
use Rattle.audit_disk.specs.declared.block.Block.{Block}
use Rattle.audit_disk.specs.declared.call.Call.{Call}
use Rattle.audit_disk.specs.declared.call.Effect.{Effect}
use Rattle.audit_disk.specs.declared.call.Effect.TheVariants.{Write, Sync}

-- the last written content, sector by sector
abbrev pub newest_of : List Held → List Block
newest_of held = map (λ (sector : Held). newest sector.synced sector.since) held

-- the content after a call
abbrev pub content_after : Effect → List Block → List Block
content_after (Write at block) blocks = set blocks at block
content_after Sync blocks = blocks

-- nothing is pending after these calls, whatever the synced content before them
pub record EndSynced (calls : List Call) : Type 0 where
  pub settled : (start : List Block)
      → after_calls calls (map settled start) ≡ map settled (newest_of (after_calls calls (map settled start)))
