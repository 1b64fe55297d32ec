use Rattle.std.proofs.Common.{◌≡◌, take}
use Rattle.audit_disk.specs.Held.{bytes_of_blocks}
use Rattle.audit_disk.proofs.replay.blocks_of.Given as goal

abbrev pub invariant-loop-sector : goal.invariant-loop-sector
invariant-loop-sector l = bytes_of_blocks l.blocks.items ≡ take l.sector-index l.sectors
