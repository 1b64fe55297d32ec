use Rattle.std.proofs.Common.{◌≡◌, replicate}
use Rattle.audit_disk.specs.Held.{bytes_of_blocks}
use Rattle.audit_base.specs.declared.limits.TheConstants.{SECTOR_SIZE}
use Rattle.audit_disk.proofs.replay.zero_blocks.Given as goal

abbrev pub invariant-loop : goal.invariant-loop
invariant-loop l = bytes_of_blocks l.blocks.items ≡ replicate l.counter (replicate SECTOR_SIZE 0)
