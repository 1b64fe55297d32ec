use Rattle.std.proofs.Common.{take, length}
use Rattle.audit_disk_model.proofs.Rows.{WritesSoFar}
use Rattle.audit_disk_model.proofs.window.write_sectors.Given as goal

abbrev pub invariant-loop-k : goal.invariant-loop-k
invariant-loop-k g l = WritesSoFar (g.D.Sectors.view l.fn.disk) (g.D.Sectors.view l.disk) l.at (length l.sectors) (take l.k l.sectors)
