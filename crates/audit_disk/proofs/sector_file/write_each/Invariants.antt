use Rattle.std.proofs.Common.{take}
use Rattle.audit_disk_model.specs.declared.fault.DeviceFault.{DeviceFault}
use Rattle.audit_disk.specs.File.{IsRowWrite}
use Rattle.audit_disk.proofs.sector_file.write_each.Given as goal

abbrev pub invariant-loop-k : goal.invariant-loop-k
invariant-loop-k g l = IsRowWrite {E = DeviceFault} (g.F.SectorFile.file l.fn.file) (g.F.SectorFile.file l.file) l.offset (take l.k l.row) l.outcome
