use Rattle.std.proofs.Common.{take}
use Rattle.audit_disk_model.specs.declared.fault.DeviceFault.{DeviceFault}
use Rattle.audit_disk.specs.File.{IsRowWrite}
use Rattle.audit_disk.proofs.sector_file.SectorFile.write_row.Given as goal

abbrev pub invariant-loop-k : goal.invariant-loop-k
invariant-loop-k g l = IsRowWrite {E = DeviceFault} (g.Self.SectorFile.file l.fn.self) (g.Self.SectorFile.file l.self) l.offset (take l.k l.row) l.outcome
