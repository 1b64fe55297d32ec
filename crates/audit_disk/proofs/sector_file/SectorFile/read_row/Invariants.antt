use Rattle.std.proofs.Common.{◌≡◌, Ok, length}
use Rattle.audit_disk_model.specs.declared.fault.DeviceFault.{DeviceFault}
use Rattle.audit_disk.specs.File.{IsRowRead}
use Rattle.audit_disk.proofs.sector_file.SectorFile.read_row.Given as goal

abbrev pub invariant-loop-k : goal.invariant-loop-k
invariant-loop-k g l =
    IsRowRead {E = DeviceFault} (g.Self.SectorFile.file l.fn.self) (g.Self.SectorFile.file l.self) l.offset l.k l.into (Ok tt) × (length l.into ≡ length l.fn.into)
