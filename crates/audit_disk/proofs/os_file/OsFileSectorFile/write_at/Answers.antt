use Rattle.std.proofs.Common.{List, subst, arith}
use Rattle.audit_disk_model.specs.Image.{Sector}
use Rattle.audit_disk_model.specs.declared.fault.DeviceFault.{DeviceFault}
use Rattle.audit_disk.specs.File.{IsRowWrite}
use Rattle.audit_disk.specs.Positioned.{counted_file}
use Rattle.audit_disk.proofs.PositionedCalls.{write_counted}
use Rattle.audit_disk.proofs.RowWrites.{write_of_one}
use Rattle.audit_disk.proofs.os_file.OsFileSectorFile.write_at.Goals as goal

pub write_all_at-outcome-requires : goal.write_all_at-outcome-requires
write_all_at-outcome-requires g c = record {
  multiple = c.requires.multiple;
  within = λ honest. omega (arith, c.requires.within honest, c.from_ref.ensures.len);
  fits = omega (arith, c.requires.multiple, c.ranges.offset.fits, c.from_ref.ensures.len);
}

pub returns-clause-write : goal.returns-clause-write
returns-clause-write g c =
    let old = g.F.PositionedFile.positioned c.args.self.now.file in
    let new = g.F.PositionedFile.positioned c.write_all_at-outcome.new.self in
    write_of_one c.counted_call.result
    (subst (λ (row : List Sector). IsRowWrite {E = DeviceFault} (counted_file old c.args.self.now.failures) (counted_file new c.counted_call.new.failures) c.args.offset row c.counted_call.result)
    c.from_ref.ensures.value
    (write_counted c.write_all_at-outcome.result c.counted_call.result c.counted_call.ensures.result c.counted_call.ensures.counts c.write_all_at-outcome.ensures))
