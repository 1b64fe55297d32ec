use Rattle.audit_disk.specs.FileDisk.{file_disk_view}
use Rattle.audit_disk.proofs.FileCalls.{refused_write, same_then_write}
use Rattle.audit_disk.proofs.file_disk.FileDiskSectors.write.Goals as goal

pub returns-then-is_shut-clause-write : goal.returns-then-is_shut-clause-write
returns-then-is_shut-clause-write g c = refused_write c.args.at c.args.bytes.now c.refuse.result c.refuse.ensures.fails c.refuse.ensures.refused

pub returns-then-is_err-clause-write : goal.returns-then-is_err-clause-write
returns-then-is_err-clause-write g c =
    same_then_write (file_disk_view c.args.self.now) (file_disk_view c.flush.new.self) (file_disk_view c.refuse-then-is_err.new.self) c.flush.ensures.same
    (refused_write c.args.at c.args.bytes.now c.refuse-then-is_err.result c.refuse-then-is_err.ensures.fails c.refuse-then-is_err.ensures.refused)

pub returns-then-can_keep-2-clause-write : goal.returns-then-can_keep-2-clause-write
returns-then-can_keep-2-clause-write g c =
    same_then_write (file_disk_view c.args.self.now) (file_disk_view c.flush.new.self) (file_disk_view c.keep-then-can_keep-2.new.self) c.flush.ensures.same c.keep-then-can_keep-2.ensures.write

pub returns-clause-write : goal.returns-clause-write
returns-clause-write g c =
    same_then_write (file_disk_view c.args.self.now) (file_disk_view c.flush.new.self) (file_disk_view c.write_alone.new.self) c.flush.ensures.same c.write_alone.ensures.write
