use Rattle.audit_disk.specs.FileDisk.{file_disk_view}
use Rattle.audit_disk.proofs.FileCalls.{refused_sync, same_then_sync}
use Rattle.audit_disk.proofs.file_disk.FileDiskSectors.sync.Goals as goal

pub returns-then-is_shut-clause-sync : goal.returns-then-is_shut-clause-sync
returns-then-is_shut-clause-sync g c = refused_sync c.refuse.result c.refuse.ensures.fails c.refuse.ensures.refused

pub returns-then-is_err-clause-sync : goal.returns-then-is_err-clause-sync
returns-then-is_err-clause-sync g c =
    same_then_sync (file_disk_view c.args.self.now) (file_disk_view c.flush.new.self) (file_disk_view c.refuse-then-is_err.new.self) c.flush.ensures.same
    (refused_sync c.refuse-then-is_err.result c.refuse-then-is_err.ensures.fails c.refuse-then-is_err.ensures.refused)

pub returns-clause-sync : goal.returns-clause-sync
returns-clause-sync g c =
    same_then_sync (file_disk_view c.args.self.now) (file_disk_view c.flush.new.self) (file_disk_view c.sync_alone.new.self) c.flush.ensures.same c.sync_alone.ensures.sync
