use Rattle.std.proofs.Common.{replicate}
use Rattle.std.proofs.lemmas.List.{length-replicate}
use Rattle.audit_disk.specs.MemDisk.{disk_view}
use Rattle.audit_disk.specs.FileDisk.{file_disk_view}
use Rattle.audit_base.specs.declared.limits.TheConstants.{SECTOR_SIZE}
use Rattle.audit_disk.proofs.MemFileCalls.{unused_file}
use Rattle.audit_disk.proofs.OverFiles.{fresh_over}
use Rattle.audit_disk.proofs.files.FileDisk+MemFile.in_memory.Goals as goal

pub with_rows-requires-clause-unused : goal.with_rows-requires-clause-unused
with_rows-requires-clause-unused c =
    unused_file (disk_view c.in_ok-disk.disk) (replicate c.args.sectors (replicate SECTOR_SIZE 0)) c.args.sectors c.in_ok-disk.ensures.fresh (length-replicate c.args.sectors (replicate SECTOR_SIZE 0))

pub returns : goal.returns
returns c =
    let over = c.with_rows.ensures in
    fresh_over (disk_view c.in_ok-disk.disk) (file_disk_view c.with_rows.result) (replicate c.args.sectors (replicate SECTOR_SIZE 0)) c.args.sectors c.in_ok-disk.ensures.fresh
    (length-replicate c.args.sectors (replicate SECTOR_SIZE 0)) over.size over.content over.clock over.failures (over.honest c.in_ok-disk.ensures.fresh.honest) over.no_other
