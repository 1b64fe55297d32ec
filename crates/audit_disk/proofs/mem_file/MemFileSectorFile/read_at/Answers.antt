use Rattle.std.proofs.Common.{◌/◌, arith}
use Rattle.audit_disk.specs.MemDisk.{disk_view}
use Rattle.audit_disk.proofs.MemFileCalls.{offset_within, read_joined}
use Rattle.audit_disk.proofs.mem_file.MemFileSectorFile.read_at.Goals as goal

pub read-requires : goal.read-requires
read-requires c = offset_within (disk_view c.args.self.now.disk) c.args.offset tt (c.requires.within tt)

pub returns-clause-read : goal.returns-clause-read
returns-clause-read c =
    read_joined (disk_view c.args.self.now.disk) (disk_view c.read.new.self) (c.args.offset / 512) c.args.offset c.read.result (omega (arith, c.requires.multiple))
    (offset_within (disk_view c.args.self.now.disk) c.args.offset tt (c.requires.within tt)) c.read.ensures.read
