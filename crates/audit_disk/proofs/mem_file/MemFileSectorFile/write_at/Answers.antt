use Rattle.std.proofs.Common.{◌/◌, arith}
use Rattle.audit_disk.specs.MemDisk.{disk_view}
use Rattle.audit_disk.proofs.MemFileCalls.{offset_within, write_joined}
use Rattle.audit_disk.proofs.mem_file.MemFileSectorFile.write_at.Goals as goal

pub write-requires : goal.write-requires
write-requires c = offset_within (disk_view c.args.self.now.disk) c.args.offset tt (c.requires.within tt)

pub returns : goal.returns
returns c =
    write_joined (disk_view c.args.self.now.disk) (disk_view c.write.new.self) (c.args.offset / 512) c.args.offset c.write.result (omega (arith, c.requires.multiple))
    (offset_within (disk_view c.args.self.now.disk) c.args.offset tt (c.requires.within tt)) c.told-bytes c.write.ensures.write
