use Rattle.std.proofs.Common.{arith}
use Rattle.audit_disk.proofs.MemDiskCalls.{length-content, read}
use Rattle.audit_disk.proofs.mem_disk.MemDiskSectorSource.read_sector.Goals as goal

pub index-block-requires : goal.index-block-requires
index-block-requires c = let disk = c.args.self.now in omega (arith, c.requires, length-content disk.start.items disk.content.items disk.log disk.current disk.sized)

pub returns-clause-read : goal.returns-clause-read
returns-clause-read c =
    let disk = c.args.self.now in
    (read disk.start.items disk.content.items disk.log disk.current disk.sized c.args.at c.index-block.result.now
    (omega (arith, c.requires, length-content disk.start.items disk.content.items disk.log disk.current disk.sized)) c.index-block.ensures).bytes
