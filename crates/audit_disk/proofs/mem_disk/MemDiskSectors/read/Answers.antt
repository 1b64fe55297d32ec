use Rattle.std.proofs.Common.{arith}
use Rattle.audit_disk.proofs.MemDiskCalls.{length-content, read}
use Rattle.audit_disk.proofs.mem_disk.MemDiskSectors.read.Goals as goal

pub index-requires : goal.index-requires
index-requires c = let disk = c.args.self.now in omega (arith, c.requires, length-content disk.start.items disk.content.items disk.log disk.current disk.sized)

pub returns-clause-read : goal.returns-clause-read
returns-clause-read c =
    let disk = c.args.self.now in
    read disk.start.items disk.content.items disk.log disk.current disk.sized c.args.at c.index.result.now
    (omega (arith, c.requires, length-content disk.start.items disk.content.items disk.log disk.current disk.sized)) c.index.ensures
