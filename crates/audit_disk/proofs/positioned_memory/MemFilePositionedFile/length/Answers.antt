use Rattle.std.proofs.Common.{◌≡◌, length, arith}
use Rattle.audit_disk.specs.MemDisk.{disk_view}
use Rattle.audit_disk.specs.MemFileLaws.{length-joined}
use Rattle.audit_disk.specs.MemFileView.{mem_file_view}
use Rattle.audit_disk.specs.Positioned.{counted_file, uncounted}
use Rattle.audit_disk.proofs.RowReads.{only_none}
use Rattle.audit_disk.proofs.positioned_memory.MemFilePositionedFile.length.Goals as goal

pub returns : goal.returns
returns c =
    let view = disk_view c.args.self.now.disk in
    let file = mem_file_view c.args.self.now in
    let whole : view.honest → c.byte_count.result ≡ length file.bytes =
    λ honest. omega (arith, c.byte_count.ensures, length-joined view.size view.content (view.whole honest view.clock view.content (view.content_left honest))) in
    record {
      only = only_none (counted_file (uncounted file) 0);
      found = whole;
      told = whole;
      cause = record { fails = tt; last = tt; still = λ failed. failed };
    }
