use Rattle.std.proofs.Common.{is_err, refl, ap, arith}
use Rattle.audit_disk_model.specs.Calls.{Outcome}
use Rattle.audit_disk.specs.FileDisk.{file_disk_view}
use Rattle.audit_disk.proofs.FileCalls.{refused_read, same_then_read}
use Rattle.audit_disk.proofs.file_disk.FileDiskSectors.read.Goals as goal

pub returns-clause-read : goal.returns-clause-read
returns-clause-read g c =
    same_then_read (file_disk_view c.args.self.now) (file_disk_view c.flush.new.self) (file_disk_view c.read_alone-2.new.self) c.flush.ensures.same c.read_alone-2.ensures.read

pub returns-then-is_err-clause-read : goal.returns-then-is_err-clause-read
returns-then-is_err-clause-read g c =
    let counted = c.counted-then-is_err.ensures in
    refused_read c.args.at c.args.into.now c.counted-then-is_err.result (ap (λ (r : Outcome). is_err r) counted.result) c.flush.ensures.same _
    (record {
      size = refl;
      clock = omega arith;
      failures = counted.more;
      honest = λ honest. honest;
      was_honest = λ honest. honest;
      kept = λ at image le left. left;
      no_other = λ at image le left. left;
    })
    refl counted.counts (λ honest. refl)
