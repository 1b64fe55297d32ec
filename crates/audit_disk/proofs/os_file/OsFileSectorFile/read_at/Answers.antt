use Rattle.std.proofs.Common.{arith}
use Rattle.audit_disk.proofs.PositionedCalls.{row_counted, row_of_one, one_of}
use Rattle.audit_disk.proofs.os_file.OsFileSectorFile.read_at.Goals as goal

pub read_exact_at-outcome-requires : goal.read_exact_at-outcome-requires
read_exact_at-outcome-requires g c = record {
  multiple = c.requires.multiple;
  within = λ honest. omega (arith, c.requires.within honest, c.from_mut.ensures.len);
  fits = omega (arith, c.requires.multiple, c.ranges.offset.fits, c.from_mut.ensures.len);
}

pub returns-clause-read : goal.returns-clause-read
returns-clause-read g c =
    let old = g.F.PositionedFile.positioned c.args.self.now.file in
    let new = g.F.PositionedFile.positioned c.read_exact_at-outcome.new.self in
    row_of_one c.counted_call.result
    (row_counted c.read_exact_at-outcome.result c.counted_call.result c.counted_call.ensures.result c.counted_call.ensures.counts
    (one_of c.read_exact_at-outcome.new.into c.args.into.now c.from_mut.ensures.len c.read_exact_at-outcome.auto.into c.read_exact_at-outcome.ensures))
