use Rattle.std.proofs.Common.{subst, sym, arith}
use Rattle.audit_disk.specs.File.{OnlyFileReads}
use Rattle.audit_disk.specs.FileDisk.{file_disk_view}
use Rattle.audit_disk.specs.Positioned.{counted_file}
use Rattle.audit_disk.proofs.PositionedCalls.{shows_front}
use Rattle.audit_disk.proofs.files.FileDisk+OsFile+F.over_front_of.Goals as goal

pub returns-clause-front : goal.returns-clause-front
returns-clause-front g c =
    let file = g.F.PositionedFile.positioned c.args.locked.file in
    let over = c.in_ok-over.ensures in
    let only = subst (λ (below : g.row.F.Denot). OnlyFileReads (counted_file file 0) (counted_file (g.F.PositionedFile.positioned below) 0)) (sym c.guarded.ensures.file) c.length.ensures.only in
    shows_front file (g.F.PositionedFile.positioned c.guarded.result.file) (file_disk_view c.in_ok-over.field-0) c.args.sectors only over.size over.content
    (λ honest. omega (arith, c.if-held-sectors.false, c.in_ok-held.ensures.found honest)) over.honest over.was_honest over.left (λ image left. over.was_honest left.0) over.no_other
