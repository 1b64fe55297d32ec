use Rattle.std.proofs.Common.{rules}
use Rattle.audit_disk.proofs.Ragged.{ragged}
use Rattle.std.proofs.Common.{subst, sym, arith}
use Rattle.audit_disk.specs.File.{OnlyFileReads}
use Rattle.audit_disk.specs.FileDisk.{file_disk_view}
use Rattle.audit_disk.specs.Positioned.{counted_file}
use Rattle.audit_disk.proofs.PositionedCalls.{shows_front}
use Rattle.audit_disk.proofs.files.FileDisk+OsFile+F.over_whole_of.Goals as goal

pub returns-clause-front : goal.returns-clause-front
returns-clause-front g c =
    let file = g.F.PositionedFile.positioned c.args.locked.file in
    let over = c.in_ok-over.ensures in
    let only = subst (λ (below : g.row.F.Denot). OnlyFileReads (counted_file file 0) (counted_file (g.F.PositionedFile.positioned below) 0)) (sym c.guarded.ensures.file) c.length.ensures.only in
    shows_front file (g.F.PositionedFile.positioned c.guarded.result.file) (file_disk_view c.in_ok-over.field-0) c.in_ok-sectors.sectors only over.size over.content
    (λ honest. omega (arith, c.in_ok-sectors.ensures.sectors, c.in_ok-length.ensures.found honest)) over.honest over.was_honest over.left (λ image left. over.was_honest left.0) over.no_other

pub returns-in_err-sectors-clause-fault : goal.returns-in_err-sectors-clause-fault
returns-in_err-sectors-clause-fault g c = ragged g.F.PositionedFile.positioned c.args.locked.file c.length.new.self c.in_ok-length.field-0 c.whole_sectors.result c.in_err-sectors.field-0.0 c.from_residual-in_err-sectors.result (search rules) (search rules) (search rules) c.whole_sectors.ensures.fault (search rules) (search rules)
