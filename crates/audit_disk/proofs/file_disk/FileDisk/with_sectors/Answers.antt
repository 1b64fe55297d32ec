use Rattle.std.proofs.Common.{ℕ, refl, sym, ◌∙◌, ap, subst, take, min, unwrap_or, ◌-◌, arith}
use Rattle.audit_disk_model.specs.Image.{Image}
use Rattle.audit_disk.specs.File.{sectors_of}
use Rattle.audit_disk.specs.RowLaws.{length-sectors_of}
use Rattle.audit_disk.specs.Rows.{with_row, MayHaveRow, row_at, active_row}
use Rattle.audit_disk.specs.KeptRow.{kept_sectors}
use Rattle.audit_disk.proofs.FileSectors.{take-sectors_of}
use Rattle.audit_disk.proofs.KeptRows.{take-with_row, row_front, row_back}
use Rattle.audit_disk.proofs.file_disk.FileDisk.with_sectors.Goals as goal

pub returns-clause-front : goal.returns-clause-front
returns-clause-front g c =
    let count = c.args.sectors in
    let disk = c.args.self in
    let more = disk.sectors in
    let start = disk.kept.start in
    let kept = kept_sectors disk.kept in
    let reached = unwrap_or disk.failed_at disk.clock in
    let split = unwrap_or disk.single_from reached in
    let row_of = λ (at : ℕ). row_at (split - disk.kept.count) split kept (active_row disk.single_from kept) (min at reached) in
    let bytes = (g.F.SectorFile.file disk.file.inner).bytes in
    record {
      size = refl;
      content =
          ap (λ (image : Image). with_row image start (row_of disk.clock)) (sym (take-sectors_of count more bytes c.requires))
          ∙ sym (take-with_row count (sectors_of more bytes) start (row_of disk.clock));
      clock = refl;
      failures = refl;
      honest = λ honest. honest;
      was_honest = λ honest. honest;
      left = λ moment image left. (
        left.0,
        (
          left.1.0,
          left.1.1,
          subst (λ (old : Image). MayHaveRow start (row_of moment) old (take count image)) (take-sectors_of count more left.1.0 c.requires) (row_front count start (row_of moment) (sectors_of more left.1.0) image left.1.2),
        ),
      );
      no_other = λ moment image left.
          let full = row_back count start (row_of moment) (sectors_of more left.1.0) image (omega (arith, length-sectors_of more left.1.0, c.requires))
          (subst (λ (old : Image). MayHaveRow start (row_of moment) old image) (sym (take-sectors_of count more left.1.0 c.requires)) left.1.2) in
          (full.0, (left.0, (left.1.0, left.1.1, full.1)), full.2);
    }
