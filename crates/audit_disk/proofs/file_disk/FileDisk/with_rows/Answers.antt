use Rattle.std.proofs.Common.{◌≡◌, ◌-◌, ℕ, List, [], refl, sym, ◌∙◌, ap, subst, arith}
use Rattle.audit_disk_model.specs.Image.{Sector}
use Rattle.audit_disk.specs.File.{sectors_of}
use Rattle.audit_disk.specs.Rows.{with_row, MayHaveRow, row_at, file_moment}
use Rattle.audit_disk.specs.KeptRow.{kept_sectors}
use Rattle.audit_disk.proofs.KeptRows.{row_nothing, nothing_row}
use Rattle.audit_disk.proofs.Reached.{kept_nothing}
use Rattle.audit_disk.proofs.RowTries.{row_above, moment_above}
use Rattle.audit_disk.proofs.file_disk.FileDisk.with_rows.Goals as goal

pub returns : goal.returns
returns g c =
    let inner = c.new.result.inner in
    let same : inner ≡ c.args.file = c.new.ensures in
    let kept = kept_sectors c.args.kept in
    let now = (g.F.SectorFile.file inner).moment in
    let base = 0 - c.args.kept.count in
    let start = c.args.kept.start in
    let none : row_at base 0 kept kept 0 ≡ [] = row_above base 0 0 kept kept (omega arith) ∙ kept_nothing c.args.kept c.requires.empty.count in
    let all : now - (0 - 0) ≡ now = omega arith in
    let here : file_moment base 0 0 now 0 ≡ now = moment_above base 0 0 now 0 (omega arith) ∙ all in
    record {
      size = refl;
      content =
          ap (λ (r : List Sector). with_row (sectors_of c.args.sectors (g.F.SectorFile.file inner).bytes) start r) none
          ∙ ap (λ (file : g.row.F.Denot). sectors_of c.args.sectors (g.F.SectorFile.file file).bytes) same;
      clock = refl;
      failures = refl;
      working = refl;
      honest = λ honest. subst (λ (file : g.row.F.Denot). (g.F.SectorFile.file file).honest) (sym same) honest;
      was_honest = λ honest. subst (λ (file : g.row.F.Denot). (g.F.SectorFile.file file).honest) same honest;
      left = λ honest bytes left. (
        subst (λ (file : g.row.F.Denot). (g.F.SectorFile.file file).honest) (sym same) honest,
        (
          bytes,
          subst (λ (m : ℕ). (g.F.SectorFile.file inner).left_at m bytes) (sym here)
              (subst (λ (file : g.row.F.Denot). (g.F.SectorFile.file file).left_at (g.F.SectorFile.file file).moment bytes) (sym same) left),
          subst (λ (r : List Sector). MayHaveRow start r (sectors_of c.args.sectors bytes) (sectors_of c.args.sectors bytes)) (sym none) (nothing_row start (sectors_of c.args.sectors bytes) (sectors_of c.args.sectors bytes) refl),
        ),
      );
      no_other = λ image left. (
        left.1.0,
        subst (λ (file : g.row.F.Denot). (g.F.SectorFile.file file).left_at (g.F.SectorFile.file file).moment left.1.0) same (subst (λ (m : ℕ). (g.F.SectorFile.file inner).left_at m left.1.0) here left.1.1),
        row_nothing start (sectors_of c.args.sectors left.1.0) image (subst (λ (r : List Sector). MayHaveRow start r (sectors_of c.args.sectors left.1.0) image) none left.1.2),
      );
    }
