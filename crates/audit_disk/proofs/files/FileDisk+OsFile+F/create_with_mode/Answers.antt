use Rattle.std.proofs.Common.{◌≡◌, ℕ, ◌*◌, replicate, List, sym, ap, ◌∙◌, subst, rules}
use Rattle.audit_base.specs.declared.limits.TheConstants.{SECTOR_SIZE}
use Rattle.audit_disk_model.specs.Image.{Image}
use Rattle.audit_disk.specs.File.{sectors_of}
use Rattle.audit_disk.specs.FileDisk.{file_disk_view}
use Rattle.audit_disk.specs.declared.files.TheConstants.{OWNER_ONLY}
use Rattle.audit_disk.proofs.LaidOut.{fresh_zeros}
use Rattle.audit_disk.proofs.files.FileDisk+OsFile+F.create_with_mode.Goals as goal

pub returns-clause-made : goal.returns-clause-made
returns-clause-made g c =
    let file = c.take_and_lay_out.new.file in
    let laid = c.in_default-take_and_lay_out.ensures in
    let new = c.in_ok-file.ensures.new in
    let over = c.with_rows.ensures in
    let size : c.in-Some.length ≡ SECTOR_SIZE * c.args.sectors = search rules in
    let below = c.new-2.ensures.file in
    record {
      file = file;
      made = laid.kept.made c.args.path.now OWNER_ONLY c.in_ok-file.ensures.made;
      locked = laid.locked;
      permissions = laid.mode;
      laid_out = subst (g.F.SystemFile.facts file).laid_out size laid.laid_out;
      zeros = λ honest.
          let was = laid.bytes.was_honest honest in
          let back = subst (λ (f : g.row.F.Denot). (g.F.PositionedFile.positioned f).honest) (sym below) honest in
          let zeros = laid.bytes.zeros was (new.empty was) ∙ ap (λ (n : ℕ). replicate n 0) size in
          fresh_zeros (file_disk_view c.with_rows.result) (g.F.PositionedFile.positioned file).bytes c.args.sectors
          (λ left. (g.F.PositionedFile.positioned file).left_at (g.F.PositionedFile.positioned file).moment left) zeros (laid.bytes.only was)
          over.size (subst (λ (f : g.row.F.Denot). (file_disk_view c.with_rows.result).content ≡ sectors_of c.args.sectors (g.F.PositionedFile.positioned f).bytes) below over.content) over.clock over.failures (over.honest back)
          (subst (λ (f : g.row.F.Denot). (other : Image) → (file_disk_view c.with_rows.result).left_at 0 other → (left : List ℕ)
          × (g.F.PositionedFile.positioned f).left_at (g.F.PositionedFile.positioned f).moment left × (other ≡ sectors_of c.args.sectors left)) below over.no_other);
      honest = λ honest. subst (λ (f : g.row.F.Denot). (g.F.PositionedFile.positioned f).honest) below (over.was_honest honest);
    }
