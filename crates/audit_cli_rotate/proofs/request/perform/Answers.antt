use Rattle.std.proofs.Common.{Err, sym, ap, ◌∙◌}
use Rattle.std.proofs.lemmas.Result.{err_from_is_err_and}
use Rattle.audit_cli_rotate.specs.Files.{IsNamed}
use Rattle.audit_cli_rotate.proofs.Carried.{performed, unasked}
use Rattle.audit_cli_rotate.proofs.request.perform.Goals as goal

pub returns-clause-rotated : goal.returns-clause-rotated
returns-clause-rotated g c =
    performed g.F.File.SystemFile.facts g.F.File.PositionedFile.positioned _ g.O.NewStores.made_at (IsNamed (g.F.FileNames.named c.args.rt.now) (g.F.SystemFiles.synced c.args.rt.now)) g.O.Stores.calls (g.O.Stores.at c.args.stores.now) _ c.args.request c.in_ok-first_key.first_key c.in_ok-sectors.sectors c.args.stores.now c.rotate_file.new.stores (g.W.Write.contents c.args.output.now) (g.W.Write.contents c.rotate_file.new.output) c.rotate_file.result
    (sym c.in_ok-sectors.ensures) c.in_ok-first_key.ensures.key c.rotate_file.ensures.rotated c.rotate_file.ensures.stopped

pub returns-in_err-sectors-clause-rotated : goal.returns-in_err-sectors-clause-rotated
returns-in_err-sectors-clause-rotated g c =
    let p = err_from_is_err_and c.from_residual.result c.from_residual.ensures.1 in
    unasked g.F.File.SystemFile.facts g.F.File.PositionedFile.positioned _ g.O.NewStores.made_at (IsNamed (g.F.FileNames.named c.args.rt.now) (g.F.SystemFiles.synced c.args.rt.now)) g.O.Stores.calls (g.O.Stores.at c.args.stores.now) _ c.args.request c.args.stores.now (g.W.Write.contents c.args.output.now) c.in_err-sectors.field-0.0 c.from_residual.result (p.1 ∙ ap Err p.2)
