use Rattle.std.proofs.lemmas.Result.{err_from_is_err_and}
use Rattle.audit_cli_rotate.specs.Files.{IsNamed}
use Rattle.audit_cli_rotate.proofs.Carried.{finds_by, finds_in_part}
use Rattle.audit_cli_rotate.proofs.files.rotate_store.Goals as goal

pub returns-in_err-find_made : goal.returns-in_err-find_made
returns-in_err-find_made g c =
    let p = err_from_is_err_and c.from_residual.result c.from_residual.ensures.1 in
    finds_in_part g.F.File.SystemFile.facts g.F.File.PositionedFile.positioned _ g.O.NewStores.made_at (IsNamed (g.F.FileNames.named c.args.rt.now) (g.F.SystemFiles.synced c.args.rt.now)) g.O.Stores.calls c.args.new.now c.args.first_key c.args.sectors c.args.stores.now c.args.old.now (g.W.Write.contents c.args.output.now) (g.W.Write.contents c.find_made.new.output) c.from_residual.result p.0 p.1 c.in_err-find_made.ensures.part

pub returns-in_ok-find_made : goal.returns-in_ok-find_made
returns-in_ok-find_made g c =
    finds_by g.F.File.SystemFile.facts g.F.File.PositionedFile.positioned _ g.O.NewStores.made_at (IsNamed (g.F.FileNames.named c.args.rt.now) (g.F.SystemFiles.synced c.args.rt.now)) g.O.Stores.calls c.args.new.now c.args.first_key c.args.sectors c.args.stores.now c.args.old.now (g.W.Write.contents c.args.output.now) (g.W.Write.contents c.find_made.new.output) c.in_ok-find_made.ensures.found
