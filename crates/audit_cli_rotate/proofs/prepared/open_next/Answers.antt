use Rattle.std.proofs.Common.{◌⊎◌, refl}
use Rattle.std.proofs.lemmas.Result.{err_from_is_err_and}
use Rattle.audit_cli_rotate.proofs.PreparedStores.{lacks_next, opens_next}
use Rattle.audit_cli_rotate.proofs.prepared.open_next.Goals as goal

pub returns-in_err-next : goal.returns-in_err-next
returns-in_err-next g c =
    let p = err_from_is_err_and c.from_residual.result c.from_residual.ensures.1 in
    lacks_next g.F.File.SystemFile.facts _ (g.F.SystemFiles.synced c.args.rt.now) (g.F.SystemFiles.failed c.args.rt.now ⊎ g.F.FileNames.unnamed c.args.rt.now) (g.F.FileNames.leads_to c.args.rt.now) g.O.Stores.calls g.O.Stores.at c.args.request c.args.stores.now c.open.new.self c.args.old.now (g.W.Write.contents c.args.output.now) c.in_err-next.field-0.0 c.from_residual.result p.0 p.1 p.2 c.in_err-next.ensures.did

pub returns : goal.returns
returns g c =
    opens_next g.F.File.SystemFile.facts _ (g.F.SystemFiles.synced c.args.rt.now) (g.F.SystemFiles.failed c.args.rt.now ⊎ g.F.FileNames.unnamed c.args.rt.now) (g.F.FileNames.leads_to c.args.rt.now) g.O.Stores.calls g.O.Stores.at c.args.request c.args.stores.now c.open.new.self c.open.new.self c.let_go.new.self c.args.old.now c.join_prepared-done.new.old c.in_ok-next.field-0.content c.join_prepared-done.new.next (g.W.Write.contents c.args.output.now) (g.W.Write.contents c.join_prepared-done.new.output) c.join_prepared-done.result
    c.in_ok-next.ensures.at c.in_ok-next.ensures.did refl c.let_go.ensures c.join_prepared-done.ensures
