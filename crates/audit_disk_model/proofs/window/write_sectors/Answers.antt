use Rattle.std.proofs.Common.{◌≡◌, [], take, length, sym, subst, arith}
use Rattle.std.proofs.lemmas.List.{take_more, length-take-le}
use Rattle.audit_disk_model.proofs.Rows.{WritesSoFar, row_next, row_failed}
use Rattle.audit_disk_model.proofs.window.write_sectors.Goals as goal

pub returns-in_err-write : goal.returns-in_err-write
returns-in_err-write g c =
    let long : length (take c.loop-k.k c.args.sectors.now) ≡ c.loop-k.k = length-take-le c.loop-k.k c.args.sectors.now (omega arith) in
    row_failed c.from_residual.result c.from_residual.ensures.0 c.loop-k.invariant c.in_err-write.ensures (omega arith) (omega arith)

pub loop-k-preserved : goal.loop-k-preserved
loop-k-preserved g c =
    let sectors = c.args.sectors.now in
    let long : length (take c.loop-k.k sectors) ≡ c.loop-k.k = length-take-le c.loop-k.k sectors (omega arith) in
    let more = row_next c.loop-k.invariant c.in_ok-write.ensures (omega arith) (omega arith) c.requires in
    subst (WritesSoFar (g.D.Sectors.view c.args.disk.now) (g.D.Sectors.view c.write.new.self) c.args.at (length sectors)) (sym (take_more sectors c.loop-k.k [] (omega arith))) more
