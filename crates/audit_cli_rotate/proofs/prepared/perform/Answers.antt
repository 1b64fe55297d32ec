use Rattle.std.proofs.Common.{◌⊎◌, ◌∙◌, Err, Ok, ap, inl, inr, refl}
use Rattle.std.proofs.lemmas.Result.{err_from_is_err_and}
use Rattle.std.specs.Cmp.Lexicographic.{same_text}
use Rattle.audit_cli_base.specs.declared.fault.CommandError.TheVariants.{BadArgument}
use Rattle.audit_cli_rotate.proofs.PreparedStores.{opens_none, unlooked, lacks_old, opens_both}
use Rattle.audit_cli_rotate.proofs.prepared.perform.Goals.{then-eq-via-then-eq, then-eq-via-else-eq+then-is_same_file}
use Rattle.audit_cli_rotate.proofs.prepared.perform.Goals as goal

pub returns-in_err-there : goal.returns-in_err-there
returns-in_err-there g c =
    let p = err_from_is_err_and c.from_residual.result c.from_residual.ensures.1 in
    let why = c.in_err-there.ensures.fault in
    unlooked g.F.File.SystemFile.facts _ (g.F.SystemFiles.synced c.args.rt.now) (g.F.SystemFiles.failed c.args.rt.now ⊎ g.F.FileNames.unnamed c.args.rt.now) (g.F.FileNames.leads_to c.args.rt.now) g.O.Stores.calls g.O.Stores.at c.args.request c.args.stores.now (g.W.Write.contents c.args.output.now) c.in_err-there.field-0.0 c.from_residual.result (p.1 ∙ ap Err p.2) (why.0, inr why.1)

pub returns-then-eq : goal.returns-then-eq
returns-then-eq g c =
    opens_none g.F.File.SystemFile.facts _ (g.F.SystemFiles.synced c.args.rt.now) (g.F.SystemFiles.failed c.args.rt.now ⊎ g.F.FileNames.unnamed c.args.rt.now) (g.F.FileNames.leads_to c.args.rt.now) g.O.Stores.calls g.O.Stores.at c.args.request c.args.stores.now (g.W.Write.contents c.args.output.now) BadArgument _ refl
    (elim c.then-eq.branch [
      | then-eq-via-then-eq w ↦ inl (same_text _ _ w.if-eq.ensures)
      | then-eq-via-else-eq+then-is_same_file w ↦
          let q = w.if-is_same_file.ensures refl in
          inr (q.0, q.2, c.in_ok-there.ensures.found q.0 (ap Ok q.1))
    ])

pub returns-in_err-old : goal.returns-in_err-old
returns-in_err-old g c =
    let p = err_from_is_err_and c.from_residual-in_err-old.result c.from_residual-in_err-old.ensures.1 in
    lacks_old g.F.File.SystemFile.facts _ (g.F.SystemFiles.synced c.args.rt.now) (g.F.SystemFiles.failed c.args.rt.now ⊎ g.F.FileNames.unnamed c.args.rt.now) (g.F.FileNames.leads_to c.args.rt.now) g.O.Stores.calls g.O.Stores.at c.args.request c.args.stores.now c.open.new.self (g.W.Write.contents c.args.output.now) c.in_err-old.field-0.0 c.from_residual-in_err-old.result (p.1 ∙ ap Err p.2) c.in_err-old.ensures.did

pub returns : goal.returns
returns g c =
    opens_both g.F.File.SystemFile.facts _ (g.F.SystemFiles.synced c.args.rt.now) (g.F.SystemFiles.failed c.args.rt.now ⊎ g.F.FileNames.unnamed c.args.rt.now) (g.F.FileNames.leads_to c.args.rt.now) g.O.Stores.calls g.O.Stores.at c.args.request c.args.stores.now c.open.new.self c.open_next-done.new.stores c.let_go.new.self c.in_ok-old.field-0.content c.open_next-done.new.old (g.W.Write.contents c.args.output.now) (g.W.Write.contents c.open_next-done.new.output) c.open_next-done.result
    c.in_ok-old.ensures.at c.in_ok-old.ensures.did c.let_go.ensures c.open_next-done.ensures
