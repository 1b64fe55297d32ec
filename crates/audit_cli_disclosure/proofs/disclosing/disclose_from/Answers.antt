use Rattle.std.proofs.lemmas.Result.{err_from_is_err_and}
use Rattle.audit_cli_disclosure.specs.MadeDisclosure.{disclosed_data}
use Rattle.audit_cli_disclosure.proofs.Disclosed.{ends_at_export, ends_by_keys}
use Rattle.audit_cli_disclosure.proofs.disclosing.disclose_from.Goals as goal

pub returns-in_err-chosen : goal.returns-in_err-chosen
returns-in_err-chosen g c =
    let p = err_from_is_err_and c.from_residual.result c.from_residual.ensures.1 in
    let found = c.in_err-chosen.ensures in
    rw (p.1, p.2) (ends_at_export g.F.AuditorFiles.calls g.F.Export.FallibleRead.failed c.args.asked c.args.files.now c.choose_at.new.files (g.W.Write.contents c.args.output.now) c.in_err-chosen.field-0.0
    c.args.words.now.commitment c.args.words.now.choice c.args.start.now found.0 found.1 found.2)

pub returns : goal.returns
returns g c =
    let found = c.in_ok-chosen.ensures in
    ends_by_keys g.F.AuditorFiles.calls g.F.Export.FallibleRead.failed c.args.asked c.args.files.now c.choose_at.new.files c.put_disclosed.new.files (g.W.Write.contents c.args.output.now) (g.W.Write.contents c.put_disclosed.new.output)
    c.args.words.now.commitment c.args.words.now.choice c.args.start.now found.0 (disclosed_data c.in_ok-chosen.chosen) c.put_disclosed.result found.1 found.2 c.put_disclosed.ensures
