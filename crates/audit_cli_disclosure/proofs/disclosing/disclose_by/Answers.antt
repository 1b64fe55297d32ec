use Rattle.std.proofs.lemmas.Result.{err_from_is_err_and}
use Rattle.audit_cli_disclosure.proofs.Disclosed.{ends_at_start, ends_at_out, ends_by_start, task_of}
use Rattle.audit_cli_disclosure.proofs.disclosing.disclose_by.Goals as goal

pub returns-in_err-start : goal.returns-in_err-start
returns-in_err-start g c =
    let p = err_from_is_err_and c.from_residual.result c.from_residual.ensures.1 in
    let found = c.in_err-start.ensures in
    rw (p.1, p.2) (ends_at_start g.F.AuditorFiles.calls g.F.Export.FallibleRead.failed c.args.asked c.args.files.now c.start_at.new.files (g.W.Write.contents c.args.output.now) c.in_err-start.field-0.0
    c.args.words.now.commitment c.args.words.now.choice c.requires found.0 found.1 found.2)

pub returns-in_err-look_for_nothing : goal.returns-in_err-look_for_nothing
returns-in_err-look_for_nothing g c =
    let p = err_from_is_err_and c.from_residual-in_err-look_for_nothing.result c.from_residual-in_err-look_for_nothing.ensures.1 in
    let found = c.in_ok-start.ensures in
    let task = task_of g.F.AuditorFiles.calls g.F.Export.FallibleRead.failed c.args.asked c.args.words.now.commitment c.args.words.now.choice c.in_ok-start.start c.requires found.0 found.1 found.2 in
    rw (p.1, p.2) (ends_at_out g.F.AuditorFiles.calls g.F.Export.FallibleRead.failed c.args.asked c.args.files.now c.start_at.new.files c.look_for_nothing.new.self (g.W.Write.contents c.args.output.now) c.in_err-look_for_nothing.field-0.0
    task c.in_err-look_for_nothing.ensures.cause found.3 c.in_err-look_for_nothing.ensures.did)

pub returns : goal.returns
returns g c =
    let found = c.in_ok-start.ensures in
    let task = task_of g.F.AuditorFiles.calls g.F.Export.FallibleRead.failed c.args.asked c.args.words.now.commitment c.args.words.now.choice c.in_ok-start.start c.requires found.0 found.1 found.2 in
    ends_by_start g.F.AuditorFiles.calls g.F.Export.FallibleRead.failed c.args.asked c.args.files.now c.start_at.new.files c.look_for_nothing.new.self c.disclose_from.new.files (g.W.Write.contents c.args.output.now) (g.W.Write.contents c.disclose_from.new.output)
    task c.disclose_from.result found.3 c.in_ok-look_for_nothing.ensures.did c.disclose_from.ensures
