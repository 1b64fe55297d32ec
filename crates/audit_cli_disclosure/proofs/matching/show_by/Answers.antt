use Rattle.std.proofs.lemmas.Result.{err_from_is_err_and}
use Rattle.audit_cli_disclosure.proofs.Shown.{ends_at_showing, ends_by_report}
use Rattle.audit_cli_disclosure.proofs.matching.show_by.Goals as goal

pub returns-in_err-end : goal.returns-in_err-end
returns-in_err-end g c =
    let p = err_from_is_err_and c.from_residual.result c.from_residual.ensures.1 in
    let found = c.in_err-end.ensures in
    rw (p.1, p.2) (ends_at_showing g.F.AuditorFiles.calls g.F.Export.FallibleRead.failed c.args.asked (g.W.FlushedOutput.flushed c.show_at.new.output) (g.W.FlushedOutput.unflushed c.show_at.new.output) c.args.files.now c.show_at.new.files (g.W.Write.contents c.args.output.now) (g.W.Write.contents c.show_at.new.output) (g.M.Write.contents c.args.messages.now)
    c.in_err-end.field-0.0 c.args.commitment.now c.args.disclosure.now.start c.args.disclosure.now.keys.items found.0 found.1 found.2)

pub returns : goal.returns
returns g c =
    let found = c.in_ok-end.ensures in
    ends_by_report g.F.AuditorFiles.calls g.F.Export.FallibleRead.failed c.args.asked (g.W.FlushedOutput.flushed c.end_report.new.output) (g.W.FlushedOutput.unflushed c.end_report.new.output) c.args.files.now c.show_at.new.files
    (g.W.Write.contents c.args.output.now) (g.W.Write.contents c.show_at.new.output) (g.W.Write.contents c.end_report.new.output) (g.M.Write.contents c.args.messages.now) (g.M.Write.contents c.end_report.new.messages)
    c.args.commitment.now c.args.disclosure.now.start c.args.disclosure.now.keys.items found.0 c.in_ok-end.end c.end_report.result found.1 found.2
    c.end_report.ensures.kept c.end_report.ensures.done c.end_report.ensures.fault
