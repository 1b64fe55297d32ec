use Rattle.std.proofs.Common.{sym}
use Rattle.audit_cli_disclosure.proofs.Shown.{ends_by_disclosure, showing_task}
use Rattle.audit_cli_disclosure.proofs.matching.show_file.Goals as goal

pub returns : goal.returns
returns g c =
    let found = c.in_ok-disclosure.ensures.found in
    let task = showing_task g.F.AuditorFiles.calls g.F.Export.FallibleRead.failed c.args.asked (g.W.FlushedOutput.flushed c.show_by.new.output) (g.W.FlushedOutput.unflushed c.show_by.new.output) c.in_ok-commitment.commitment (sym c.in_ok-commitment.ensures.asked)
    found.0 c.in_ok-disclosure.disclosure.start c.in_ok-disclosure.disclosure.keys.items found.1 in
    ends_by_disclosure g.F.AuditorFiles.calls g.F.Export.FallibleRead.failed c.args.asked (g.W.FlushedOutput.flushed c.show_by.new.output) (g.W.FlushedOutput.unflushed c.show_by.new.output) c.args.files.now c.disclosure_at.new.files c.show_by.new.files (g.W.Write.contents c.args.output.now) (g.W.Write.contents c.show_by.new.output)
    (g.M.Write.contents c.args.messages.now) (g.M.Write.contents c.show_by.new.messages) c.show_by.result task found.2 c.show_by.ensures
