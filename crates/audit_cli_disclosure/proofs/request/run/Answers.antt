use Rattle.std.proofs.KnownBytes.{Keeps-trans}
use Rattle.audit_cli_disclosure.proofs.WrongWords.{ended_at_word, status_at_word}
use Rattle.audit_cli_disclosure.proofs.request.run.Goals as goal

pub returns-clause-words : goal.returns-clause-words
returns-clause-words g c = λ wrong.
    let ended = ended_at_word g.F.AuditorFiles.calls g.F.Export.FallibleRead.failed c.args.files.now c.perform-done.new.files (g.W.Write.contents c.args.output.now) (g.W.Write.contents c.perform-done.new.output)
    c.args.request (g.M.Write.contents c.args.messages.now) (g.M.Write.contents c.perform-done.new.messages) (g.W.FlushedOutput.flushed c.perform-done.new.output) (g.W.FlushedOutput.unflushed c.perform-done.new.output) c.perform-done.result c.perform-done.ensures wrong in
    status_at_word g.F.AuditorFiles.calls c.args.files.now c.perform-done.new.files (g.W.Write.contents c.args.output.now) (g.W.Write.contents c.perform-done.new.output)
    c.perform-done.result c.flush_last.result c.report_end.result ended c.report_end.ensures.whole c.report_end.ensures.failed

pub returns-clause-unwritten : goal.returns-clause-unwritten
returns-clause-unwritten g c = λ wrong.
    let ended = ended_at_word g.F.AuditorFiles.calls g.F.Export.FallibleRead.failed c.args.files.now c.perform-done.new.files (g.W.Write.contents c.args.output.now) (g.W.Write.contents c.perform-done.new.output)
    c.args.request (g.M.Write.contents c.args.messages.now) (g.M.Write.contents c.perform-done.new.messages) (g.W.FlushedOutput.flushed c.perform-done.new.output) (g.W.FlushedOutput.unflushed c.perform-done.new.output) c.perform-done.result c.perform-done.ensures wrong in
    Keeps-trans (g.W.Write.contents c.args.output.now) (g.W.Write.contents c.perform-done.new.output) (g.W.Write.contents c.flush_last.new.self) ended.unwritten c.flush_last.ensures.kept

pub returns-clause-unopened : goal.returns-clause-unopened
returns-clause-unopened g c = λ wrong.
    let ended = ended_at_word g.F.AuditorFiles.calls g.F.Export.FallibleRead.failed c.args.files.now c.perform-done.new.files (g.W.Write.contents c.args.output.now) (g.W.Write.contents c.perform-done.new.output)
    c.args.request (g.M.Write.contents c.args.messages.now) (g.M.Write.contents c.perform-done.new.messages) (g.W.FlushedOutput.flushed c.perform-done.new.output) (g.W.FlushedOutput.unflushed c.perform-done.new.output) c.perform-done.result c.perform-done.ensures wrong in
    ended.calls
