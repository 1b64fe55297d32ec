use Rattle.audit_cli_store.proofs.AnsweredFiles.{shown_by}
use Rattle.audit_cli_store.proofs.header_showing.show_header.Goals as goal

pub returns-clause-shown : goal.returns-clause-shown
returns-clause-shown g c =
    shown_by g.F.File.SystemFile.facts g.F.File.PositionedFile.positioned _ c.args.file.now c.args.form c.in_ok-header.header (g.W.Write.contents c.args.output.now) (g.W.Write.contents c.show_state.new.writer) c.show_state.result c.in_ok-header.ensures.told
    (c.show_state.ensures.written c.in_ok-header.header c.of_header.ensures)
