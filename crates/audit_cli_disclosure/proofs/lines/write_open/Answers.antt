use Rattle.std.specs.Prelude.{IfErr, OnOk}
use Rattle.std.specs.Io.KnownBytes.{Appends}
use Rattle.std.proofs.Common.{◌∙◌, subst, ap}
use Rattle.audit_chain.specs.EventData.{EventData}
use Rattle.audit_link.specs.OpenedEntry.{read_under}
use Rattle.audit_cli_offline.specs.ReportLines.{event_text}
use Rattle.audit_cli_offline.specs.TwoPasses.{IsLineUnwritten}
use Rattle.audit_cli_disclosure.proofs.ReadEntries.{one_alone}
use Rattle.audit_cli_disclosure.proofs.lines.write_open.Goals as goal

pub returns-clause-written : goal.returns-clause-written
returns-clause-written g c = λ parts is.
    let opens = rw c.in-Some.is at c.in_ok-opened.ensures in
    subst (λ (event : EventData). OnOk c.write_opened.result (Appends (g.W.Write.contents c.args.writer.now) (g.W.Write.contents c.write_opened.new.writer) (event_text c.args.form c.args.index event)))
    (opens.2 ∙ ap (read_under c.args.key.now) (one_alone c.args.entry.now opens.0 parts opens.1 is)) c.write_opened.ensures.written

pub returns-clause-fault : goal.returns-clause-fault
returns-clause-fault g c = λ parts is.
    let opens = rw c.in-Some.is at c.in_ok-opened.ensures in
    subst (λ (event : EventData). IfErr c.write_opened.result (λ fault. IsLineUnwritten fault (g.W.Write.contents c.args.writer.now) (g.W.Write.contents c.write_opened.new.writer) (event_text c.args.form c.args.index event)))
    (opens.2 ∙ ap (read_under c.args.key.now) (one_alone c.args.entry.now opens.0 parts opens.1 is)) c.write_opened.ensures.fault
