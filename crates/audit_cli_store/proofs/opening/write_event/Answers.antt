use Rattle.std.proofs.Common.{ap, length}
use Rattle.audit_cli_store.proofs.OpenedProofs.{written_event}
use Rattle.audit_cli_store.proofs.opening.write_event.Goals as goal

pub returns : goal.returns
returns g c =
    written_event c.args.form c.args.key.now c.args.proof.now.index c.args.proof.now.entry.items c.deref.result.now c.in_ok-opened.field-0 c.in-Some.opened _
    (g.W.Write.contents c.args.writer.now) (g.W.Write.contents c.write_opened.new.writer) c.deref.ensures.value c.in-Some.is c.in_ok-opened.ensures
    (ap length c.deref-payload.ensures.value) c.in_ok-write_opened.ensures.written
