use Rattle.audit_cli_rotate.proofs.PreparedStores.{link_not_in_if}
use Rattle.audit_cli_rotate.proofs.link_file.link_in_file.Goals as goal

pub returns-in-Ok-clause-fault : goal.returns-in-Ok-clause-fault
returns-in-Ok-clause-fault g c =
    link_not_in_if c.link_of.result (g.R.Read.remaining c.args.reader.now) c.in-Ok.bytes.items c.deref.result.now c.in-Ok.ensures.whole c.deref.ensures.value c.link_of.ensures.fault
