use Rattle.audit_wire_read.proofs.Asked.{asks_more, asks_newest}
use Rattle.audit_wire_read.proofs.under.newest_under.Goals as goal

pub returns-in-Ok-lead_kept-clause-asked : goal.returns-in-Ok-lead_kept-clause-asked
returns-in-Ok-lead_kept-clause-asked g c = asks_more (asks_newest c.in-Ok.ensures.sees) c.in-Ok-lead_kept.ensures.asked
