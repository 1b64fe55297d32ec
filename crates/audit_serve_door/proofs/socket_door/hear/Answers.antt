use Rattle.audit_serve_door.specs.Waits.{NoArrival}
use Rattle.audit_serve_door.proofs.Calls.{changes_on}
use Rattle.audit_serve_door.proofs.socket_door.hear.Goals as goal

pub returns-then-is_write_closed : goal.returns-then-is_write_closed
returns-then-is_write_closed g c = changes_on g.J.Journal.notes NoArrival c.args.waiting.now _ _ c.args.journal.now _ c.note_heard.ensures c.close.ensures

pub returns-else-is_other-2 : goal.returns-else-is_other-2
returns-else-is_other-2 g c = c.note_heard.ensures
