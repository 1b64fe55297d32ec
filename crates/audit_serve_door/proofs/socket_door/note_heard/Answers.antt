use Rattle.audit_serve_door.specs.Waits.{NoArrival}
use Rattle.audit_serve_door.proofs.Calls.{lost}
use Rattle.audit_serve_door.proofs.socket_door.note_heard.Goals as goal

pub returns-then-not-hear : goal.returns-then-not-hear
returns-then-not-hear g c = lost g.J.Journal.notes NoArrival c.hear.result c.args.waiting.now c.hear.new.self c.args.journal.now c.note.new.self c.if-not-hear.true c.hear.ensures.passes c.note.ensures
