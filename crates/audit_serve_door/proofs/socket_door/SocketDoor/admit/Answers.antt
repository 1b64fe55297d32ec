use Rattle.audit_serve_door.proofs.Calls.{refused, lost_one, there_one}
use Rattle.audit_serve_door.proofs.socket_door.SocketDoor.admit.Goals as goal

pub returns-then-is_err-clause-waits : goal.returns-then-is_err-clause-waits
returns-then-is_err-clause-waits g c = refused g.J.Journal.notes c.args.arrival c.args.self.now.waiting _ _ c.note.ensures

pub returns-then-not-admit-clause-waits : goal.returns-then-not-admit-clause-waits
returns-then-not-admit-clause-waits g c = lost_one g.J.Journal.notes c.args.arrival c.register.new.self c.admit.result c.args.self.now.waiting _ _ _ c.register.ensures c.if-not-admit.true c.admit.ensures.passes c.note-then-not-admit.ensures

pub returns-else-not-admit-clause-waits : goal.returns-else-not-admit-clause-waits
returns-else-not-admit-clause-waits g c = there_one g.J.Journal.notes c.args.arrival c.register.new.self c.admit.result c.args.self.now.waiting _ _ c.register.ensures c.if-not-admit.false c.admit.ensures.passes
