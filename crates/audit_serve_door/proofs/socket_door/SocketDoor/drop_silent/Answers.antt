use Rattle.audit_serve_door.proofs.Calls.{dropped}
use Rattle.audit_serve_door.proofs.socket_door.SocketDoor.drop_silent.Goals as goal

pub returns-then-is_dropped-clause-turned : goal.returns-then-is_dropped-clause-turned
returns-then-is_dropped-clause-turned g c = dropped g.J.Journal.notes _ c.args.self.now.waiting _ c.args.self.now.journal c.note_silent.new.self c.if-is_dropped.true c.drop_silent-is_dropped.ensures c.note_silent.ensures
