use Rattle.audit_serve_door.proofs.Passing.{changes_refl}
use Rattle.audit_serve_door.proofs.socket_door.SocketDoor.make_room.Goals as goal

pub returns-then-is_some-clause-turned : goal.returns-then-is_some-clause-turned
returns-then-is_some-clause-turned g c = changes_refl g.J.Journal.notes c.args.self.now.waiting c.args.self.now.journal
