use Rattle.audit_serve_door.proofs.Passing.{changes_refl}
use Rattle.audit_serve_door.proofs.socket_door.SocketDoor.accept_order.Goals as goal

pub returns-in-One-clause-turned : goal.returns-in-One-clause-turned
returns-in-One-clause-turned g c = changes_refl g.J.Journal.notes c.args.self.now.waiting c.args.self.now.journal

pub returns-in-NoneLeft-clause-turned : goal.returns-in-NoneLeft-clause-turned
returns-in-NoneLeft-clause-turned g c = changes_refl g.J.Journal.notes c.args.self.now.waiting c.args.self.now.journal
