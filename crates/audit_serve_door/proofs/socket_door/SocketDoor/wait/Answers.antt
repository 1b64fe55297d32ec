use Rattle.audit_serve_door.proofs.Arriving.{receives_refl}
use Rattle.audit_serve_door.proofs.socket_door.SocketDoor.wait.Goals as goal

pub returns-in_err-poll-clause-received : goal.returns-in_err-poll-clause-received
returns-in_err-poll-clause-received g c = receives_refl g.L.Accepts.model g.J.Journal.notes c.args.self.now.entrances.items c.args.self.now.waiting c.args.self.now.journal

pub returns-in_err-self-clause-received : goal.returns-in_err-self-clause-received
returns-in_err-self-clause-received g c = receives_refl g.L.Accepts.model g.J.Journal.notes c.args.self.now.entrances.items c.args.self.now.waiting c.args.self.now.journal
