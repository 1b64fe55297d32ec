use Rattle.audit_serve_door.proofs.socket_door.SocketDoor.begin_end.Goals as goal

pub returns-clause-begun : goal.returns-clause-begun
returns-clause-begun g c = λ none. (c.args.self.now.now, (c.finish-ending.ensures.begins none).1)
