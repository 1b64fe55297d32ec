use Rattle.std.proofs.Common.{refl}
use Rattle.audit_serve_door.proofs.Calls.{kept_call}
use Rattle.audit_serve_door.proofs.socket_door.SocketDoorDoor.asks_again.Goals as goal

pub returns-in_default : goal.returns-in_default
returns-in_default g c = kept_call c.args.self.now _ refl refl refl refl refl (record { replaced = refl; failed = refl })

pub returns : goal.returns
returns g c = kept_call c.args.self.now _ refl refl refl refl refl (record { replaced = refl; failed = refl })
