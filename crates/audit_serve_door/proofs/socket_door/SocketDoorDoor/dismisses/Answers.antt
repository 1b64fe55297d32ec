use Rattle.std.proofs.Common.{refl, rules}
use Rattle.audit_serve_door.proofs.Calls.{judged_call}
use Rattle.audit_serve_door.proofs.socket_door.SocketDoorDoor.dismisses.Goals as goal

pub returns-then-is_idle : goal.returns-then-is_idle
returns-then-is_idle g c = judged_call c.args.place c.args.client.now _ c.args.self.now _ refl refl refl refl (search rules) (search rules) (record { replaced = refl; failed = refl })

pub returns-else-is_idle : goal.returns-else-is_idle
returns-else-is_idle g c = judged_call c.args.place c.args.client.now _ c.args.self.now _ refl refl refl refl (search rules) (search rules) (record { replaced = refl; failed = refl })
