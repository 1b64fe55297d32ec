use Rattle.std.proofs.Common.{refl}
use Rattle.audit_serve_door.proofs.Waiters.{admits}
use Rattle.audit_serve_door.proofs.waiting.Waiting.admit.Goals as goal

pub returns-clause-passes : goal.returns-clause-passes
returns-clause-passes g c = admits c.args.number c.args.arrival c.put.result c.args.self.now _ c.put.ensures refl refl
