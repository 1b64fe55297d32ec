use Rattle.audit_serve_ready.proofs.Hearing.{rounds_change}
use Rattle.audit_serve_ready.proofs.laws.rounds_are_changes.Goals as goal

pub returns : goal.returns
returns g c = λ backlog rounds was now old new before after are. rounds_change g.C.SessionCore.model g.D.Stream.ReadyStream.calls g.D.Door.calls backlog rounds was now old new before after are
