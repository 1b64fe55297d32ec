use Rattle.audit_serve_ready.proofs.Hearing.{heard_in}
use Rattle.audit_serve_ready.proofs.laws.each_pass_hears_each_client.Goals as goal

pub returns : goal.returns
returns g c = λ backlog first k was now old new before after pass within live. heard_in g.C.SessionCore.model g.D.Stream.ReadyStream.calls g.D.Door.calls backlog first k was now old new before after pass within live
