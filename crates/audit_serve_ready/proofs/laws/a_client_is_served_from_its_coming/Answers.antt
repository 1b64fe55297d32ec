use Rattle.audit_serve_ready.proofs.Staying.{stayed_from_coming}
use Rattle.audit_serve_ready.proofs.laws.a_client_is_served_from_its_coming.Goals as goal

pub returns : goal.returns
returns g c = λ k client changes old new before after backlog first. stayed_from_coming g.C.SessionCore.model g.S.ReadyStream.calls backlog first k client changes old new before after
