use Rattle.audit_serve_door.proofs.Origins.{from_nobody}
use Rattle.audit_serve_door.proofs.laws.each_client_has_the_rights_of_a_socket.Goals as goal

pub returns : goal.returns
returns g c = λ old new calls nobody did. from_nobody g.L.Accepts.model g.J.Journal.notes g.W.Watch.left old new calls nobody did
