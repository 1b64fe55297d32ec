use Rattle.std.proofs.Common.{ℕ, List, [], sym, subst}
use Rattle.audit_serve_passes.specs.Core.{bytes_for}
use Rattle.audit_server_commit.specs.Serving.{HasServed}
use Rattle.audit_server_commit.proofs.ServedSteps.{served_taken}
use Rattle.audit_server.specs.Core.{data_of}
use Rattle.audit_server.proofs.session_core.CoreSessionCore.take_output.Goals as goal

pub returns-clause-did : goal.returns-clause-did
returns-clause-did g c =
    subst (λ (bytes : List ℕ). HasServed (data_of c.args.self.now) (data_of c.take_output.new.self) [] (bytes_for c.args.session bytes)) (sym c.take_output.ensures.taken)
    (served_taken (data_of c.args.self.now) (data_of c.take_output.new.self) c.args.session c.take_output.ensures.store c.take_output.ensures.reserve c.take_output.ensures.counted c.take_output.ensures.stops c.take_output.ensures.waiting c.take_output.ensures.sessions c.take_output.ensures.emptied)
