use Rattle.std.proofs.Common.{◌∙◌, Ok, inr, ap, subst, arith}
use Rattle.audit_cli_serve.proofs.request.connect.Goals as goal

pub loop-preserved : goal.loop-preserved
loop-preserved g c = c.hears_own.ensures.other (c.in_ok-server.was ∙ ap Ok c.in-None.is) c.loop.counter c.loop.invariant

-- as many came as are let in
pub returns-clause-failed : goal.returns-clause-failed
returns-clause-failed g c = inr (record { search = c.loop.search; met = subst (g.F.OwnConnections.met c.loop.search) (omega arith) c.loop.invariant })
