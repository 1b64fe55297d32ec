use Rattle.audit_cli_serve.proofs.request.connect.Given as goal

-- each connection before this one was another client's
abbrev pub invariant-loop : goal.invariant-loop
invariant-loop g l = g.F.OwnConnections.met l.search l.counter
