use Rattle.std.proofs.Common.{ℕ}
use Rattle.audit_cli_client.specs.Sent.{KeepsConnections}
use Rattle.audit_cli_client.proofs.sending.send_on.Given as goal

-- what was sent over the connections so far
abbrev pub invariant-loop : goal.invariant-loop
invariant-loop g l = (count : ℕ) × g.L.Legs.sent l.legs count l.placing l.total
    × KeepsConnections g.L.Legs.reached g.L.Legs.broke l.fn.legs l.legs
