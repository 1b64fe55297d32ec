use Rattle.std.proofs.Common.{inl, rules}
use Rattle.audit_wire_ask.proofs.Conversations.{converses_none}
use Rattle.audit_wire_ask.proofs.asking.vouch.Goals as goal

pub returns-then-eq-clause-done : goal.returns-then-eq-clause-done
returns-then-eq-clause-done g c = inl (search rules, converses_none _ _)
