use Rattle.std.proofs.Common.{◌≡◌}
use Rattle.audit_chain.specs.Key.{evolved_key}
use Rattle.audit_cli_rotate.proofs.own_key.key_after.Given as goal

abbrev pub invariant-loop : goal.invariant-loop
invariant-loop l = l.key ≡ evolved_key l.fn.first l.counter
