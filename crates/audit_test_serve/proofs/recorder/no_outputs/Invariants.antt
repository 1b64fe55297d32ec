use Rattle.std.proofs.Common.{◌≡◌, length}
use Rattle.audit_test_serve.proofs.recorder.no_outputs.Given as goal

abbrev pub invariant-loop : goal.invariant-loop
invariant-loop g l = length l.outputs.items ≡ l.counter
