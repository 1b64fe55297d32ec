use Rattle.std.proofs.Common.{length}
use Rattle.audit_cli_witness.proofs.StateLines.{IsReadUpTo}
use Rattle.audit_cli_witness.proofs.state_lines.tail_in.Given as goal

abbrev pub invariant-loop-rest : goal.invariant-loop-rest
invariant-loop-rest l = record { read : IsReadUpTo l.fn.text l.kept.items l.rest }

abbrev pub decreases-loop-rest : goal.decreases-loop-rest
decreases-loop-rest l = length l.rest
