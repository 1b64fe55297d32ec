use Rattle.std.proofs.Common.{arith}
use Rattle.audit_serve_ready.proofs.TurnNumbers.{number_of_place, number_round}
use Rattle.audit_serve_ready.proofs.turns.session_of_turn.Goals as goal

pub returns-then-place-count-clause-number : goal.returns-then-place-count-clause-number
returns-then-place-count-clause-number c = number_of_place c.args.first c.args.count c.args.number _ (omega arith)

pub returns-else-place-count-clause-number : goal.returns-else-place-count-clause-number
returns-else-place-count-clause-number c = number_round c.args.first c.args.count c.args.number _ (omega arith) (omega arith)
