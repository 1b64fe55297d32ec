use Rattle.std.proofs.Common.{arith}
use Rattle.audit_serve_ready.proofs.TurnByTurn.{turns_none}
use Rattle.audit_serve_ready.proofs.gathering.first_turn.Goals as goal

pub returns-else-first-slots-clause-done : goal.returns-else-first-slots-clause-done
returns-else-first-slots-clause-done g c =
    turns_none g.C.SessionCore.model g.S.ReadyStream.calls c.args.bounds.backlog c.args.had_turn.now c.args.core.now c.args.slots.now (λ k within unmarked live meant. omega (arith, within, meant, c.if-first-slots.false))
