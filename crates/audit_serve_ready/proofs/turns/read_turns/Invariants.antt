use Rattle.std.proofs.Common.{◌<◌, ◌≤◌, length}
use Rattle.audit_serve_ready.specs.Reading.{turn_number, TakesTurns}
use Rattle.audit_serve_ready.specs.Backlog.{OwesOnlyAfterTurns, AreWithinBacklog, KeepsTurns}
use Rattle.audit_serve_ready.proofs.turns.read_turns.Given as goal

abbrev pub invariant-loop-number : goal.invariant-loop-number
invariant-loop-number g l =
    let M = g.C.SessionCore.model in
    TakesTurns M g.S.ReadyStream.calls l.fn.bounds.backlog l.fn.questions.left l.questions.left l.found (λ k. (l.fn.from ≤ turn_number l.fn.first (length l.fn.slots) k) × (turn_number l.fn.first (length l.fn.slots) k < l.number)) l.fn.had_turn l.had_turn l.fn.core l.core l.fn.slots l.slots
    × (OwesOnlyAfterTurns M (length l.fn.slots) l.fn.had_turn l.fn.core → AreWithinBacklog M l.fn.bounds.backlog l.fn.core l.fn.slots
    → OwesOnlyAfterTurns M (length l.fn.slots) l.had_turn l.core × AreWithinBacklog M l.fn.bounds.backlog l.core l.slots)
    × KeepsTurns l.fn.had_turn l.had_turn l.fn.slots l.slots
