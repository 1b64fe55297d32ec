use Rattle.std.proofs.Common.{◌≡◌, ◌⊎◌, ◌<◌, ◌≤◌, ◌||◌, true, false, length, get_or, replicate}
use Rattle.audit_serve_ready.specs.declared.limits.TheConstants.{MAX_ASKED}
use Rattle.audit_serve_ready.specs.Places.{slot_at}
use Rattle.audit_serve_ready.specs.Reading.{turn_number, TakesTurns}
use Rattle.audit_serve_ready.specs.Rounds.{AsksDoor}
use Rattle.audit_serve_ready.specs.Backlog.{OwesNothing, OwesOnlyAfterTurns, AreWithinBacklog, MayAsk, HasTakenRequest}
use Rattle.audit_serve_ready.proofs.gathering.gather.Given as goal

abbrev pub invariant-loop-reading : goal.invariant-loop-reading
invariant-loop-reading g l =
    let M = g.C.SessionCore.model in
    let first = l.fn.first in
    TakesTurns M g.D.Stream.ReadyStream.calls l.fn.backlog MAX_ASKED l.questions.left (l.moved || l.found) (λ k. (turn_number first (length l.fn.slots) k < l.from) ⊎ (1 ≤ l.reading)) (replicate 16 false) l.had_turn l.fn.core l.core l.fn.slots l.slots
    × (1 ≤ l.reading → l.found ≡ false)
    × AsksDoor g.D.Door.calls l.fn.door l.door
    × (OwesNothing M (length l.fn.slots) l.fn.core → AreWithinBacklog M l.fn.backlog l.fn.core l.fn.slots
    → OwesOnlyAfterTurns M (length l.fn.slots) l.had_turn l.core × AreWithinBacklog M l.fn.backlog l.core l.slots)
    × (first < length l.fn.slots → MayAsk M l.fn.backlog first l.fn.core (slot_at first l.fn.slots)
    → HasTakenRequest M l.fn.backlog first l.fn.core (slot_at first l.fn.slots) (slot_at first l.slots) × (get_or l.had_turn first true ≡ true))
