use Rattle.std.proofs.Common.{◌≤◌, inr, ℕ, ◌||◌, List, false, length, replicate, refl, sym, subst, rules, arith}
use Rattle.audit_serve_passes.specs.Steps.{StepData}
use Rattle.audit_serve_passes.specs.Streams.{StreamCall}
use Rattle.audit_serve_passes.specs.Core.{no_bytes}
use Rattle.audit_serve_ready.specs.Reading.{ReadsPlaces}
use Rattle.audit_serve_ready.specs.Rounds.{AsksDoor}
use Rattle.audit_serve_passes.proofs.Turns.{if_err}
use Rattle.audit_serve_ready.specs.Places.{slot_at}
use Rattle.audit_serve_ready.specs.Backlog.{AreWithinBacklog, HasTakenRequest}
use Rattle.audit_serve_ready.proofs.Passes.{stops_more}
use Rattle.audit_serve_ready.proofs.TurnByTurn.{then_still, last_still, all_still, then_moves, last_moves, all_moves, turns_then, turns_still, turns_mean, turns_serve, read_all}
use Rattle.audit_serve_ready.proofs.TurnNumbers.{one_first, none_first, read_or_next}
use Rattle.audit_serve_ready.proofs.PlaceByPlace.{asks_none, asks_then}
use Rattle.audit_serve_ready.proofs.Changes.{if_err_is}
use Rattle.audit_serve_ready.proofs.Bounds.{as_many, owes_as_many, unmarked, taken_still}
use Rattle.audit_serve_ready.proofs.gathering.gather.Goals as goal
use Rattle.audit_serve_ready.proofs.gathering.gather.Goals.{then-first-slots, else-first-slots, else-loop-reading-test, then-loop-reading-test+in_ok-more+then-is_gathered}

pub loop-reading-init : goal.loop-reading-init
loop-reading-init g c = (
  elim c.if-first-slots.branch [
    | then-first-slots w ↦ turns_mean g.C.SessionCore.model g.D.Stream.ReadyStream.calls c.args.backlog c.in_ok-found.found (replicate 16 false) c.first_turn.new.had_turn c.args.core.now c.first_turn.new.core c.args.slots.now c.first_turn.new.slots
        (λ k within meant. one_first c.args.first (length c.args.slots.now) c.if-first-slots.from k (omega (arith, w.if-first-slots.true, c.first_turn.auto.slots)) within w.from-is meant) c.in_ok-found.ensures.done
    | else-first-slots w ↦ turns_mean g.C.SessionCore.model g.D.Stream.ReadyStream.calls c.args.backlog c.in_ok-found.found (replicate 16 false) c.first_turn.new.had_turn c.args.core.now c.first_turn.new.core c.args.slots.now c.first_turn.new.slots
        (λ k within meant. none_first c.args.first (length c.args.slots.now) c.if-first-slots.from k w.from-is meant) c.in_ok-found.ensures.done
  ],
  (λ some. absurd (omega (arith, some))),
  asks_none g.D.Door.calls c.args.door.now,
  (λ nothing inside. c.in_ok-found.ensures.within (λ k below due. nothing k below) inside),
  (λ below may. c.in_ok-found.ensures.asked refl (unmarked 16 c.args.first (omega (arith, below, c.requires))) below may),
)

pub returns-in_err-more-clause-stopped : goal.returns-in_err-more-clause-stopped
returns-in_err-more-clause-stopped g c =
    if_err c.from_residual-in_err-more.result
    (stops_more g.C.SessionCore.model g.D.Stream.ReadyStream.calls c.args.core.now c.loop-reading.core c.read_turns.new.core c.args.slots.now c.loop-reading.slots c.read_turns.new.slots
    (turns_serve g.C.SessionCore.model g.D.Stream.ReadyStream.calls c.args.backlog (replicate 16 false) c.loop-reading.had_turn c.args.core.now c.loop-reading.core c.args.slots.now c.loop-reading.slots c.loop-reading.invariant.0) c.in_err-more.ensures.stopped)

pub returns-in_err-more-clause-refused : goal.returns-in_err-more-clause-refused
returns-in_err-more-clause-refused g c =
    let before = c.loop-reading.invariant.0 in
    if_err_is c.from_residual-in_err-more.result λ error is.
    subst (g.C.SessionCore.refuses c.args.core.now c.read_turns.new.core) (search (rules, is))
    (g.met.C.SessionCore.refuses_after c.args.core.now c.loop-reading.core c.read_turns.new.core before.steps no_bytes _ before.pass.did c.in_err-more.ensures.refused)

pub loop-reading-preserved : goal.loop-reading-preserved
loop-reading-preserved g c =
    let M = g.C.SessionCore.model in
    let l = c.loop-reading in
    let here = length l.slots in
    let all = length c.args.slots.now in (
      turns_still M g.D.Stream.ReadyStream.calls c.args.backlog ((l.moved || l.found) || c.in_ok-more.more) _ (replicate 16 false) c.read_turns.new.had_turn c.args.core.now c.read_turns.new.core c.args.slots.now c.read_turns.new.slots (then_still l.moved l.found c.in_ok-more.more) (then_moves l.moved l.found c.in_ok-more.more)
          (turns_then M g.D.Stream.ReadyStream.calls c.args.backlog (l.moved || l.found) c.in_ok-more.more (replicate 16 false) l.had_turn c.read_turns.new.had_turn c.args.core.now l.core c.read_turns.new.core c.args.slots.now l.slots c.read_turns.new.slots l.invariant.0 c.in_ok-more.ensures.done
          (λ k within meant. read_or_next c.args.first all here l.from l.reading k l.invariant.0.pass.count)),
      (λ some. refl),
      asks_then g.D.Door.calls c.args.door.now l.door c.is_gathered.new.door l.invariant.2 c.is_gathered.ensures,
      (λ nothing inside.
          let were = l.invariant.3 nothing inside in
          as_many M c.args.backlog here all c.read_turns.new.had_turn c.read_turns.new.core c.read_turns.new.slots l.invariant.0.pass.count
          (c.in_ok-more.ensures.within (owes_as_many M here all l.had_turn l.core l.invariant.0.pass.count were.0) were.1)),
      (λ below may. taken_still M c.args.backlog c.args.first c.args.core.now (slot_at c.args.first c.args.slots.now) l.had_turn c.read_turns.new.had_turn l.slots c.read_turns.new.slots c.in_ok-more.ensures.kept (l.invariant.4 below may)),
    )

pub returns-clause-done : goal.returns-clause-done
returns-clause-done g c =
    let M = g.C.SessionCore.model in
    let N = g.D.Stream.ReadyStream.calls in
    let core = c.args.core.now in
    let begun = c.args.slots.now in
    let l = c.loop-reading in
    let moved = c.loop-reading-test.moved in
    let few : length begun ≤ 16 = c.requires in
    elim c.loop-reading-test.branch [
      | else-loop-reading-test w ↦
          let some : 1 ≤ l.reading = omega (arith, w.loop-reading-test.false) in
          subst (λ new. (steps : List StepData) × (calls : ℕ → List StreamCall) × ReadsPlaces M N c.args.backlog moved steps calls core new begun c.loop-reading-test.slots) (sym w.core-is)
          (subst (λ slots. (steps : List StepData) × (calls : ℕ → List StreamCall) × ReadsPlaces M N c.args.backlog moved steps calls core l.core begun slots) (sym w.slots-is)
          (read_all M N c.args.backlog moved l.had_turn core l.core begun l.slots few (λ k within. inr some)
          (turns_still M N c.args.backlog (l.moved || l.found) moved (replicate 16 false) l.had_turn core l.core begun l.slots (all_still l.moved l.found moved w.moved-is (l.invariant.1 some)) (all_moves l.moved l.found moved w.moved-is) l.invariant.0)))
      | then-loop-reading-test+in_ok-more+then-is_gathered w ↦
          let more = w.in_ok-more.more in
          let done = turns_then M N c.args.backlog (l.moved || l.found) more (replicate 16 false) l.had_turn w.read_turns.new.had_turn core l.core w.read_turns.new.core begun l.slots w.read_turns.new.slots l.invariant.0 w.in_ok-more.ensures.done
          (λ k within meant. read_or_next c.args.first (length begun) (length l.slots) l.from l.reading k l.invariant.0.pass.count) in
          subst (λ new. (steps : List StepData) × (calls : ℕ → List StreamCall) × ReadsPlaces M N c.args.backlog moved steps calls core new begun c.loop-reading-test.slots) (sym w.core-is)
          (subst (λ slots. (steps : List StepData) × (calls : ℕ → List StreamCall) × ReadsPlaces M N c.args.backlog moved steps calls core w.read_turns.new.core begun slots) (sym w.slots-is)
          (read_all M N c.args.backlog {Meant = λ k. Unit {0}} moved w.read_turns.new.had_turn core w.read_turns.new.core begun w.read_turns.new.slots few (λ k within. tt)
          (turns_still M N c.args.backlog ((l.moved || l.found) || more) moved (replicate 16 false) w.read_turns.new.had_turn core w.read_turns.new.core begun w.read_turns.new.slots (last_still l.moved l.found more moved w.moved-is) (last_moves l.moved l.found more moved w.moved-is) done)))
    ]

pub returns-clause-askings : goal.returns-clause-askings
returns-clause-askings g c =
    let E = g.D.Door.calls in
    elim c.loop-reading-test.branch [
      | else-loop-reading-test w ↦ subst (AsksDoor E c.args.door.now) (sym w.door-is) c.loop-reading.invariant.2
      | then-loop-reading-test+in_ok-more+then-is_gathered w ↦ subst (AsksDoor E c.args.door.now) (sym w.door-is)
          (asks_then E c.args.door.now c.loop-reading.door w.is_gathered.new.door c.loop-reading.invariant.2 w.is_gathered.ensures)
    ]

pub returns-in_err-more-clause-askings : goal.returns-in_err-more-clause-askings
returns-in_err-more-clause-askings g c = c.loop-reading.invariant.2

pub returns-clause-within : goal.returns-clause-within
returns-clause-within g c =
    let M = g.C.SessionCore.model in
    let backlog = c.args.backlog in λ nothing inside.
    let were = c.loop-reading.invariant.3 nothing inside in
    elim c.loop-reading-test.branch [
      | else-loop-reading-test w ↦ subst (λ core. AreWithinBacklog M backlog core c.loop-reading-test.slots) (sym w.core-is) (subst (λ slots. AreWithinBacklog M backlog c.loop-reading.core slots) (sym w.slots-is) were.1)
      | then-loop-reading-test+in_ok-more+then-is_gathered w ↦
          subst (λ core. AreWithinBacklog M backlog core c.loop-reading-test.slots) (sym w.core-is)
          (subst (λ slots. AreWithinBacklog M backlog w.read_turns.new.core slots) (sym w.slots-is)
          (w.in_ok-more.ensures.within (owes_as_many M (length c.loop-reading.slots) (length c.args.slots.now) c.loop-reading.had_turn c.loop-reading.core c.loop-reading.invariant.0.pass.count were.0) were.1).1)
    ]

pub returns-clause-asked : goal.returns-clause-asked
returns-clause-asked g c =
    let M = g.C.SessionCore.model in
    let backlog = c.args.backlog in
    let first = c.args.first in
    let core = c.args.core.now in
    let before = slot_at first c.args.slots.now in λ below may.
    let took = c.loop-reading.invariant.4 below may in
    elim c.loop-reading-test.branch [
      | else-loop-reading-test w ↦ subst (λ slots. HasTakenRequest M backlog first core before (slot_at first slots)) (sym w.slots-is) took.0
      | then-loop-reading-test+in_ok-more+then-is_gathered w ↦
          subst (λ slots. HasTakenRequest M backlog first core before (slot_at first slots)) (sym w.slots-is)
          (taken_still M backlog first core before c.loop-reading.had_turn w.read_turns.new.had_turn c.loop-reading.slots w.read_turns.new.slots w.in_ok-more.ensures.kept took).0
    ]
