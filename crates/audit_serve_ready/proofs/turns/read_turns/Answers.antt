use Rattle.std.proofs.Common.{◌<◌, length, refl, subst, rules, arith}
use Rattle.audit_serve_passes.specs.Core.{no_bytes}
use Rattle.audit_serve_ready.proofs.Changes.{if_err_is}
use Rattle.audit_serve_passes.proofs.Turns.{if_err}
use Rattle.audit_serve_ready.proofs.Passes.{stops_more}
use Rattle.audit_serve_ready.proofs.Bounds.{as_many, owes_as_many, keeps_then}
use Rattle.audit_serve_ready.proofs.TurnByTurn.{turns_none, turns_then, turns_mean, turns_serve}
use Rattle.audit_serve_ready.proofs.TurnNumbers.{number_below, either_turn}
use Rattle.audit_serve_ready.proofs.turns.read_turns.Goals as goal

pub loop-number-init : goal.loop-number-init
loop-number-init g c = (
  turns_none g.C.SessionCore.model g.S.ReadyStream.calls c.args.bounds.backlog c.args.had_turn.now c.args.core.now c.args.slots.now (λ k within unmarked live meant. omega (arith, meant.0, meant.1)),
  (λ unowed inside. (unowed, inside)),
  (λ k had. (had, refl)),
)

pub returns-in_err-taken-clause-stopped : goal.returns-in_err-taken-clause-stopped
returns-in_err-taken-clause-stopped g c =
    let M = g.C.SessionCore.model in
    let N = g.S.ReadyStream.calls in
    let l = c.loop-number in
    if_err c.from_residual.result (stops_more M N c.args.core.now l.core c.turn_of.new.core c.args.slots.now l.slots c.turn_of.new.slots
    (turns_serve M N c.args.bounds.backlog c.args.had_turn.now l.had_turn c.args.core.now l.core c.args.slots.now l.slots l.invariant.0) c.in_err-taken.ensures.stopped)

pub returns-in_err-taken-clause-refused : goal.returns-in_err-taken-clause-refused
returns-in_err-taken-clause-refused g c =
    let before = c.loop-number.invariant.0 in
    if_err_is c.from_residual.result λ error is.
    subst (g.C.SessionCore.refuses c.args.core.now c.turn_of.new.core) (search (rules, is))
    (g.met.C.SessionCore.refuses_after c.args.core.now c.loop-number.core c.turn_of.new.core before.steps no_bytes _ before.pass.did c.in_err-taken.ensures.refused)

pub loop-number-preserved : goal.loop-number-preserved
loop-number-preserved g c =
    let M = g.C.SessionCore.model in
    let N = g.S.ReadyStream.calls in
    let l = c.loop-number in
    let here = length l.slots in
    let all = length c.args.slots.now in
    let session = c.session_of_turn-session.result in
    let below : session < all = c.session_of_turn-session.ensures.there in (
      turns_then M N c.args.bounds.backlog l.found c.in_ok-taken.taken c.args.had_turn.now l.had_turn c.turn_of.new.had_turn c.args.core.now l.core c.turn_of.new.core c.args.slots.now l.slots c.turn_of.new.slots l.invariant.0 c.in_ok-taken.ensures.done
          (λ k within meant. either_turn c.args.first all c.args.from l.number session k below within c.session_of_turn-session.ensures.number meant),
      (λ unowed inside.
          let were = l.invariant.1 unowed inside in
          as_many M c.args.bounds.backlog here all c.turn_of.new.had_turn c.turn_of.new.core c.turn_of.new.slots l.invariant.0.pass.count
          (c.in_ok-taken.ensures.within (owes_as_many M here all l.had_turn l.core l.invariant.0.pass.count were.0) were.1)),
      keeps_then c.args.had_turn.now l.had_turn c.turn_of.new.had_turn c.args.slots.now l.slots c.turn_of.new.slots l.invariant.2 c.in_ok-taken.ensures.kept,
    )

pub returns-clause-done : goal.returns-clause-done
returns-clause-done g c =
    let l = c.loop-number in
    turns_mean g.C.SessionCore.model g.S.ReadyStream.calls c.args.bounds.backlog l.found c.args.had_turn.now l.had_turn c.args.core.now l.core c.args.slots.now l.slots
    (λ k within least. (least, omega (arith, number_below c.args.first (length c.args.slots.now) k within, c.loop-number-test.false))) l.invariant.0
