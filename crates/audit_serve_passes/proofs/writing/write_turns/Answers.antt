use Rattle.std.proofs.Common.{◌<◌, ℕ, length, set, sym, subst, rules, add-one, arith}
use Rattle.audit_serve_passes.specs.Transition.{Transition, AreTaken}
use Rattle.audit_serve_passes.proofs.Runs.{none_taken, take_more}
use Rattle.audit_serve_passes.proofs.Turns.{if_err}
use Rattle.audit_serve_passes.proofs.Reaching.{write_stops}
use Rattle.audit_serve_passes.proofs.writing.write_turns.Goals as goal

pub loop-session-init : goal.loop-session-init
loop-session-init g c = none_taken g.C.SessionCore.model g.S.SessionStream.model c.args.core.now c.args.streams.now

pub returns-in_err-write_turn-clause-stopped : goal.returns-in_err-write_turn-clause-stopped
returns-in_err-write_turn-clause-stopped g c =
    let l = c.loop-session in
    let within : l.session < length l.streams = search rules in
    if_err c.from_residual.result
    (write_stops g.C.SessionCore.model g.S.SessionStream.model (length c.args.streams.now) l.session c.args.core.now l.core c.write_turn.new.core c.args.streams.now l.streams c.index-streams-session.result c.write_turn.new.stream
    (omega arith) l.invariant within c.in_err-write_turn.ensures.stopped)

pub loop-session-preserved : goal.loop-session-preserved
loop-session-preserved g c =
    let M = g.C.SessionCore.model in
    let N = g.S.SessionStream.model in
    let l = c.loop-session in
    let new = c.write_turn.new.core in
    let within : l.session < length l.streams = search rules in
    subst (λ (count : ℕ). Transition M N c.args.core.now new c.args.streams.now (set l.streams l.session c.write_turn.new.stream) (AreTaken M count c.args.core.now new)) (sym (add-one l.session))
    (take_more M N l.session c.args.core.now l.core new c.args.streams.now l.streams c.index-streams-session.result c.write_turn.new.stream l.invariant within c.in_ok-write_turn.ensures.done)
