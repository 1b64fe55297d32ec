use Rattle.std.proofs.Common.{◌≡◌, ◌<◌, ℕ, suc, [], length, true, false, sym, subst, rules, add-one, arith}
use Rattle.audit_serve_passes.specs.Transition.{Transition, AreVisitsBelow}
use Rattle.audit_serve_passes.proofs.Runs.{no_turns, turn_more, turn_skipped}
use Rattle.audit_serve_passes.proofs.Turns.{if_err}
use Rattle.audit_serve_passes.proofs.Reaching.{visits_stopped}
use Rattle.audit_serve_passes.proofs.reading.read_turns.Goals as goal
use Rattle.audit_serve_passes.proofs.reading.read_turns.Goals.{then-not-ended+in_ok-read_turn, else-not-ended}

pub loop-session-init : goal.loop-session-init
loop-session-init g c = no_turns g.C.SessionCore.model g.S.SessionStream.model c.args.core.now c.args.streams.now

pub returns-in_err-read_turn-clause-stopped : goal.returns-in_err-read_turn-clause-stopped
returns-in_err-read_turn-clause-stopped g c =
    let M = g.C.SessionCore.model in
    let l = c.loop-session in
    let within : l.session < length l.streams = search rules in
    let below : l.session < length c.args.streams.now = search rules in
    let live : M.ended l.core [] l.session ≡ false = search rules in
    if_err c.from_residual.result
    (visits_stopped M g.S.SessionStream.model (length c.args.streams.now) l.session c.args.core.now l.core c.read_turn.new.core c.args.streams.now l.streams c.index-streams-session.result c.read_turn.new.stream
    l.invariant live within below (omega arith) c.in_err-read_turn.ensures.stopped)

pub loop-session-preserved : goal.loop-session-preserved
loop-session-preserved g c =
    let M = g.C.SessionCore.model in
    let N = g.S.SessionStream.model in
    let l = c.loop-session in
    let begun = c.args.streams.now in
    let within : l.session < length l.streams = search rules in
    subst (λ (count : ℕ). Transition M N c.args.core.now c.if-not-ended.core begun c.if-not-ended.streams (λ calls. AreVisitsBelow count (M.ended c.args.core.now []))) (sym (add-one l.session))
    (elim c.if-not-ended.branch [
      | then-not-ended+in_ok-read_turn w ↦
          let live : M.ended l.core [] l.session ≡ false = search rules in
          subst (λ core. Transition M N c.args.core.now core begun c.if-not-ended.streams (λ calls. AreVisitsBelow (suc l.session) (M.ended c.args.core.now []))) (sym w.core-is)
          (subst (λ streams. Transition M N c.args.core.now w.read_turn.new.core begun streams (λ calls. AreVisitsBelow (suc l.session) (M.ended c.args.core.now []))) (sym w.streams-is)
          (turn_more M N l.session c.args.core.now l.core w.read_turn.new.core begun l.streams w.index-streams-session.result w.read_turn.new.stream l.invariant live within w.in_ok-read_turn.ensures.done))
      | else-not-ended w ↦
          let over : M.ended l.core [] l.session ≡ true = search rules in
          subst (λ core. Transition M N c.args.core.now core begun c.if-not-ended.streams (λ calls. AreVisitsBelow (suc l.session) (M.ended c.args.core.now []))) (sym w.core-is)
          (subst (λ streams. Transition M N c.args.core.now l.core begun streams (λ calls. AreVisitsBelow (suc l.session) (M.ended c.args.core.now []))) (sym w.streams-is)
          (turn_skipped M N l.session c.args.core.now l.core begun l.streams l.invariant over))
    ])
