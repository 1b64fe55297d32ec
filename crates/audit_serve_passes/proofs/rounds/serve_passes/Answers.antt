use Rattle.std.proofs.Common.{◌≡◌, ◌≢◌, ℕ, ◌+◌, [], length, refl, sym, subst, rules, add-one, arith}
use Rattle.audit_serve_passes.specs.Rounds.{live_below, IsPass, ArePasses}
use Rattle.audit_serve_passes.specs.Transition.{Transition, Reached, IsRefusedIn, closed_by}
use Rattle.audit_serve_passes.proofs.Runs.{no_rounds, round_more}
use Rattle.audit_serve_passes.proofs.Turns.{if_err}
use Rattle.audit_serve_passes.proofs.Reaching.{passes_stopped}
use Rattle.audit_serve_passes.proofs.rounds.serve_passes.Goals as goal

pub loop-round-init : goal.loop-round-init
loop-round-init g c = (refl, no_rounds g.C.SessionCore.model g.S.SessionStream.model (length c.args.streams.now) c.args.core.now c.args.streams.now)

pub returns-in_err-serve_round-clause-stopped : goal.returns-in_err-serve_round-clause-stopped
returns-in_err-serve_round-clause-stopped g c =
    let M = g.C.SessionCore.model in
    let N = g.S.SessionStream.model in
    let l = c.loop-round in
    let count = length c.args.streams.now in
    let same : length l.streams ≡ count = search rules in
    let some : live_below count (M.ended l.core []) ≢ [] = subst (λ (n : ℕ). live_below n (M.ended l.core []) ≢ []) same (search rules) in
    if_err c.from_residual.result
    (passes_stopped M N count l.round (l.round + 1) c.args.core.now l.core c.serve_round.new.core c.args.streams.now l.streams c.serve_round.new.streams (omega arith) (add-one l.round) l.invariant.1 some
    (subst (λ (n : ℕ). Reached M N l.core c.serve_round.new.core l.streams c.serve_round.new.streams (λ calls. IsRefusedIn n (IsPass n (M.ended l.core []) (closed_by calls)) calls)) same c.in_err-serve_round.ensures.stopped))

pub loop-round-preserved : goal.loop-round-preserved
loop-round-preserved g c =
    let M = g.C.SessionCore.model in
    let N = g.S.SessionStream.model in
    let l = c.loop-round in
    let new = c.serve_round.new.core in
    let count = length c.args.streams.now in
    let same : length l.streams ≡ count = search rules in
    let some : live_below count (M.ended l.core []) ≢ [] = subst (λ (n : ℕ). live_below n (M.ended l.core []) ≢ []) same (search rules) in (
      refl,
      subst (λ (turns : ℕ). Transition M N c.args.core.now new c.args.streams.now c.serve_round.new.streams (λ calls. ArePasses count (M.ended c.args.core.now) (closed_by calls) turns)) (sym (add-one l.round))
          (round_more M N count l.round c.args.core.now l.core new c.args.streams.now l.streams c.serve_round.new.streams l.invariant.1 some
          (subst (λ (n : ℕ). Transition M N l.core new l.streams c.serve_round.new.streams (λ calls. IsPass n (M.ended l.core []) (closed_by calls))) same c.in_ok-serve_round.ensures.done)),
    )
