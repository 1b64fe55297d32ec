use Rattle.std.proofs.Common.{◌≡◌, ◌≢◌, ◌⊎◌, ℕ, [], true≢false, length, sym, subst, ◌∙◌, rules, arith, inl}
use Rattle.audit_serve_passes.specs.declared.limits.TheConstants.{MAX_TURNS}
use Rattle.audit_serve_passes.specs.Rounds.{live_below, ArePasses, IsInterrupted, IsFlushAndEnds, IsLastFlush}
use Rattle.audit_serve_passes.specs.Transition.{Transition, CoreTransition, Reached, AreEndsBelow, IsFlushStep, IsRefusedIn, closed_by}
use Rattle.audit_serve_passes.proofs.Runs.{whole_run, cut_run, all_rounds, over_rounds}
use Rattle.audit_serve_passes.proofs.Turns.{if_err}
use Rattle.audit_serve_passes.proofs.Reaching.{reached_as, after_stopped, ends_stopped, last_stopped, none_ended}
use Rattle.audit_serve_passes.proofs.serving.serve_all.Goals as goal
use Rattle.audit_serve_passes.proofs.serving.serve_all.Goals.{then-cut+in_ok-end_live, else-cut}

-- ---- passes in which a step was refused

pub returns-in_err-serve_passes-clause-stopped : goal.returns-in_err-serve_passes-clause-stopped
returns-in_err-serve_passes-clause-stopped g c =
    if_err c.from_residual.result
    (reached_as g.C.SessionCore.model g.S.SessionStream.model c.args.core.now c.serve_passes.new.core c.args.streams.now c.serve_passes.new.streams (λ calls steps stopped. inl stopped) c.in_err-serve_passes.ensures.stopped)

-- ---- an end that was refused

pub returns-in_err-end_live-clause-stopped : goal.returns-in_err-end_live-clause-stopped
returns-in_err-end_live-clause-stopped g c =
    let M = g.C.SessionCore.model in
    let N = g.S.SessionStream.model in
    let mid = c.serve_passes.new.core in
    let count = length c.args.streams.now in
    let between = c.serve_passes.new.streams in
    let same : length between ≡ count = search rules in
    let over : (live_below count (M.ended mid []) ≡ []) ⊎ (c.serve_passes.new.turns ≡ MAX_TURNS) = over_rounds M count c.serve_passes.new.turns mid c.serve_passes.ensures.most c.in_ok-serve_passes.ensures.all in
    if_err c.from_residual-in_err-end_live.result
    (after_stopped M N count c.serve_passes.new.turns c.args.core.now mid c.end_live.new.core c.args.streams.now between between (omega arith) c.in_ok-serve_passes.ensures.done over
    (subst (λ (n : ℕ). Reached M N mid c.end_live.new.core between between (λ calls. IsInterrupted (IsLastFlush n (M.ended mid []) (closed_by calls)))) same
    (ends_stopped M N (length between) mid c.end_live.new.core between c.in_err-end_live.ensures.stopped)))

-- ---- a last flush that was refused

pub returns-in_err-flush_and_write-clause-stopped : goal.returns-in_err-flush_and_write-clause-stopped
returns-in_err-flush_and_write-clause-stopped g c =
    let M = g.C.SessionCore.model in
    let N = g.S.SessionStream.model in
    let mid = c.serve_passes.new.core in
    let new = c.flush_and_write.new.core in
    let count = length c.args.streams.now in
    let between = c.serve_passes.new.streams in
    let after = c.flush_and_write.new.streams in
    let same : length between ≡ count = search rules in
    let over : (live_below count (M.ended mid []) ≡ []) ⊎ (c.serve_passes.new.turns ≡ MAX_TURNS) = over_rounds M count c.serve_passes.new.turns mid c.serve_passes.ensures.most c.in_ok-serve_passes.ensures.all in
    let ends : CoreTransition M mid c.if-cut.core (AreEndsBelow count (M.ended mid [])) = elim c.if-cut.branch [
      | then-cut+in_ok-end_live w ↦ subst (λ core. CoreTransition M mid core (AreEndsBelow count (M.ended mid []))) (sym w.core-is)
          (subst (λ (n : ℕ). CoreTransition M mid w.end_live.new.core (AreEndsBelow n (M.ended mid []))) same w.in_ok-end_live.ensures.done)
      | else-cut w ↦ subst (λ core. CoreTransition M mid core (AreEndsBelow count (M.ended mid []))) (sym w.core-is)
          (none_ended M count mid (subst (λ (n : ℕ). live_below n (M.ended mid []) ≡ []) same (c.has_live-cut.ensures.none w.if-cut.false)))
    ] in
    if_err c.from_residual-in_err-flush_and_write.result
    (after_stopped M N count c.serve_passes.new.turns c.args.core.now mid new c.args.streams.now between after (omega arith) c.in_ok-serve_passes.ensures.done over
    (last_stopped M N count mid c.if-cut.core new between after ends
    (subst (λ (n : ℕ). Reached M N c.if-cut.core new between after (λ calls. IsRefusedIn n (IsFlushAndEnds (closed_by calls)) calls)) same c.in_err-flush_and_write.ensures.stopped)))

-- ---- the end

pub returns-clause-served : goal.returns-clause-served
returns-clause-served g c =
    let M = g.C.SessionCore.model in
    let N = g.S.SessionStream.model in
    let mid = c.serve_passes.new.core in
    let new = c.flush_and_write.new.core in
    let count = length c.args.streams.now in
    let between = c.serve_passes.new.streams in
    let after = c.flush_and_write.new.streams in
    let same : length between ≡ count = search rules in
    let flush : Transition M N c.if-cut.core new between after (IsFlushStep M count new) = subst (λ (n : ℕ). Transition M N c.if-cut.core new between after (IsFlushStep M n new)) same c.in_ok-flush_and_write.ensures.done in
    λ is.
    let none : live_below count (M.ended mid []) ≡ [] = subst (λ (n : ℕ). live_below n (M.ended mid []) ≡ []) same (c.has_live-cut.ensures.none is) in
    elim c.if-cut.branch [
      | then-cut+in_ok-end_live w ↦ absurd (true≢false (sym w.if-cut.true ∙ is))
      | else-cut w ↦ whole_run M N count c.serve_passes.new.turns c.args.core.now mid new c.args.streams.now between after c.in_ok-serve_passes.ensures.done none
          (subst (λ core. Transition M N core new between after (IsFlushStep M count new)) w.core-is flush)
    ]

pub returns-clause-cut : goal.returns-clause-cut
returns-clause-cut g c =
    let M = g.C.SessionCore.model in
    let N = g.S.SessionStream.model in
    let mid = c.serve_passes.new.core in
    let new = c.flush_and_write.new.core in
    let count = length c.args.streams.now in
    let begun = c.args.streams.now in
    let between = c.serve_passes.new.streams in
    let after = c.flush_and_write.new.streams in
    let same : length between ≡ count = search rules in
    let flush : Transition M N c.if-cut.core new between after (IsFlushStep M count new) = subst (λ (n : ℕ). Transition M N c.if-cut.core new between after (IsFlushStep M n new)) same c.in_ok-flush_and_write.ensures.done in
    λ cut.
    let some : live_below count (M.ended mid []) ≢ [] = subst (λ (n : ℕ). live_below n (M.ended mid []) ≢ []) same (c.has_live-cut.ensures.live cut) in
    let turns : c.serve_passes.new.turns ≡ MAX_TURNS = all_rounds M count c.serve_passes.new.turns mid c.serve_passes.ensures.most c.in_ok-serve_passes.ensures.all some in
    let rounds : Transition M N c.args.core.now mid begun between (λ calls. ArePasses count (M.ended c.args.core.now) (closed_by calls) MAX_TURNS) =
    subst (λ (n : ℕ). Transition M N c.args.core.now mid begun between (λ calls. ArePasses count (M.ended c.args.core.now) (closed_by calls) n)) turns c.in_ok-serve_passes.ensures.done in
    elim c.if-cut.branch [
      | then-cut+in_ok-end_live w ↦
          let ends : CoreTransition M mid w.end_live.new.core (AreEndsBelow count (M.ended mid [])) =
          subst (λ (n : ℕ). CoreTransition M mid w.end_live.new.core (AreEndsBelow n (M.ended mid []))) same w.in_ok-end_live.ensures.done in
          (turns, cut_run M N count c.args.core.now mid w.end_live.new.core new begun between after (omega arith) rounds some ends (subst (λ core. Transition M N core new between after (IsFlushStep M count new)) w.core-is flush))
      | else-cut w ↦ absurd (true≢false (sym cut ∙ w.if-cut.false))
    ]
