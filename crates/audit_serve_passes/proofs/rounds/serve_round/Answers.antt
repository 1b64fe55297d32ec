use Rattle.std.proofs.Common.{◌≡◌, ℕ, length, OnOk, OnErr, subst, rules, arith}
use Rattle.audit_serve_passes.specs.Rounds.{IsFlushAndEnds}
use Rattle.audit_serve_passes.specs.Transition.{Transition, Reached, IsFlushStep, IsRefusedIn, closed_by}
use Rattle.audit_serve_passes.proofs.Turns.{on_ok, on_err, if_err}
use Rattle.audit_serve_passes.proofs.Runs.{one_round}
use Rattle.audit_serve_passes.proofs.Reaching.{pass_in_visits, pass_in_flush}
use Rattle.audit_serve_passes.proofs.rounds.serve_round.Goals as goal

pub returns-clause-done : goal.returns-clause-done
returns-clause-done g c =
    let M = g.C.SessionCore.model in
    let N = g.S.SessionStream.model in
    let same : length c.read_turns.new.streams ≡ length c.args.streams.now = search rules in
    on_ok c.flush_and_write.result
    (one_round M N (length c.args.streams.now) c.args.core.now c.read_turns.new.core c.flush_and_write.new.core c.args.streams.now c.read_turns.new.streams c.flush_and_write.new.streams c.in_ok-read_turns.ensures.done)
    (subst (λ (count : ℕ). OnOk c.flush_and_write.result (Transition M N c.read_turns.new.core c.flush_and_write.new.core c.read_turns.new.streams c.flush_and_write.new.streams
    (IsFlushStep M count c.flush_and_write.new.core))) same c.flush_and_write.ensures.done)

pub returns-in_err-read_turns-clause-stopped : goal.returns-in_err-read_turns-clause-stopped
returns-in_err-read_turns-clause-stopped g c =
    if_err c.from_residual.result
    (pass_in_visits g.C.SessionCore.model g.S.SessionStream.model (length c.args.streams.now) c.args.core.now c.read_turns.new.core c.args.streams.now c.read_turns.new.streams c.in_err-read_turns.ensures.stopped)

pub returns-clause-stopped : goal.returns-clause-stopped
returns-clause-stopped g c =
    let M = g.C.SessionCore.model in
    let N = g.S.SessionStream.model in
    let count = length c.args.streams.now in
    let same : length c.read_turns.new.streams ≡ count = search rules in
    on_err c.flush_and_write.result
    (pass_in_flush M N count c.args.core.now c.read_turns.new.core c.flush_and_write.new.core c.args.streams.now c.read_turns.new.streams c.flush_and_write.new.streams (omega arith) c.in_ok-read_turns.ensures.done)
    (subst (λ (n : ℕ). OnErr c.flush_and_write.result (Reached M N c.read_turns.new.core c.flush_and_write.new.core c.read_turns.new.streams c.flush_and_write.new.streams
    (λ calls. IsRefusedIn n (IsFlushAndEnds (closed_by calls)) calls))) same c.flush_and_write.ensures.stopped)
