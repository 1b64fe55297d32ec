use Rattle.std.proofs.Common.{length, rules, arith}
use Rattle.audit_serve_passes.proofs.Turns.{on_ok, on_err, if_err}
use Rattle.audit_serve_passes.proofs.Runs.{flush_then}
use Rattle.audit_serve_passes.proofs.Reaching.{flush_refused, flush_stopped}
use Rattle.audit_serve_passes.proofs.writing.flush_and_write.Goals as goal

pub returns-clause-done : goal.returns-clause-done
returns-clause-done g c =
    on_ok c.write_turns.result
    (flush_then g.C.SessionCore.model g.S.SessionStream.model (length c.args.streams.now) c.args.core.now c.flush.new.self c.write_turns.new.core c.args.streams.now c.write_turns.new.streams (search rules)
    c.in_ok-flush.ensures.did c.in_ok-flush.ensures.idle)
    c.write_turns.ensures.done

pub returns-in_err-flush-clause-stopped : goal.returns-in_err-flush-clause-stopped
returns-in_err-flush-clause-stopped g c = if_err c.from_residual.result (flush_refused g.C.SessionCore.model g.S.SessionStream.model (length c.args.streams.now) c.args.core.now c.flush.new.self c.args.streams.now c.flush.ensures.reaches)

pub returns-clause-stopped : goal.returns-clause-stopped
returns-clause-stopped g c =
    on_err c.write_turns.result
    (flush_stopped g.C.SessionCore.model g.S.SessionStream.model (length c.args.streams.now) c.args.core.now c.flush.new.self c.write_turns.new.core c.args.streams.now c.write_turns.new.streams (omega arith) c.in_ok-flush.ensures.did)
    c.write_turns.ensures.stopped
