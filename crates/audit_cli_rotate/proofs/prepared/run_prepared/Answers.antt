use Rattle.audit_cli_rotate.specs.PreparedCarried.{prepared_end_status}
use Rattle.audit_cli_rotate.proofs.Carried.{status_flushed}
use Rattle.std.proofs.Common.{◌∙◌}
use Rattle.audit_cli_rotate.proofs.prepared.run_prepared.Goals as goal

pub returns : goal.returns
returns g c = record {
  carried = record {
    done = c.perform-done.result;
    written = g.W.Write.contents c.perform-done.new.output;
    rotated = c.perform-done.ensures;
    flushed = c.flush_last-flushed.ensures.kept;
    status_is = status_flushed _ _ c.flush_last-flushed.result (prepared_end_status c.perform-done.result) c.report_flush.result
        (λ whole. c.report_flush.ensures.whole whole ∙ c.report_prepared-status.ensures) c.report_flush.ensures.failed c.flush_last-flushed.ensures.flushed c.flush_last-flushed.ensures.unflushed;
  };
}
