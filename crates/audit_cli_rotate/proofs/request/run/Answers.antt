use Rattle.std.proofs.Common.{◌∙◌, ap}
use Rattle.audit_cli_rotate.specs.Carried.{rotation_end_status}
use Rattle.audit_cli_rotate.proofs.Carried.{status_by, status_flushed}
use Rattle.audit_cli_rotate.proofs.request.run.Goals as goal

pub returns-clause-words : goal.returns-clause-words
returns-clause-words g c = λ fault wrong.
    status_by c.flush_last-flushed.result _ c.report_flush.result
    (λ whole. c.report_flush.ensures.whole whole ∙ c.report_rotation-status.ensures ∙ ap rotation_end_status (c.perform-done.ensures.words fault wrong)) c.report_flush.ensures.failed

pub returns-clause-carried : goal.returns-clause-carried
returns-clause-carried g c = record {
  done = c.perform-done.result;
  written = g.W.Write.contents c.perform-done.new.output;
  rotated = c.perform-done.ensures.rotated;
  flushed = c.flush_last-flushed.ensures.kept;
  status_is = status_flushed _ _ c.flush_last-flushed.result (rotation_end_status c.perform-done.result) c.report_flush.result
      (λ whole. c.report_flush.ensures.whole whole ∙ c.report_rotation-status.ensures) c.report_flush.ensures.failed c.flush_last-flushed.ensures.flushed c.flush_last-flushed.ensures.unflushed;
}
