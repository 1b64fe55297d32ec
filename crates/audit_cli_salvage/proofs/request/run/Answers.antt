use Rattle.std.proofs.Common.{◌∙◌}
use Rattle.audit_cli_salvage.proofs.Requests.{status_by}
use Rattle.audit_cli_salvage.proofs.request.run.Goals as goal

pub returns : goal.returns
returns g c = record {
  done = c.salvage_file-done.result;
  written = g.W.Write.contents c.salvage_file-done.new.output;
  words = c.salvage_file-done.ensures.words;
  searched = c.salvage_file-done.ensures.searched;
  flushed = c.flush.ensures.bytes;
  status_is = status_by c.flush.result c.report_flush.result c.salvage_file-done.result (λ ok. c.report_flush.ensures.whole ok ∙ c.report_search-status.ensures) c.report_flush.ensures.failed;
}
