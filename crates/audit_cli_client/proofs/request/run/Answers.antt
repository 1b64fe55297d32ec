use Rattle.audit_cli_client.proofs.NoBadArguments.{only_bad}
use Rattle.audit_cli_client.proofs.request.run.Goals as goal

pub returns-clause-carried : goal.returns-clause-carried
returns-clause-carried g c = record {
  done = c.perform-done.result;
  ended = c.print_judgment-judged.result;
  said = _;
  written = c.perform-done.new.output;
  printed = c.print_judgment-judged.new.output;
  carried = c.perform-done.ensures.carried;
  words = λ wrong. (c.perform-done.ensures.words wrong, c.perform-done.ensures.unwritten wrong);
  other = c.print_judgment-judged.ensures.other;
  judged = c.print_judgment-judged.ensures.judged;
  kept = c.flush_and_report-status.ensures.kept;
  status_is = c.flush_and_report-status.ensures.status;
}

pub returns-clause-only : goal.returns-clause-only
returns-clause-only g c usage =
    c.perform-done.ensures.only (only_bad c.flush_and_report-status.result c.perform-done.result c.print_judgment-judged.result c.perform-done.ensures.status c.print_judgment-judged.ensures.other c.print_judgment-judged.ensures.judged c.flush_and_report-status.ensures.status usage)
