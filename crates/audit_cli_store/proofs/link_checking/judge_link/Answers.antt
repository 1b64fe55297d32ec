use Rattle.audit_link.specs.Links.{link_in}
use Rattle.audit_cli_store.proofs.LinkFiles.{judged_in}
use Rattle.audit_cli_store.proofs.link_checking.judge_link.Goals as goal

pub returns-clause-judged : goal.returns-clause-judged
returns-clause-judged g c =
    judged_in (g.R.Read.remaining c.args.reader.now) c.write_judged.result (link_in c.in_ok-link.link) c.args.old.now c.args.new.now c.in_ok-judgment.judgment
    (g.W.Write.contents c.args.writer.now) (g.W.Write.contents c.write_judged.new.writer) c.in_ok-link.ensures.spelled c.in_ok-judgment.ensures c.write_judged.ensures.judged
