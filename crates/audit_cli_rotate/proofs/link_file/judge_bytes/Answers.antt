use Rattle.audit_cli_rotate.proofs.PreparedStores.{found_whole, found_other}
use Rattle.audit_cli_rotate.proofs.link_file.judge_bytes.Goals as goal

pub returns-in-Ok-clause-same : goal.returns-in-Ok-clause-same
returns-in-Ok-clause-same g c =
    found_whole c.judge_found.result (g.R.Read.remaining c.args.reader.now) c.in-Ok.found.items c.deref.result.now c.args.bytes.now c.in-Ok.ensures.whole c.deref.ensures.value c.judge_found.ensures.same

pub returns-in-Ok-clause-others : goal.returns-in-Ok-clause-others
returns-in-Ok-clause-others g c =
    found_other c.judge_found.result (g.R.Read.remaining c.args.reader.now) c.in-Ok.found.items c.deref.result.now c.args.bytes.now c.in-Ok.ensures.whole c.deref.ensures.value c.judge_found.ensures.others
