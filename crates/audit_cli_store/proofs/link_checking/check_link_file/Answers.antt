use Rattle.audit_cli_store.proofs.BadArguments.{never_bad}
use Rattle.audit_cli_store.proofs.link_checking.check_link_file.Goals as goal

pub returns-clause-only : goal.returns-clause-only
returns-clause-only g c = λ bad. absurd (never_bad c.judge_link.result bad c.judge_link.ensures.words)
