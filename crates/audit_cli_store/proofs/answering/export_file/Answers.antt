use Rattle.audit_cli_store.proofs.BadArguments.{never_bad}
use Rattle.audit_cli_store.proofs.answering.export_file.Goals as goal

pub returns-clause-only : goal.returns-clause-only
returns-clause-only g c = λ bad. absurd (never_bad c.answer_file.result bad c.answer_file.ensures.words)
