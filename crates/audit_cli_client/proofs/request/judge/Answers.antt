use Rattle.std.proofs.Common.{refl, sym, ◌∙◌}
use Rattle.audit_cli_client.proofs.AskedQuestions.{asked_of}
use Rattle.audit_cli_client.proofs.request.judge.Goals as goal

pub returns-in_ok-seconds_or_default-in-Ask-clause-asked : goal.returns-in_ok-seconds_or_default-in-Ask-clause-asked
returns-in_ok-seconds_or_default-in-Ask-clause-asked c = rw c.in-Ask.is (refl, asked_of _ _ (sym c.in_ok-question_asked-in-Ask.ensures.asked), sym c.in_ok-seconds_or_default-in-Ask.ensures.asked)
