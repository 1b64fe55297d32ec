use Rattle.audit_cli_client.proofs.AskedQuestions.{entries_of}
use Rattle.audit_cli_client.proofs.asking.export_to.Goals as goal

pub returns-clause-given : goal.returns-clause-given
returns-clause-given g c = entries_of c.put_export.result _ _ _ _ _ _ c.put_export.ensures.done
