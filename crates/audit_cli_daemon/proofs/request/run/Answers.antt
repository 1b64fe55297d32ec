use Rattle.std.proofs.Common.{◌∙◌, sym}
use Rattle.audit_cli_daemon.proofs.Carried.{same_settings}
use Rattle.audit_cli_daemon.proofs.request.run.Goals as goal

pub returns-in-Run-clause-carried : goal.returns-in-Run-clause-carried
returns-in-Run-clause-carried g c settings is = rw (same_settings settings c.in-Run.settings (sym is ∙ c.in-Run.is)) c.run_daemon.ensures.carried
