use Rattle.std.proofs.Common.{inr}
use Rattle.audit_cli_client.proofs.Connected.{locked_ok, locked_bad}
use Rattle.audit_cli_client.proofs.read_file.read_by_file.Goals as goal

pub returns-clause-begun : goal.returns-clause-begun
returns-clause-begun g c = locked_ok c.read_locked-done.result c.unless_in_use.result _ c.unless_in_use.ensures.same c.read_locked-done.ensures.begun

pub returns-clause-bad : goal.returns-clause-bad
returns-clause-bad g c bad = inr (c.read_locked-done.ensures.bad (locked_bad c.read_locked-done.result c.unless_in_use.result c.unless_in_use.ensures.same bad))
