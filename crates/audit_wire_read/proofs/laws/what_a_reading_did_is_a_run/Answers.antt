use Rattle.audit_wire_read.proofs.LeftRuns.{leaves_run}
use Rattle.audit_wire_read.proofs.laws.what_a_reading_did_is_a_run.Goals as goal

pub returns : goal.returns
returns g c = leaves_run g.O.Outlet.calls
