use Rattle.audit_wire_read.proofs.CallsSoFar.{came_to}
use Rattle.audit_wire_read.proofs.laws.what_is_kept_follows_what_is_printed.Goals as goal

pub returns : goal.returns
returns c = λ state newest pieces done rest same. came_to state newest pieces done rest same
