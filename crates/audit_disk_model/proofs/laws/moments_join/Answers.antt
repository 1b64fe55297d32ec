use Rattle.audit_disk_model.proofs.Rows.{window_then}
use Rattle.audit_disk_model.proofs.laws.moments_join.Goals as goal

pub returns-clause-windows : goal.returns-clause-windows
returns-clause-windows g c = λ old mid new at count place some first next from to. window_then first next from to
