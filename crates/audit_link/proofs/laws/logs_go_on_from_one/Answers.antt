use Rattle.audit_link.proofs.Said.{one_old, one_list}
use Rattle.audit_link.proofs.laws.logs_go_on_from_one.Goals as goal

pub returns-clause-commitment : goal.returns-clause-commitment
returns-clause-commitment c = one_old

pub returns-clause-counts : goal.returns-clause-counts
returns-clause-counts c = one_list
