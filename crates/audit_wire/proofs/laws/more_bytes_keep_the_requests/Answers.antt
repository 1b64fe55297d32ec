use Rattle.audit_wire.proofs.Framing.{requests-append, requests_partial}
use Rattle.audit_wire.proofs.laws.more_bytes_keep_the_requests.Goals as goal

pub returns-clause-more : goal.returns-clause-more
returns-clause-more c = requests-append

pub returns-clause-rest : goal.returns-clause-rest
returns-clause-rest c = requests_partial
