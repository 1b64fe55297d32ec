use Rattle.audit_wire.proofs.Bodies.{daemon_reads, daemon_only, daemon_allows}
use Rattle.audit_wire.proofs.laws.grammars_agree.Goals as goal

pub returns-clause-read : goal.returns-clause-read
returns-clause-read c = daemon_reads

pub returns-clause-only : goal.returns-clause-only
returns-clause-only c = daemon_only

pub returns-clause-allowed : goal.returns-clause-allowed
returns-clause-allowed c = daemon_allows
