use Rattle.audit_wire.proofs.Bodies.{request_again_by, request_found_by}
use Rattle.audit_wire.proofs.Readings.{request_first}
use Rattle.audit_wire.proofs.laws.every_request_is_read_back.Goals as goal

pub returns-clause-frame : goal.returns-clause-frame
returns-clause-frame c = request_first

pub returns-clause-body : goal.returns-clause-body
returns-clause-body c = request_again_by

pub returns-clause-only : goal.returns-clause-only
returns-clause-only c = λ grammar body asked fits e. let found = request_found_by grammar body asked fits e in (found.allowed, found.same)
