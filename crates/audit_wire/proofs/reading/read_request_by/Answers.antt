use Rattle.std.proofs.Common.{ap, ◌∙◌, arith}
use Rattle.audit_wire.specs.Request.{request_by}
use Rattle.audit_wire.proofs.Bodies.{request_again_by, found_by}
use Rattle.audit_wire.proofs.reading.read_request_by.Goals as goal

pub returns-clause-found : goal.returns-clause-found
returns-clause-found c = found_by c.args.grammar c.args.body.now c.read_by_kind.result (λ place. omega (arith, c.type_inv.body place)) c.read_by_kind.ensures

pub returns-clause-only : goal.returns-clause-only
returns-clause-only c = λ asked allowed same. c.read_by_kind.ensures ∙ ap (request_by c.args.grammar) same ∙ request_again_by c.args.grammar asked allowed
