use Rattle.std.proofs.Common.{ap, ◌∙◌, arith}
use Rattle.audit_wire.specs.declared.grammar.Grammar.TheVariants as grammar
use Rattle.audit_wire.specs.Request.{request_in}
use Rattle.audit_wire.proofs.Bodies.{request_again, found_by}
use Rattle.audit_wire.proofs.reading.read_request.Goals as goal

pub returns-clause-found : goal.returns-clause-found
returns-clause-found c = found_by grammar.Plain c.args.body.now c.read_by_kind.result (λ place. omega (arith, c.type_inv.body place)) c.read_by_kind.ensures

pub returns-clause-only : goal.returns-clause-only
returns-clause-only c = λ asked allowed same. c.read_by_kind.ensures ∙ ap request_in same ∙ request_again asked allowed
