use Rattle.std.proofs.Common.{◌∙◌, rules}
use Rattle.audit_serve_door.specs.Entrances.{rights_of, mode_of, socket_of}
use Rattle.audit_serve_door.proofs.Sockets.{looks_the_same}
use Rattle.audit_serve_door.proofs.socket_door.register_all.Goals as goal

pub returns-in_err-register-2-clause-rights : goal.returns-in_err-register-2-clause-rights
returns-in_err-register-2-clause-rights g c =
    looks_the_same rights_of c.loop-number.entrances c.loop-number.number _ c.register-in-loop-number.new.self (search rules) c.register-in-loop-number.ensures.rights ∙ c.loop-number.invariant.0

pub returns-in_err-register-2-clause-modes : goal.returns-in_err-register-2-clause-modes
returns-in_err-register-2-clause-modes g c =
    looks_the_same mode_of c.loop-number.entrances c.loop-number.number _ c.register-in-loop-number.new.self (search rules) c.register-in-loop-number.ensures.mode ∙ c.loop-number.invariant.1

pub returns-in_err-register-2-clause-sockets : goal.returns-in_err-register-2-clause-sockets
returns-in_err-register-2-clause-sockets g c =
    looks_the_same socket_of c.loop-number.entrances c.loop-number.number _ c.register-in-loop-number.new.self (search rules) c.register-in-loop-number.ensures.socket ∙ c.loop-number.invariant.2

pub loop-number-preserved : goal.loop-number-preserved
loop-number-preserved g c = (
  looks_the_same rights_of c.loop-number.entrances c.loop-number.number _ c.register-in-loop-number.new.self (search rules) c.register-in-loop-number.ensures.rights ∙ c.loop-number.invariant.0,
  looks_the_same mode_of c.loop-number.entrances c.loop-number.number _ c.register-in-loop-number.new.self (search rules) c.register-in-loop-number.ensures.mode ∙ c.loop-number.invariant.1,
  looks_the_same socket_of c.loop-number.entrances c.loop-number.number _ c.register-in-loop-number.new.self (search rules) c.register-in-loop-number.ensures.socket ∙ c.loop-number.invariant.2,
)
