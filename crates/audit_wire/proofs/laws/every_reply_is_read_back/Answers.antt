use Rattle.std.proofs.Common.{arith}
use Rattle.audit_wire.proofs.Replies.{reply_again, reply_size}
use Rattle.audit_wire.proofs.laws.every_reply_is_read_back.Goals as goal

pub returns-clause-body : goal.returns-clause-body
returns-clause-body c = λ given whole. reply_again given whole.within whole.fields

pub returns-clause-size : goal.returns-clause-size
returns-clause-size c = λ given whole. reply_size given whole.within whole.fields

pub returns-clause-acknowledgement : goal.returns-clause-acknowledgement
returns-clause-acknowledgement c = λ tag index count root long. omega arith

pub returns-clause-refused : goal.returns-clause-refused
returns-clause-refused c = λ tag code. omega arith
