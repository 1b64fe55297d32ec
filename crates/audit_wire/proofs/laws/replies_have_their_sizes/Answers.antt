use Rattle.std.proofs.Common.{arith, length-append}
use Rattle.audit_wire.specs.Reply.{state_tail}
use Rattle.audit_wire.proofs.Replies.{reply_within}
use Rattle.audit_wire.proofs.laws.replies_have_their_sizes.Goals as goal

pub returns-clause-within : goal.returns-clause-within
returns-clause-within c = λ given whole. reply_within given whole.within whole.fields

pub returns-clause-state : goal.returns-clause-state
returns-clause-state c = λ tag count root end sectors generation version closed size. omega (arith, size, length-append root (state_tail end sectors generation version closed))

pub returns-clause-placed : goal.returns-clause-placed
returns-clause-placed c = λ tag index count root key root_size key_size. omega (arith, root_size, key_size, length-append root key)
