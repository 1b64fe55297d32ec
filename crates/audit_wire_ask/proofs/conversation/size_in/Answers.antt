use Rattle.std.proofs.Common.{arith}
use Rattle.audit_wire_ask.proofs.Conversations.{two_bytes}
use Rattle.audit_wire_ask.proofs.conversation.size_in.Goals as goal

pub returns : goal.returns
returns c = two_bytes c.args.field.now c.from_be_bytes.result c.requires (omega (arith, c.type_inv.field 0)) (omega (arith, c.type_inv.field 1)) c.from_be_bytes.ensures
