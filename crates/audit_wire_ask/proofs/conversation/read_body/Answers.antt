use Rattle.std.proofs.Common.{rules}
use Rattle.audit_wire_ask.proofs.Conversations.{body_unread}
use Rattle.audit_wire_ask.proofs.conversation.read_body.Goals as goal

pub returns-clause-fault : goal.returns-clause-fault
returns-clause-fault g c = body_unread c.read_sized.result _ _ _ _ (c.in_ok-size.ensures.read) c.read_sized.ensures.fault (search rules)
