use Rattle.audit_wire.proofs.Replies.{same_first_reply, same_replies}
use Rattle.audit_wire.proofs.laws.one_reading_of_replies.Goals as goal

pub returns-clause-first : goal.returns-clause-first
returns-clause-first c = same_first_reply

pub returns-clause-all : goal.returns-clause-all
returns-clause-all c = same_replies
