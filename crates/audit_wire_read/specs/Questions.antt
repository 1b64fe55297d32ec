-- Requests that only ask.
use Rattle.std.specs.Prelude.{ℕ, Option, List, [], ◌∷◌}
use Rattle.audit_wire.specs.declared.request.Request.{Request}
use Rattle.audit_wire.specs.declared.request.Request.TheVariants as request
use Rattle.audit_wire.specs.declared.reply.Reply.{Reply}
use Rattle.audit_wire_ask.specs.Conversation.{Converses}

-- it asks for the newest commitment, for an increment or for an entry: it neither appends nor closes
abbrev pub IsReadRequest : Request → Type 0
IsReadRequest (request.Commitment tag) = Unit {0}
IsReadRequest (request.Incremental tag older newer) = Unit {0}
IsReadRequest (request.Entry tag index) = Unit {0}
IsReadRequest _ = ⊥

abbrev pub AreReadRequests : List Request → Type 0
AreReadRequests [] = Unit {0}
AreReadRequests (one ∷ others) = IsReadRequest one × AreReadRequests others

-- such requests were written whole, and a reply to each was read
pub record AsksToRead (written_old written_new read_old read_new : Option (List ℕ)) : Type 0 where
  pub asked : List Request
  pub given : List Reply
  pub reading : AreReadRequests asked
  pub conversation : Converses written_old written_new read_old read_new asked given
