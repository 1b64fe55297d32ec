-- Entries that are asked for ahead of their replies, from one index on.
use Rattle.std.specs.Prelude.{◌≡◌, ◌⊎◌, ◌<◌, ◌≤◌, ℕ, ◌+◌, Option, List, ◌++◌, length}
use Rattle.std.specs.List.{concat}
use Rattle.audit_wire.specs.declared.request.Request.{Request}
use Rattle.audit_wire_ask.specs.declared.fault.ClientError.{ClientError}
use Rattle.audit_wire_ask.specs.declared.fault.ClientError.TheVariants.{Memory}
use Rattle.audit_wire.specs.declared.reply.Reply.{Reply}
use Rattle.audit_wire.specs.declared.reply.Reply.TheVariants as reply
use Rattle.audit_wire_ask.specs.Conversation.{ReadsReply, Converses}
use Rattle.audit_wire_ask.specs.Exporting.{entry_tag, entry_requests, entry_replies, AsksEntries, AsksInPart}
use Rattle.audit_wire_ask.specs.Failing.{IsLost, FailsToRead, IsNoAnswer, IsEntryReply}

-- The entries from the first index on were asked for, up to the one before `ahead`, and nothing else; those up to the
-- one before `index` came, and these are their bytes.
pub record ReceivesAhead (written_old written_new read_old read_new : Option (List ℕ)) (first index ahead : ℕ)
    (bytes : List ℕ) : Type 0 where
  pub entries : List (List ℕ)
  pub counted : first + length entries ≡ index
  pub asked : List Request
  pub all : entry_requests ahead ≡ entry_requests first ++ asked
  pub conversation : Converses written_old written_new read_old read_new asked (entry_replies first entries)
  pub bytes_are : bytes ≡ concat entries

-- as many came as were asked for
abbrev pub ReceivesPiece : Option (List ℕ) → Option (List ℕ) → Option (List ℕ) → Option (List ℕ) → ℕ → ℕ → List ℕ
    → Type 0
ReceivesPiece written_old written_new read_old read_new first next bytes =
    ReceivesAhead written_old written_new read_old read_new first next next bytes

-- Further entries couldn't be asked for; or the entry of this index was asked for and didn't come, or something else
-- did, or memory was refused for it.
abbrev pub StopsReceiving : Option (List ℕ) → Option (List ℕ) → Option (List ℕ) → Option (List ℕ) → ℕ → ℕ → ℕ
    → ClientError → Type 0
StopsReceiving written_old written_new read_old read_new index ahead count error =
    ((end : ℕ) × (end ≤ count) × (read_new ≡ read_old) × IsLost error
    × AsksInPart written_old written_new ahead index end)
    ⊎ ((next : ℕ) × (index < next) × (next ≤ count) × AsksEntries written_old written_new ahead next
    × (FailsToRead read_old read_new error
    ⊎ (((given : Reply) × ReadsReply read_old read_new given
    × IsNoAnswer (entry_tag index) (IsEntryReply index) given error)
    ⊎ ((error ≡ Memory) × (entry : List ℕ) × ReadsReply read_old read_new (reply.Entry (entry_tag index) entry)))))

-- the entries from the first index up to another came, and then no further one
pub record LacksPiece (written_old written_new read_old read_new : Option (List ℕ)) (first count : ℕ)
    (error : ClientError) : Type 0 where
  pub index : ℕ
  pub ahead : ℕ
  pub bytes : List ℕ
  pub written : Option (List ℕ)
  pub read : Option (List ℕ)
  pub before : ReceivesAhead written_old written read_old read first index ahead bytes
  pub fewer : index < count
  pub stops : StopsReceiving written written_new read read_new index ahead count error
