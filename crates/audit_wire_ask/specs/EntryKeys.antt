-- What is kept of the keys of events' entries.
use Rattle.std.specs.Prelude.{◌≡◌, ◌⊎◌, ℕ, Option, Some, None, List, [], ◌++◌, length, codes}
use Rattle.std.specs.List.{flat_map}
use Rattle.std.specs.Fmt.{decimal}
use Rattle.std.specs.Io.KnownBytes.{Appends, Keeps}
use Rattle.hex.specs.Hex.{encode_lower}
use Rattle.audit_proof.specs.declared.commitment.Commitment.{Commitment}
use Rattle.audit_text.specs.Writing.{WritesInPart}
use Rattle.audit_wire.specs.declared.reply.Reply.{Reply}
use Rattle.audit_wire.specs.declared.reply.Reply.TheVariants as reply
use Rattle.audit_wire_ask.specs.declared.key_file.KeyFile.{KeyFile}
use Rattle.audit_wire_ask.specs.declared.send_error.SendError.{SendError}
use Rattle.audit_wire_ask.specs.declared.send_error.SendError.TheVariants.{Keys}
use Rattle.audit_wire_ask.specs.Conversation.{ReadsReply, ReadsReplies}

-- a commitment of the log whose keys follow
unfoldable pub log_line : Commitment → List ℕ
log_line newest = codes "log " ++ decimal newest.count ++ codes ":" ++ encode_lower newest.root ++ codes "\n"

-- the index of an event, and the key of its entry
unfoldable pub key_line : ℕ → List ℕ → List ℕ
key_line index key = codes "key " ++ decimal index ++ codes " " ++ encode_lower key ++ codes "\n"

-- the writer by which keys are kept
abbrev pub written_file : {W : Type 0} → KeyFile W → W
written_file keys = keys.writer

-- what is kept of a reply
abbrev pub key_kept : Reply → List ℕ
key_kept (reply.Placed tag index count root key) = key_line index key
key_kept _ = []

-- a reply was read, and its key kept
pub record KeepsKey (read_old read_new keys_old keys_new : Option (List ℕ)) : Type 0 where
  pub answer : Reply
  pub read : ReadsReply read_old read_new answer
  pub kept : Appends keys_old keys_new (key_kept answer)

-- no key was kept, or a part of the line of one, of the next reply that was read
abbrev pub KeepsInPart : Option (List ℕ) → Option (List ℕ) → Option (List ℕ) → Type 0
KeepsInPart read_old keys_old keys_new = Keeps keys_old keys_new
    ⊎ ((read_new : Option (List ℕ)) × (answer : Reply) × ReadsReply read_old read_new answer
    × WritesInPart keys_old keys_new (key_kept answer))

-- the keys of as many replies as were read were kept, in order
pub record KeepsAllKeys (read_old read_new keys_old keys_new : Option (List ℕ)) (count : ℕ) : Type 0 where
  pub answers : List Reply
  pub counted : count ≡ length answers
  pub read : ReadsReplies read_old read_new answers
  pub kept : Appends keys_old keys_new (flat_map key_kept answers)

-- the keys of that many replies were kept, and at most a part of the next one
pub record KeepsKeys (read_old keys_old keys_new : Option (List ℕ)) (count : ℕ) : Type 0 where
  pub read_new : Option (List ℕ)
  pub mid : Option (List ℕ)
  pub all : KeepsAllKeys read_old read_new keys_old mid count
  pub last : KeepsInPart read_new mid keys_new

-- an error of the keys has this cause
abbrev pub KeysBreakOnlyIf : Type 0 → Option SendError → Type 0
KeysBreakOnlyIf Cause (Some Keys) = Cause
KeysBreakOnlyIf Cause _ = Unit {0}
