-- What is written to a connection and read from it: requests, and replies.
use Rattle.std.specs.Prelude.{◌≡◌, ◌⊎◌, ◌<◌, ℕ, Option, Some, List, [], ◌∷◌, ◌++◌, map, length}
use Rattle.std.specs.List.{flat_map}
use Rattle.std.specs.Io.KnownBytes.{Appends, Consumes}
use Rattle.audit_text.specs.Writing.{WritesInPart}
use Rattle.audit_wire.specs.declared.request.Request.{Request}
use Rattle.audit_wire.specs.declared.reply.Reply.{Reply}
use Rattle.audit_wire.specs.Frame.{frame, size_of}
use Rattle.audit_wire.specs.Reply.{reply_in}
use Rattle.audit_wire.specs.Stream.{request_frame}

-- the next frame was read, and its body is that of this reply
pub record ReadsReply (old new : Option (List ℕ)) (given : Reply) : Type 0 where
  pub body : List ℕ
  pub bytes : Consumes old new (frame body)
  pub read : reply_in body ≡ Some given

-- the next frames were read, and their bodies are those of these replies
pub record ReadsReplies (old new : Option (List ℕ)) (given : List Reply) : Type 0 where
  pub bodies : List (List ℕ)
  pub bytes : Consumes old new (flat_map frame bodies)
  pub read : map reply_in bodies ≡ map (λ reply. Some reply) given

-- the frames of these requests were written to a connection, and these replies read from it
pub record Converses (written_old written_new read_old read_new : Option (List ℕ)) (asked : List Request)
    (given : List Reply) : Type 0 where
  pub sent : Appends written_old written_new (flat_map request_frame asked)
  pub replies : ReadsReplies read_old read_new given

-- ---- where a conversation breaks off

-- less than a whole frame: fewer than two bytes, or fewer bytes after two than these state
abbrev pub IsPartOfFrame : List ℕ → Type 0
IsPartOfFrame [] = Unit {0}
IsPartOfFrame (high ∷ []) = Unit {0}
IsPartOfFrame (high ∷ low ∷ body) = length body < size_of high low

-- fewer bytes than these were read
pub record ReadsFewer (old new : Option (List ℕ)) (size : ℕ) : Type 0 where
  pub part : List ℕ
  pub bytes : Consumes old new part
  pub few : length part < size

-- less than the next frame was read
pub record ReadsPart (old new : Option (List ℕ)) : Type 0 where
  pub part : List ℕ
  pub bytes : Consumes old new part
  pub short : IsPartOfFrame part

-- the next frames were read, and their bodies are those of these replies; then less than a frame was
pub record ReadsUpTo (old new : Option (List ℕ)) (given : List Reply) : Type 0 where
  pub bodies : List (List ℕ)
  pub part : List ℕ
  pub bytes : Consumes old new (flat_map frame bodies ++ part)
  pub read : map reply_in bodies ≡ map (λ reply. Some reply) given
  pub short : IsPartOfFrame part

-- The frames of these requests weren't written whole, and these replies were read; or they were, and after these
-- replies less than a whole frame was read.
abbrev pub BreaksOff : Option (List ℕ) → Option (List ℕ) → Option (List ℕ) → Option (List ℕ) → List Request → List Reply
    → Type 0
BreaksOff written_old written_new read_old read_new asked given =
    (WritesInPart written_old written_new (flat_map request_frame asked) × ReadsReplies read_old read_new given)
    ⊎ (Appends written_old written_new (flat_map request_frame asked) × ReadsUpTo read_old read_new given)
