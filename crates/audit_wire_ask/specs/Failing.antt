-- When each error of a question comes, by what was written and read.
use Rattle.std.specs.Prelude.{◌≡◌, ◌⊎◌, ◌<◌, ◌≤◌, ◌+◌, ℕ, Option, Some, None, List, [], ◌∷◌, ◌++◌, map, length, IfSome}
use Rattle.std.specs.List.{flat_map, concat}
use Rattle.std.specs.Io.KnownBytes.{Appends, Consumes, Keeps}
use Rattle.sha2.specs.Sha256.{sha256}
use Rattle.audit_base.specs.declared.limits.TheConstants.{MAX_COUNT}
use Rattle.audit_tree.specs.Frontier.{FrontierData}
use Rattle.audit_proof.specs.declared.commitment.Commitment.{Commitment}
use Rattle.audit_proof.specs.Acceptance.{AcceptsMembership, AcceptsIncrement}
use Rattle.audit_proof.specs.ProofBytes.{Member, Increment}
use Rattle.audit_wire.specs.declared.request.Request.{Request}
use Rattle.audit_wire.specs.declared.request.Request.TheVariants as request
use Rattle.audit_wire.specs.declared.reply.Reply.{Reply}
use Rattle.audit_wire.specs.declared.reply.Reply.TheVariants as reply
use Rattle.audit_wire.specs.Frame.{frame}
use Rattle.audit_wire.specs.Reply.{reply_in, IsReply, HasParts}
use Rattle.audit_wire.specs.Stream.{request_frame}
use Rattle.audit_wire_ask.specs.declared.asking.TheConstants.{NEWEST_TAG, ASKED_TAG, JOIN_TAG}
use Rattle.audit_wire_ask.specs.declared.fault.ClientError.{ClientError}
use Rattle.audit_wire_ask.specs.declared.fault.ClientError.TheVariants as client
use Rattle.audit_wire_ask.specs.declared.putting.AskError.{AskError}
use Rattle.audit_wire_ask.specs.declared.putting.AskError.TheVariants as asking
use Rattle.audit_wire_ask.specs.declared.keeping.WatchError.{WatchError}
use Rattle.audit_wire_ask.specs.declared.keeping.WatchError.TheVariants as watching
use Rattle.audit_wire_ask.specs.declared.watching.Unseen.{Unseen}
use Rattle.audit_wire_ask.specs.Asking.{not_due, newest_reply, IsOneEntry, AnswersMember, AnswersIncrement}
use Rattle.audit_wire_ask.specs.Conversation.{ReadsReply, ReadsPart, Converses, BreaksOff}
use Rattle.audit_wire_ask.specs.Exporting.{entry_tag, piece_tag, AreForEntries, WritesFront, commitment_from, IsMadeFrom}
use Rattle.audit_wire_ask.specs.Exporting.{Begins, opening_requests, opening_replies}

-- the connection ended or was silent, or memory ran out
abbrev pub IsLost : ClientError → Type 0
IsLost client.Ended = Unit {0}
IsLost client.TimedOut = Unit {0}
IsLost client.Memory = Unit {0}
IsLost _ = ⊥

-- the next frame was read, and this is the reply that its body is, if it is one
pub record Hears (old new : Option (List ℕ)) (said : Option Reply) : Type 0 where
  pub body : List ℕ
  pub bytes : Consumes old new (frame body)
  pub heard : reply_in body ≡ said

-- Less than a frame was read; or a frame was, and memory was refused for the parts of its reply; or it is no reply.
abbrev pub FailsToRead : Option (List ℕ) → Option (List ℕ) → ClientError → Type 0
FailsToRead old new error = (IsLost error × ReadsPart old new)
    ⊎ (((error ≡ client.Memory) × (said : Reply) × HasParts said × Hears old new (Some said))
    ⊎ ((error ≡ client.BadReply) × Hears old new None))

-- the frames of these requests were written, these replies read to those before the last, and this to the last
pub record Exchanges (written_old written_new read_old read_new : Option (List ℕ)) (asked : List Request)
    (given : List Reply) (said : Option Reply) : Type 0 where
  pub sent : Appends written_old written_new (flat_map request_frame asked)
  pub bodies : List (List ℕ)
  pub last : List ℕ
  pub bytes : Consumes read_old read_new (flat_map frame bodies ++ frame last)
  pub replies : map reply_in bodies ≡ map (λ reply. Some reply) given
  pub heard : reply_in last ≡ said

-- The connection broke off before a reply to the last of these requests; or the reply was read, and memory was refused
-- for its parts.
abbrev pub IsUnanswered : Option (List ℕ) → Option (List ℕ) → Option (List ℕ) → Option (List ℕ) → List Request
    → List Reply → ClientError → Type 0
IsUnanswered written_old written_new read_old read_new asked given error =
    (IsLost error × BreaksOff written_old written_new read_old read_new asked given)
    ⊎ ((error ≡ client.Memory) × (said : Reply) × HasParts said
    × Exchanges written_old written_new read_old read_new asked given (Some said))

-- the error for what was said to a request with this tag and isn't its answer
abbrev pub error_for : ℕ → Option Reply → ClientError
error_for tag None = client.BadReply
error_for tag (Some given) = not_due tag given

-- This reply isn't the answer to a request with this tag, and this is the error for that.
abbrev pub IsNoAnswer : ℕ → (Reply → Type 0) → Reply → ClientError → Type 0
IsNoAnswer tag IsAnswer given error = (error ≡ not_due tag given) × (IsAnswer given → ⊥)

-- What was said to the last of these requests isn't its answer, and this is the error for that.
pub record IsAnsweredOtherwise (written_old written_new read_old read_new : Option (List ℕ)) (asked : List Request)
    (given : List Reply) (tag : ℕ) (IsAnswer : Reply → Type 0) (error : ClientError) : Type 0 where
  pub said : Option Reply
  pub exchange : Exchanges written_old written_new read_old read_new asked given said
  pub error_is : error ≡ error_for tag said
  pub otherwise : IfSome said (λ reply. IsAnswer reply → ⊥)

-- the last of these requests has no answer: no reply, or another
abbrev pub HasNoAnswer : Option (List ℕ) → Option (List ℕ) → Option (List ℕ) → Option (List ℕ) → List Request
    → List Reply → ℕ → (Reply → Type 0) → ClientError → Type 0
HasNoAnswer written_old written_new read_old read_new asked given tag IsAnswer error =
    IsUnanswered written_old written_new read_old read_new asked given error
    ⊎ IsAnsweredOtherwise written_old written_new read_old read_new asked given tag IsAnswer error

-- ---- answers

abbrev pub IsNewestReply : Reply → Type 0
IsNewestReply given = (newest : Commitment) × (given ≡ reply.Commitment NEWEST_TAG newest.count newest.root)

abbrev pub IsClosingReply : Reply → Type 0
IsClosingReply given = (index : ℕ) × (last : Commitment)
    × (given ≡ reply.Acknowledgement ASKED_TAG index last.count last.root)

abbrev pub IsMemberReply : Reply → Type 0
IsMemberReply given = (hashes : List (List ℕ)) × (entry : List ℕ) × (given ≡ reply.Membership ASKED_TAG hashes entry)
    × IsReply given

abbrev pub IsIncrementReply : ℕ → Reply → Type 0
IsIncrementReply tag given = (hashes : List (List ℕ)) × (given ≡ reply.Incremental tag hashes) × IsReply given

abbrev pub IsEntryReply : ℕ → Reply → Type 0
IsEntryReply index given = (entry : List ℕ) × (given ≡ reply.Entry (entry_tag index) entry) × IsReply given

-- ---- questions

-- the newest commitment was asked for, and didn't come
abbrev pub FailsNewest : Option (List ℕ) → Option (List ℕ) → Option (List ℕ) → Option (List ℕ) → ClientError → Type 0
FailsNewest written_old written_new read_old read_new error = HasNoAnswer
    written_old written_new read_old read_new (request.Commitment NEWEST_TAG ∷ []) [] NEWEST_TAG IsNewestReply error

abbrev pub FailsClosing : Option (List ℕ) → Option (List ℕ) → Option (List ℕ) → Option (List ℕ) → ClientError → Type 0
FailsClosing written_old written_new read_old read_new error = HasNoAnswer
    written_old written_new read_old read_new (request.Close ASKED_TAG ∷ []) [] ASKED_TAG IsClosingReply error

-- After this conversation the increment between two commitments was asked for with this tag, and didn't come; or it
-- came, and isn't accepted.
abbrev pub IsNotJoinedBy : ℕ → Option (List ℕ) → Option (List ℕ) → Option (List ℕ) → Option (List ℕ) → List Request
    → List Reply → Commitment → Commitment → ClientError → Type 0
IsNotJoinedBy tag written_old written_new read_old read_new asked given older newer error =
    HasNoAnswer written_old written_new read_old read_new
    (asked ++ request.Incremental tag older.count newer.count ∷ []) given tag (IsIncrementReply tag) error
    ⊎ ((error ≡ client.NotAccepted) × (hashes : List (List ℕ)) × Converses written_old written_new read_old read_new
    (asked ++ request.Incremental tag older.count newer.count ∷ []) (given ++ reply.Incremental tag hashes ∷ [])
    × (AcceptsIncrement sha256 older newer hashes → ⊥))

abbrev pub IsNotJoined : Option (List ℕ) → Option (List ℕ) → Option (List ℕ) → Option (List ℕ) → List Request
    → List Reply → Commitment → Commitment → ClientError → Type 0
IsNotJoined written_old written_new read_old read_new asked given older newer error =
    IsNotJoinedBy JOIN_TAG written_old written_new read_old read_new asked given older newer error

abbrev pub FailsJoiningBy : ℕ → Option (List ℕ) → Option (List ℕ) → Option (List ℕ) → Option (List ℕ) → Commitment
    → Commitment → ClientError → Type 0
FailsJoiningBy tag written_old written_new read_old read_new older newer error =
    IsNotJoinedBy tag written_old written_new read_old read_new [] [] older newer error

abbrev pub FailsJoining : Option (List ℕ) → Option (List ℕ) → Option (List ℕ) → Option (List ℕ) → Commitment
    → Commitment → ClientError → Type 0
FailsJoining written_old written_new read_old read_new older newer error =
    FailsJoiningBy JOIN_TAG written_old written_new read_old read_new older newer error

-- The newest commitment didn't come; or the membership proof of an entry under it didn't; or a proof came, and isn't
-- accepted under that commitment, or what it is accepted for isn't one entry alone.
abbrev pub FailsEntry : Option (List ℕ) → Option (List ℕ) → Option (List ℕ) → Option (List ℕ) → ℕ → ClientError → Type 0
FailsEntry written_old written_new read_old read_new index error =
    FailsNewest written_old written_new read_old read_new error ⊎ ((newest : Commitment) × (
    HasNoAnswer written_old written_new read_old read_new
    (request.Commitment NEWEST_TAG ∷ request.Membership ASKED_TAG index newest.count ∷ [])
    (newest_reply newest ∷ []) ASKED_TAG IsMemberReply error
    ⊎ ((hashes : List (List ℕ)) × (entry : List ℕ)
    × Converses written_old written_new read_old read_new
    (request.Commitment NEWEST_TAG ∷ request.Membership ASKED_TAG index newest.count ∷ [])
    (newest_reply newest ∷ reply.Membership ASKED_TAG hashes entry ∷ [])
    × (((error ≡ client.NotAccepted) × (AcceptsMembership sha256 newest index entry hashes → ⊥))
    ⊎ ((error ≡ client.BadReply) × AcceptsMembership sha256 newest index entry hashes × (IsOneEntry entry → ⊥))))))

-- In this conversation a proof came that no commitment of this count accepts; or after it, the newest commitment
-- doesn't vouch for the one that accepts it.
abbrev pub IsDoubted : Option (List ℕ) → Option (List ℕ) → Option (List ℕ) → Option (List ℕ) → List Request → List Reply
    → Commitment → ℕ → (Commitment → Type 0) → ClientError → Type 0
IsDoubted written_old written_new read_old read_new asked given newest count Accepts error =
    ((error ≡ client.NotAccepted) × Converses written_old written_new read_old read_new asked given
    × ((root : List ℕ) → Accepts (record { count = count; root = root }) → ⊥))
    ⊎ ((root : List ℕ) × Accepts (record { count = count; root = root })
    × ((record { count = count; root = root } ≡ newest) → ⊥)
    × IsNotJoined written_old written_new read_old read_new asked given (record { count = count; root = root }) newest
    error)

-- The newest commitment didn't come; or the membership proof under a count didn't; or a proof came, and is doubted, or
-- is the answer, and memory was refused for its bytes.
abbrev pub FailsMember : Option (List ℕ) → Option (List ℕ) → Option (List ℕ) → Option (List ℕ) → ℕ → ℕ → ClientError
    → Type 0
FailsMember written_old written_new read_old read_new index count error =
    FailsNewest written_old written_new read_old read_new error ⊎ ((newest : Commitment) × (
    HasNoAnswer written_old written_new read_old read_new
    (request.Commitment NEWEST_TAG ∷ request.Membership ASKED_TAG index count ∷ [])
    (newest_reply newest ∷ []) ASKED_TAG IsMemberReply error
    ⊎ (((hashes : List (List ℕ)) × (entry : List ℕ) × IsDoubted written_old written_new read_old read_new
    (request.Commitment NEWEST_TAG ∷ request.Membership ASKED_TAG index count ∷ [])
    (newest_reply newest ∷ reply.Membership ASKED_TAG hashes entry ∷ []) newest count
    (λ under. AcceptsMembership sha256 under index entry hashes) error)
    ⊎ ((error ≡ client.Memory) × (proof : Member) × (proof.index ≡ index) × (proof.count ≡ count)
    × AnswersMember written_old written_new read_old read_new newest proof))))

-- the same of an incremental proof between two counts, under the newer
abbrev pub FailsIncrement : Option (List ℕ) → Option (List ℕ) → Option (List ℕ) → Option (List ℕ) → ℕ → ℕ → ClientError
    → Type 0
FailsIncrement written_old written_new read_old read_new older newer error =
    FailsNewest written_old written_new read_old read_new error ⊎ ((newest : Commitment) × (
    HasNoAnswer written_old written_new read_old read_new
    (request.Commitment NEWEST_TAG ∷ request.Incremental ASKED_TAG older newer ∷ [])
    (newest_reply newest ∷ []) ASKED_TAG (IsIncrementReply ASKED_TAG) error
    ⊎ (((hashes : List (List ℕ)) × IsDoubted written_old written_new read_old read_new
    (request.Commitment NEWEST_TAG ∷ request.Incremental ASKED_TAG older newer ∷ [])
    (newest_reply newest ∷ reply.Incremental ASKED_TAG hashes ∷ []) newest newer
    (λ under. (root : List ℕ) × AcceptsIncrement sha256 (record { count = older; root = root }) under hashes) error)
    ⊎ ((error ≡ client.Memory) × (proof : Increment) × (proof.older ≡ older) × (proof.newer ≡ newer)
    × AnswersIncrement written_old written_new read_old read_new newest proof))))

-- ---- all entries

-- the entry of this index was read, and not all of it was written
pub record TearsEntry (read_old read_new old new : Option (List ℕ)) (index : ℕ) : Type 0 where
  pub entry : List ℕ
  pub read : ReadsReply read_old read_new (reply.Entry (entry_tag index) entry)
  pub part : WritesFront old new entry

-- The entry of this index was to be read, and something else came.
abbrev pub IsNotTheEntry : Option (List ℕ) → Option (List ℕ) → ℕ → ClientError → Type 0
IsNotTheEntry read_old read_new index error = (said : Option Reply) × Hears read_old read_new said
    × (error ≡ error_for (entry_tag index) said) × IfSome said (λ given. IsEntryReply index given → ⊥)

-- Nothing came, or something else than the entry of this index; or it came, and couldn't be written.
abbrev pub FailsReceiving : Option (List ℕ) → Option (List ℕ) → Option (List ℕ) → Option (List ℕ) → ℕ → ClientError
    → Type 0
FailsReceiving read_old read_new old new index error = FailsToRead read_old read_new error
    ⊎ (IsNotTheEntry read_old read_new index error
    ⊎ ((error ≡ client.Output) × TearsEntry read_old read_new old new index))

-- After this conversation the entries after those of a frontier were asked for, up to an index; some came, and the next
-- one didn't.
pub record LacksEntry (written_old written_new read_old read_new : Option (List ℕ)) (asked : List Request)
    (given : List Reply) (begun : FrontierData) (count : ℕ) (error : ClientError) : Type 0 where
  pub entries : List (List ℕ)
  pub ahead : ℕ
  pub wanted : begun.count + length entries < ahead
  pub within : ahead ≤ count
  pub requests : List Request
  pub replies : List Reply
  pub about : AreForEntries requests replies begun.count ahead entries
  pub fails : HasNoAnswer written_old written_new read_old read_new (asked ++ requests)
      (given ++ replies) (entry_tag (begun.count + length entries)) (IsEntryReply (begun.count + length entries)) error

-- After this conversation some entries came, and the commitment up to them isn't joined to the newest.
pub record DoubtsEntries (written_old written_new read_old read_new : Option (List ℕ)) (asked : List Request)
    (given : List Reply) (begun : FrontierData) (newest : Commitment) (error : ClientError) : Type 0 where
  pub entries : List (List ℕ)
  pub fewer : begun.count + length entries < newest.count
  pub requests : List Request
  pub replies : List Reply
  pub about : AreForEntries requests replies begun.count (begun.count + length entries) entries
  pub doubted : IsNotJoinedBy (piece_tag (begun.count + length entries)) written_old written_new read_old read_new
      (asked ++ requests) (given ++ replies) (commitment_from begun entries) newest error

-- After this conversation some entries came, and not all of the last one was written.
pub record CannotWrite (written_old written_new read_old read_new old new : Option (List ℕ)) (asked : List Request)
    (given : List Reply) (begun : FrontierData) (count : ℕ) (error : ClientError) : Type 0 where
  pub output : error ≡ client.Output
  pub entries : List (List ℕ)
  pub last : List ℕ
  pub ahead : ℕ
  pub within : ahead ≤ count
  pub requests : List Request
  pub replies : List Reply
  pub about : AreForEntries requests replies begun.count ahead (entries ++ last ∷ [])
  pub conversation : Converses written_old written_new read_old read_new (asked ++ requests) (given ++ replies)
  pub mid : Option (List ℕ)
  pub written : Appends old mid (concat entries)
  pub part : WritesFront mid new last

-- An entry didn't come, or couldn't be written; or the entries up to one aren't joined to the newest commitment.
abbrev pub LacksEntries : Option (List ℕ) → Option (List ℕ) → Option (List ℕ) → Option (List ℕ) → Option (List ℕ)
    → Option (List ℕ) → List Request → List Reply → FrontierData → Commitment → ClientError → Type 0
LacksEntries written_old written_new read_old read_new old new asked given begun newest error =
    LacksEntry written_old written_new read_old read_new asked given begun newest.count error
    ⊎ (DoubtsEntries written_old written_new read_old read_new asked given begun newest error
    ⊎ CannotWrite written_old written_new read_old read_new old new asked given begun newest.count error)

-- After this conversation all entries came, and the newest commitment isn't the one to them.
pub record DeniesEntries (written_old written_new read_old read_new : Option (List ℕ)) (asked : List Request)
    (given : List Reply) (begun : FrontierData) (newest : Commitment) : Type 0 where
  pub entries : List (List ℕ)
  pub count : newest.count ≡ begun.count + length entries
  pub requests : List Request
  pub replies : List Reply
  pub about : AreForEntries requests replies begun.count newest.count entries
  pub conversation : Converses written_old written_new read_old read_new (asked ++ requests) (given ++ replies)
  pub other : newest ≡ commitment_from begun entries → ⊥

-- After this conversation the increment from the entries before an export was asked for, and didn't come; or it came,
-- and no tree with the newest commitment makes it.
abbrev pub FailsBeginning : Option (List ℕ) → Option (List ℕ) → Option (List ℕ) → Option (List ℕ) → List Request
    → List Reply → ℕ → Commitment → ClientError → Type 0
FailsBeginning written_old written_new read_old read_new asked given first newest error =
    (0 < first) × (HasNoAnswer written_old written_new read_old read_new
    (asked ++ request.Incremental ASKED_TAG first newest.count ∷ []) given ASKED_TAG (IsIncrementReply ASKED_TAG) error
    ⊎ ((error ≡ client.NotAccepted) × (hashes : List (List ℕ)) × Converses written_old written_new read_old read_new
    (asked ++ request.Incremental ASKED_TAG first newest.count ∷ []) (given ++ reply.Incremental ASKED_TAG hashes ∷ [])
    × ((leaves : List (List ℕ)) → IsMadeFrom leaves first newest hashes → ⊥)))

-- After a beginning the entries lack, aren't joined or can't be written; or all came, and the newest isn't the
-- commitment to them.
abbrev pub FailsAfterBeginning : Option (List ℕ) → Option (List ℕ) → Option (List ℕ) → Option (List ℕ)
    → Option (List ℕ) → Option (List ℕ) → ℕ → Commitment → List (List ℕ) → FrontierData → ClientError → Type 0
FailsAfterBeginning written_old written_new read_old read_new old new first newest hashes begun error =
    LacksEntries written_old written_new read_old read_new old new (opening_requests first newest)
    (opening_replies first newest hashes) begun newest error
    ⊎ ((error ≡ client.NotAccepted) × DeniesEntries written_old written_new read_old read_new
    (opening_requests first newest) (opening_replies first newest hashes) begun newest)

-- The newest commitment is one of more entries than a log has; or the export couldn't be begun; or it was, and failed.
abbrev pub IsNoExport : Option (List ℕ) → Option (List ℕ) → Option (List ℕ) → Option (List ℕ) → Option (List ℕ)
    → Option (List ℕ) → ℕ → Commitment → ClientError → Type 0
IsNoExport written_old written_new read_old read_new old new first newest error =
    ((error ≡ client.BadReply) × (MAX_COUNT < newest.count) × Converses written_old written_new read_old read_new
    (request.Commitment NEWEST_TAG ∷ []) (newest_reply newest ∷ []))
    ⊎ (FailsBeginning written_old written_new read_old read_new (request.Commitment NEWEST_TAG ∷ [])
    (newest_reply newest ∷ []) first newest error
    ⊎ ((hashes : List (List ℕ)) × (begun : FrontierData) × Begins first newest hashes begun
    × FailsAfterBeginning written_old written_new read_old read_new old new first newest hashes begun error))

-- All entries from one index on were asked for, and the newest commitment didn't come; or it came, and the entries to
-- it didn't.
abbrev pub FailsExport : Option (List ℕ) → Option (List ℕ) → Option (List ℕ) → Option (List ℕ) → ℕ → Option (List ℕ)
    → Option (List ℕ) → ClientError → Type 0
FailsExport written_old written_new read_old read_new first old new error =
    FailsNewest written_old written_new read_old read_new error
    ⊎ ((newest : Commitment) × IsNoExport written_old written_new read_old read_new old new first newest error)

-- ---- answers that are put

-- nothing was written or read
abbrev pub IsUnasked : Option (List ℕ) → Option (List ℕ) → Option (List ℕ) → Option (List ℕ) → Type 0
IsUnasked written_old written_new read_old read_new = Keeps written_old written_new × Keeps read_old read_new

-- The answer failed in this way, or couldn't be written when this was so; or the file couldn't be begun or put then.
abbrev pub FailsPutting : {E : Type 0} → Type 0 → Type 0 → (ClientError → Type 0) → AskError E → Type 0
FailsPutting IsUnwritten IsUnput Fails (asking.Client error) = Fails error ⊎ ((error ≡ client.Output) × IsUnwritten)
FailsPutting IsUnwritten IsUnput Fails (asking.Out error) = IsUnput

-- the same where it is so once the answer was had
abbrev pub FailsPuttingOne : {E : Type 0} → (List ℕ → Type 0) → (ClientError → Type 0) → AskError E → Type 0
FailsPuttingOne IsAnswer Fails error =
    FailsPutting ((bytes : List ℕ) × IsAnswer bytes) ((bytes : List ℕ) × IsAnswer bytes) Fails error

-- an error of the output has this cause
abbrev pub WritingBreaksOnlyIf : Type 0 → ClientError → Type 0
WritingBreaksOnlyIf Cause client.Output = Cause
WritingBreaksOnlyIf Cause _ = Unit {0}

-- the same of an answer that is put
abbrev pub PuttingBreaksOnlyIf : {E : Type 0} → Type 0 → AskError E → Type 0
PuttingBreaksOnlyIf Cause (asking.Client error) = WritingBreaksOnlyIf Cause error
PuttingBreaksOnlyIf Cause (asking.Out error) = Unit {0}

-- ---- witnesses

-- What a witness doesn't believe, after it asked for the newest commitment: a log of fewer entries than the commitment
-- that it kept, or of as many and another root, or another answer than an increment that is accepted.
abbrev pub Disbelieves : Option (List ℕ) → Option (List ℕ) → Option (List ℕ) → Option (List ℕ) → Commitment → Commitment
    → ClientError → Type 0
Disbelieves written_old written_new read_old read_new kept newest error =
    ((error ≡ client.Shorter) × (newest.count < kept.count) × Converses written_old written_new read_old read_new
    (request.Commitment NEWEST_TAG ∷ []) (newest_reply newest ∷ []))
    ⊎ (((error ≡ client.OtherRoot) × (newest.count ≡ kept.count) × (newest ≡ kept → ⊥)
    × Converses written_old written_new read_old read_new
    (request.Commitment NEWEST_TAG ∷ []) (newest_reply newest ∷ []))
    ⊎ ((0 < kept.count) × (kept.count < newest.count) × IsNotJoined written_old written_new read_old read_new
    (request.Commitment NEWEST_TAG ∷ []) (newest_reply newest ∷ []) kept newest error))

-- No newest commitment was given, and that is why; or this one was, and isn't believed.
abbrev pub FailsWatch : Option (List ℕ) → Option (List ℕ) → Option (List ℕ) → Option (List ℕ) → Option Commitment
    → Unseen → Type 0
FailsWatch written_old written_new read_old read_new kept unseen =
    ((unseen.given ≡ None) × FailsNewest written_old written_new read_old read_new unseen.error)
    ⊎ ((newest before : Commitment) × (kept ≡ Some before) × (unseen.given ≡ Some newest)
    × Disbelieves written_old written_new read_old read_new before newest unseen.error)

-- the same of a witness that keeps what it sees
abbrev pub FailsKeeping : {E : Type 0} → Option (List ℕ) → Option (List ℕ) → Option (List ℕ) → Option (List ℕ)
    → Option Commitment → WatchError E → Type 0
FailsKeeping written_old written_new read_old read_new kept (watching.Client unseen) =
    FailsWatch written_old written_new read_old read_new kept unseen
FailsKeeping written_old written_new read_old read_new kept (watching.Kept error) = Unit {0}
