-- What the answers to questions are, and under what they were accepted.
use Rattle.std.specs.Prelude.{◌≡◌, ◌⊎◌, ◌==◌, ℕ, Option, List, [], ◌∷◌, ◌++◌, if◌then◌else◌}
use Rattle.sha2.specs.Sha256.{sha256}
use Rattle.audit_chain.specs.EntryForm.{EntryParts, AreParts, bytes_of_parts}
use Rattle.audit_proof.specs.declared.commitment.Commitment.{Commitment}
use Rattle.audit_proof.specs.ProofBytes.{Member, Increment}
use Rattle.audit_proof.specs.Acceptance.{AcceptsMembership, AcceptsIncrement}
use Rattle.audit_wire.specs.declared.request.Request.{Request}
use Rattle.audit_wire.specs.declared.request.Request.TheVariants as request
use Rattle.audit_wire.specs.declared.reply.Reply.{Reply}
use Rattle.audit_wire.specs.declared.reply.Reply.TheVariants as reply
use Rattle.audit_wire_ask.specs.declared.asking.TheConstants.{NEWEST_TAG, ASKED_TAG, JOIN_TAG}
use Rattle.audit_wire_ask.specs.declared.fault.ClientError.{ClientError}
use Rattle.audit_wire_ask.specs.declared.fault.ClientError.TheVariants.{Refused, BadReply}
use Rattle.audit_wire_ask.specs.Conversation.{Converses}

-- the error for a reply that isn't the answer that is due: the server's refusal of this request, or else a bad reply
abbrev pub not_due : ℕ → Reply → ClientError
not_due tag (reply.Refused given code) = if given == tag then Refused code else BadReply
not_due tag _ = BadReply

-- the reply with the newest commitment
abbrev pub newest_reply : Commitment → Reply
newest_reply newest = reply.Commitment NEWEST_TAG newest.count newest.root

-- After these requests and replies the newest commitment vouches for another one: it is the same, and nothing else was
-- asked; or it isn't, and the increment between them was asked for, given and accepted.
abbrev pub IsVouchedIn : Option (List ℕ) → Option (List ℕ) → Option (List ℕ) → Option (List ℕ) → List Request
    → List Reply → Commitment → Commitment → Type 0
IsVouchedIn written_old written_new read_old read_new asked given older newest =
    ((older ≡ newest) × Converses written_old written_new read_old read_new asked given)
    ⊎ ((hashes : List (List ℕ)) × (older ≡ newest → ⊥)
    × Converses written_old written_new read_old read_new
    (asked ++ request.Incremental JOIN_TAG older.count newest.count ∷ [])
    (given ++ reply.Incremental JOIN_TAG hashes ∷ [])
    × AcceptsIncrement sha256 older newest hashes)

-- The newest commitment was asked for and given, and then this proof, which is accepted under a commitment for which
-- the newest vouches.
pub record AnswersMember (written_old written_new read_old read_new : Option (List ℕ)) (newest : Commitment)
    (proof : Member) : Type 0 where
  pub root : List ℕ
  pub accepted : AcceptsMembership sha256 (record { count = proof.count; root = root }) proof.index
      proof.entry proof.hashes
  pub vouched : IsVouchedIn written_old written_new read_old read_new
      (request.Commitment NEWEST_TAG ∷ request.Membership ASKED_TAG proof.index proof.count ∷ [])
      (newest_reply newest ∷ reply.Membership ASKED_TAG proof.hashes proof.entry ∷ [])
      (record { count = proof.count; root = root }) newest

-- the same of an incremental proof: the newest vouches for the newer of its commitments
pub record AnswersIncrement (written_old written_new read_old read_new : Option (List ℕ)) (newest : Commitment)
    (proof : Increment) : Type 0 where
  pub older_root : List ℕ
  pub newer_root : List ℕ
  pub accepted : AcceptsIncrement sha256 (record { count = proof.older; root = older_root })
      (record { count = proof.newer; root = newer_root }) proof.hashes
  pub vouched : IsVouchedIn written_old written_new read_old read_new
      (request.Commitment NEWEST_TAG ∷ request.Incremental ASKED_TAG proof.older proof.newer ∷ [])
      (newest_reply newest ∷ reply.Incremental ASKED_TAG proof.hashes ∷ [])
      (record { count = proof.newer; root = newer_root }) newest

-- the bytes are those of one entry, and nothing else
abbrev pub IsOneEntry : List ℕ → Type 0
IsOneEntry bytes = (parts : EntryParts) × AreParts parts × (bytes ≡ bytes_of_parts parts)

-- The newest commitment was asked for and given, and then the membership proof of this entry under it, which is
-- accepted; and it is one entry alone.
pub record AnswersEntry (written_old written_new read_old read_new : Option (List ℕ)) (newest : Commitment)
    (index : ℕ) (entry : List ℕ) : Type 0 where
  pub hashes : List (List ℕ)
  pub conversation : Converses written_old written_new read_old read_new
      (request.Commitment NEWEST_TAG ∷ request.Membership ASKED_TAG index newest.count ∷ [])
      (newest_reply newest ∷ reply.Membership ASKED_TAG hashes entry ∷ [])
  pub accepted : AcceptsMembership sha256 newest index entry hashes
  pub alone : IsOneEntry entry
