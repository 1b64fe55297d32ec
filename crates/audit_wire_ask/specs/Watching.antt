-- What a witness sees of a log.
use Rattle.std.specs.Prelude.{◌≡◌, ◌⊎◌, ℕ, ◌<◌, Option, Some, None, List, [], ◌∷◌}
use Rattle.sha2.specs.Sha256.{sha256}
use Rattle.audit_base.specs.Hashes.{AreHashes}
use Rattle.audit_proof.specs.declared.commitment.Commitment.{Commitment}
use Rattle.audit_proof.specs.Acceptance.{AcceptsIncrement}
use Rattle.audit_wire.specs.declared.request.Request.TheVariants as request
use Rattle.audit_wire.specs.declared.reply.Reply.TheVariants as reply
use Rattle.audit_wire_ask.specs.declared.asking.TheConstants.{NEWEST_TAG, JOIN_TAG}
use Rattle.audit_wire_ask.specs.declared.watching.Sight.{Sight}
use Rattle.audit_wire_ask.specs.declared.watching.Sight.TheVariants.{Began, Same, Grew}
use Rattle.audit_wire_ask.specs.Asking.{newest_reply}
use Rattle.audit_wire_ask.specs.Conversation.{Converses}

-- the newest commitment was asked for, and this one given; nothing else was asked
abbrev pub GivesNewest : Option (List ℕ) → Option (List ℕ) → Option (List ℕ) → Option (List ℕ) → Commitment → Type 0
GivesNewest written_old written_new read_old read_new newest = Converses written_old written_new read_old read_new
    (request.Commitment NEWEST_TAG ∷ []) (newest_reply newest ∷ [])

-- the same, and then the increment to it from an older one, which is accepted
abbrev pub GivesJoined : Option (List ℕ) → Option (List ℕ) → Option (List ℕ) → Option (List ℕ) → Commitment → Commitment
    → Type 0
GivesJoined written_old written_new read_old read_new older newest = (hashes : List (List ℕ))
    × Converses written_old written_new read_old read_new
    (request.Commitment NEWEST_TAG ∷ request.Incremental JOIN_TAG older.count newest.count ∷ [])
    (newest_reply newest ∷ reply.Incremental JOIN_TAG hashes ∷ [])
    × AcceptsIncrement sha256 older newest hashes × AreHashes hashes

-- What is seen after the commitment that was kept, if any: the newest commitment, the first or the one that was kept;
-- or one of more entries, to which that one is joined. To the empty log's every other one is.
abbrev pub Sees : Option (List ℕ) → Option (List ℕ) → Option (List ℕ) → Option (List ℕ) → Option Commitment → Sight
    → Type 0
Sees written_old written_new read_old read_new None (Began seen) =
    GivesNewest written_old written_new read_old read_new seen
Sees written_old written_new read_old read_new None (Same seen) = ⊥
Sees written_old written_new read_old read_new None (Grew seen) = ⊥
Sees written_old written_new read_old read_new (Some kept) (Began seen) = ⊥
Sees written_old written_new read_old read_new (Some kept) (Same seen) =
    (seen ≡ kept) × GivesNewest written_old written_new read_old read_new seen
Sees written_old written_new read_old read_new (Some kept) (Grew seen) = (kept.count < seen.count)
    × (((kept.count ≡ 0) × GivesNewest written_old written_new read_old read_new seen)
    ⊎ ((0 < kept.count) × GivesJoined written_old written_new read_old read_new kept seen))
