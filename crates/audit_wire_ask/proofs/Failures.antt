-- Exchanges that end with something else than the answer.
use Rattle.std.proofs.Common.{◌≡◌, ◌⊎◌, inl, inr, ℕ, Option, Some, None, List, [], ◌∷◌, ◌++◌, refl, sym, ap, ◌∙◌, subst, append_assoc, append-nil, arith}
use Rattle.std.specs.Prelude.{◌<◌, map}
use Rattle.std.specs.List.{flat_map}
use Rattle.std.specs.Io.KnownBytes.{Appends, Consumes}
use Rattle.std.proofs.lemmas.Grind.{flat_map-append}
use Rattle.std.proofs.lemmas.List.{map-append}
use Rattle.sha2.specs.Sha256.{sha256}
use Rattle.audit_proof.specs.declared.commitment.Commitment.{Commitment}
use Rattle.audit_proof.specs.Acceptance.{AcceptsMembership, AcceptsIncrement}
use Rattle.audit_wire.specs.declared.request.Request.{Request}
use Rattle.audit_wire.specs.declared.request.Request.TheVariants as request
use Rattle.audit_wire.specs.declared.reply.Reply.{Reply}
use Rattle.audit_wire.specs.declared.reply.Reply.TheVariants as reply
use Rattle.audit_wire.specs.Frame.{frame}
use Rattle.audit_wire.specs.Reply.{reply_in}
use Rattle.audit_wire.specs.Stream.{request_frame}
use Rattle.audit_wire_ask.specs.declared.asking.TheConstants.{NEWEST_TAG, ASKED_TAG, JOIN_TAG}
use Rattle.audit_wire_ask.specs.declared.fault.ClientError.{ClientError}
use Rattle.audit_wire_ask.specs.declared.fault.ClientError.TheVariants.{BadReply}
use Rattle.audit_text.specs.Writing.{WritesInPart}
use Rattle.audit_wire_ask.specs.Asking.{newest_reply, IsVouchedIn}
use Rattle.audit_wire_ask.specs.Conversation.{ReadsReply, Converses}
use Rattle.audit_wire_ask.specs.Failing.{IsLost, Hears, FailsToRead, Exchanges, IsUnanswered, HasNoAnswer, IsNoAnswer, IsAnsweredOtherwise, IsMemberReply, IsIncrementReply, IsNotJoinedBy, FailsJoining, FailsJoiningBy, FailsEntry, FailsMember, FailsIncrement, Disbelieves}
use Rattle.audit_wire_ask.proofs.Conversations.{appends_more, consumes_more, converses_more, breaks_once, stops_once, breaks_after, up_to_more}

-- one request, and what was said to it
pub exchanges_once : (written_old written_new read_old read_new : Option (List ℕ)) (asked : Request) (said : Option Reply)
    → Appends written_old written_new (request_frame asked) → Hears read_old read_new said
    → Exchanges written_old written_new read_old read_new (asked ∷ []) [] said
exchanges_once written_old written_new read_old read_new asked said sent heard = record {
  sent = subst (Appends written_old written_new) (sym (append-nil (request_frame asked))) sent;
  bodies = [];
  last = heard.body;
  bytes = heard.bytes;
  replies = refl;
  heard = heard.heard;
}

pub hears_reply : (read_old read_new : Option (List ℕ)) (given : Reply) → ReadsReply read_old read_new given → Hears read_old read_new (Some given)
hears_reply read_old read_new given replied = record { body = replied.body; bytes = replied.bytes; heard = replied.read }

-- the request wasn't written whole
pub fails_to_send : (written_old written_new read : Option (List ℕ)) (asked : Request) (error : ClientError)
    → WritesInPart written_old written_new (request_frame asked) → IsLost error
    → IsUnanswered written_old written_new read read (asked ∷ []) [] error
fails_to_send written_old written_new read asked error part lost = inl (lost, breaks_once written_old written_new read asked part)

-- the request was written, and the reading failed
pub fails_once : (written_old written_new read_old read_new : Option (List ℕ)) (asked : Request) (error : ClientError)
    → Appends written_old written_new (request_frame asked) → FailsToRead read_old read_new error
    → IsUnanswered written_old written_new read_old read_new (asked ∷ []) [] error
    ⊎ ((error ≡ BadReply) × Exchanges written_old written_new read_old read_new (asked ∷ []) [] None)
fails_once written_old written_new read_old read_new asked error sent (inl lost) =
    inl (inl (lost.0, stops_once written_old written_new read_old read_new asked sent lost.1))
fails_once written_old written_new read_old read_new asked error sent (inr (inl memory)) =
    inl (inr (memory.0, memory.1, memory.2, exchanges_once written_old written_new read_old read_new asked _ sent memory.3))
fails_once written_old written_new read_old read_new asked error sent (inr (inr bad)) =
    inr (bad.0, exchanges_once written_old written_new read_old read_new asked None sent bad.1)

-- the request was asked, but no reply came
pub fails_to_ask : (written_old written_new read_old read_new : Option (List ℕ)) (asked : List Request) (tag : ℕ) (IsAnswer : Reply → Type 0) (error : ClientError)
    → IsUnanswered written_old written_new read_old read_new asked [] error
    ⊎ ((error ≡ BadReply) × Exchanges written_old written_new read_old read_new asked [] None)
    → HasNoAnswer written_old written_new read_old read_new asked [] tag IsAnswer error
fails_to_ask written_old written_new read_old read_new asked tag IsAnswer error (inl lost) = inl lost
fails_to_ask written_old written_new read_old read_new asked tag IsAnswer error (inr bad) =
    inr (record { said = None; exchange = bad.1; error_is = bad.0; otherwise = tt })

-- a reply came that isn't the answer
pub otherwise : (written_old written_new read_old read_new : Option (List ℕ)) (asked : List Request) (tag : ℕ) (IsAnswer : Reply → Type 0) (error : ClientError) (given : Reply)
    → Exchanges written_old written_new read_old read_new asked [] (Some given) → IsNoAnswer tag IsAnswer given error
    → IsAnsweredOtherwise written_old written_new read_old read_new asked [] tag IsAnswer error
otherwise written_old written_new read_old read_new asked tag IsAnswer error given exchange none =
    record { said = Some given; exchange = exchange; error_is = none.0; otherwise = none.1 }

exchanges_after : (written_old written written_new read_old read read_new : Option (List ℕ)) (asked later : List Request) (given after : List Reply) (said : Option Reply)
    → Converses written_old written read_old read asked given → Exchanges written written_new read read_new later after said
    → Exchanges written_old written_new read_old read_new (asked ++ later) (given ++ after) said
exchanges_after written_old written written_new read_old read read_new asked later given after said h k = record {
  sent = subst (Appends written_old written_new) (sym (flat_map-append request_frame asked later)) (appends_more written_old written written_new _ _ h.sent k.sent);
  bodies = h.replies.bodies ++ k.bodies;
  last = k.last;
  bytes = subst (Consumes read_old read_new)
      (sym (ap (λ front. front ++ frame k.last) (flat_map-append frame h.replies.bodies k.bodies) ∙ append_assoc (flat_map frame h.replies.bodies) (flat_map frame k.bodies) (frame k.last)))
      (consumes_more read_old read read_new _ _ h.replies.bytes k.bytes);
  replies = map-append reply_in h.replies.bodies k.bodies
      ∙ ap (λ front. front ++ map reply_in k.bodies) h.replies.read
      ∙ ap (λ rest. map (λ reply. Some reply) given ++ rest) k.replies
      ∙ sym (map-append (λ reply. Some reply) given after);
  heard = k.heard;
}

-- the same after a conversation
pub otherwise_after : (written_old written written_new read_old read read_new : Option (List ℕ)) (asked later : List Request) (given after : List Reply) (tag : ℕ) (IsAnswer : Reply → Type 0) (error : ClientError)
    → Converses written_old written read_old read asked given
    → IsAnsweredOtherwise written written_new read read_new later after tag IsAnswer error
    → IsAnsweredOtherwise written_old written_new read_old read_new (asked ++ later) (given ++ after) tag IsAnswer error
otherwise_after written_old written written_new read_old read read_new asked later given after tag IsAnswer error h k = record {
  said = k.said;
  exchange = exchanges_after written_old written written_new read_old read read_new asked later given after k.said h k.exchange;
  error_is = k.error_is;
  otherwise = k.otherwise;
}

unanswered_after : (written_old written written_new read_old read read_new : Option (List ℕ)) (asked later : List Request) (given after : List Reply) (error : ClientError)
    → Converses written_old written read_old read asked given
    → IsUnanswered written written_new read read_new later after error
    → IsUnanswered written_old written_new read_old read_new (asked ++ later) (given ++ after) error
unanswered_after written_old written written_new read_old read read_new asked later given after error h (inl lost) =
    inl (lost.0, breaks_after written_old written written_new read_old read read_new asked later given after h lost.1)
unanswered_after written_old written written_new read_old read read_new asked later given after error h (inr memory) =
    inr (memory.0, memory.1, memory.2, exchanges_after written_old written written_new read_old read read_new asked later given after _ h memory.3)

pub no_answer_after : (written_old written written_new read_old read read_new : Option (List ℕ)) (asked later : List Request) (given after : List Reply) (tag : ℕ) (IsAnswer : Reply → Type 0) (error : ClientError)
    → Converses written_old written read_old read asked given
    → HasNoAnswer written written_new read read_new later after tag IsAnswer error
    → HasNoAnswer written_old written_new read_old read_new (asked ++ later) (given ++ after) tag IsAnswer error
no_answer_after written_old written written_new read_old read read_new asked later given after tag IsAnswer error h (inl none) =
    inl (unanswered_after written_old written written_new read_old read read_new asked later given after error h none)
no_answer_after written_old written written_new read_old read read_new asked later given after tag IsAnswer error h (inr other) =
    inr (otherwise_after written_old written written_new read_old read read_new asked later given after tag IsAnswer error h other)

-- after a conversation all of whose replies were read, one more frame was read
pub exchanges_on : (written_old written_new read_old read read_new : Option (List ℕ)) (asked : List Request) (given : List Reply) (said : Option Reply)
    → Converses written_old written_new read_old read asked given → Hears read read_new said
    → Exchanges written_old written_new read_old read_new asked given said
exchanges_on written_old written_new read_old read read_new asked given said h heard = record {
  sent = h.sent;
  bodies = h.replies.bodies;
  last = heard.body;
  bytes = consumes_more read_old read read_new _ _ h.replies.bytes heard.bytes;
  replies = h.replies.read;
  heard = heard.heard;
}

-- the same, and the reading failed
pub no_reply_after : (written_old written_new read_old read read_new : Option (List ℕ)) (asked : List Request) (given : List Reply) (tag : ℕ) (IsAnswer : Reply → Type 0) (error : ClientError)
    → Converses written_old written_new read_old read asked given → FailsToRead read read_new error
    → HasNoAnswer written_old written_new read_old read_new asked given tag IsAnswer error
no_reply_after written_old written_new read_old read read_new asked given tag IsAnswer error h (inl lost) =
    inl (inl (lost.0, inr (h.sent, up_to_more read_old read read_new given h.replies lost.1)))
no_reply_after written_old written_new read_old read read_new asked given tag IsAnswer error h (inr (inl memory)) =
    inl (inr (memory.0, memory.1, memory.2, exchanges_on written_old written_new read_old read read_new asked given _ h memory.3))
no_reply_after written_old written_new read_old read read_new asked given tag IsAnswer error h (inr (inr bad)) =
    inr (record { said = None; exchange = exchanges_on written_old written_new read_old read read_new asked given None h bad.1; error_is = bad.0; otherwise = tt })

-- the increment didn't come
pub fails_to_join : (tag : ℕ) (written_old written_new read_old read_new : Option (List ℕ)) (older newer : Commitment) (error : ClientError)
    → HasNoAnswer written_old written_new read_old read_new
    (request.Incremental tag older.count newer.count ∷ []) [] tag (IsIncrementReply tag) error
    → FailsJoiningBy tag written_old written_new read_old read_new older newer error
fails_to_join tag written_old written_new read_old read_new older newer error none = inl none

-- the same after a conversation
pub not_joined_after : (tag : ℕ) (written_old written written_new read_old read read_new : Option (List ℕ)) (asked : List Request) (given : List Reply) (older newer : Commitment) (error : ClientError)
    → Converses written_old written read_old read asked given
    → IsNotJoinedBy tag written written_new read read_new [] [] older newer error
    → IsNotJoinedBy tag written_old written_new read_old read_new asked given older newer error
not_joined_after tag written_old written written_new read_old read read_new asked given older newer error h (inl none) =
    inl (subst (λ (before : List Reply). HasNoAnswer written_old written_new read_old read_new (asked ++ request.Incremental tag older.count newer.count ∷ []) before tag (IsIncrementReply tag) error) (append-nil given)
    (no_answer_after written_old written written_new read_old read read_new asked _ given [] _ _ _ h none))
not_joined_after tag written_old written written_new read_old read read_new asked given older newer error h (inr refused) =
    inr (refused.0, refused.1, converses_more written_old written written_new read_old read read_new asked _ given _ h refused.2, refused.3)

-- the same of what the newest commitment vouches for
pub vouched_after : (written_old written written_new read_old read read_new : Option (List ℕ)) (asked : List Request) (given : List Reply) (older newest : Commitment)
    → Converses written_old written read_old read asked given
    → IsVouchedIn written written_new read read_new [] [] older newest
    → IsVouchedIn written_old written_new read_old read_new asked given older newest
vouched_after written_old written written_new read_old read read_new asked given older newest h (inl same) =
    inl (
      same.0,
      subst (λ (l : List Request). Converses written_old written_new read_old read_new l given) (append-nil asked)
          (subst (λ (l : List Reply). Converses written_old written_new read_old read_new (asked ++ []) l) (append-nil given)
          (converses_more written_old written written_new read_old read read_new asked [] given [] h same.1)),
    )
vouched_after written_old written written_new read_old read read_new asked given older newest h (inr joined) =
    inr (joined.0, joined.1, converses_more written_old written written_new read_old read read_new asked _ given _ h joined.2, joined.3)

-- a witness's increment, after the newest commitment was given
pub fails_to_join_after : (written_old written written_new read_old read read_new : Option (List ℕ)) (kept newest : Commitment) (error : ClientError)
    → Converses written_old written read_old read (request.Commitment NEWEST_TAG ∷ []) (newest_reply newest ∷ [])
    → (kept.count ≡ 0 → ⊥) → (newest.count < kept.count → ⊥) → (newest.count ≡ kept.count → ⊥)
    → FailsJoining written written_new read read_new kept newest error
    → Disbelieves written_old written_new read_old read_new kept newest error
fails_to_join_after written_old written written_new read_old read read_new kept newest error h some longer other not_joined =
    inr (inr (omega (arith, some), omega (arith, longer, other), not_joined_after JOIN_TAG written_old written written_new read_old read read_new _ _ kept newest error h not_joined))

-- a membership proof was asked for after the newest commitment was given, and didn't come
pub fails_to_prove_after : (written_old written written_new read_old read read_new : Option (List ℕ)) (newest : Commitment) (index : ℕ) (error : ClientError)
    → Converses written_old written read_old read (request.Commitment NEWEST_TAG ∷ []) (newest_reply newest ∷ [])
    → HasNoAnswer written written_new read read_new (request.Membership ASKED_TAG index newest.count ∷ []) [] ASKED_TAG IsMemberReply error
    → FailsEntry written_old written_new read_old read_new index error
fails_to_prove_after written_old written written_new read_old read read_new newest index error h none =
    inr (newest, inl (no_answer_after written_old written written_new read_old read read_new _ _ _ _ _ _ _ h none))

-- the same of a proof under any count
pub fails_member_after : (written_old written written_new read_old read read_new : Option (List ℕ)) (newest : Commitment) (index count : ℕ) (error : ClientError)
    → Converses written_old written read_old read (request.Commitment NEWEST_TAG ∷ []) (newest_reply newest ∷ [])
    → HasNoAnswer written written_new read read_new (request.Membership ASKED_TAG index count ∷ []) [] ASKED_TAG IsMemberReply error
    → FailsMember written_old written_new read_old read_new index count error
fails_member_after written_old written written_new read_old read read_new newest index count error h none =
    inr (newest, inl (no_answer_after written_old written written_new read_old read read_new _ _ _ _ _ _ _ h none))

pub fails_increment_after : (written_old written written_new read_old read read_new : Option (List ℕ)) (newest : Commitment) (older newer : ℕ) (error : ClientError)
    → Converses written_old written read_old read (request.Commitment NEWEST_TAG ∷ []) (newest_reply newest ∷ [])
    → HasNoAnswer written written_new read read_new (request.Incremental ASKED_TAG older newer ∷ []) [] ASKED_TAG (IsIncrementReply ASKED_TAG) error
    → FailsIncrement written_old written_new read_old read_new older newer error
fails_increment_after written_old written written_new read_old read read_new newest older newer error h none =
    inr (newest, inl (no_answer_after written_old written written_new read_old read read_new _ _ _ _ _ _ _ h none))

-- the newest commitment doesn't vouch for the one under which a proof is accepted
pub member_unvouched : (written_old written written_new read_old read read_new : Option (List ℕ)) (newest : Commitment) (index count : ℕ) (hashes : List (List ℕ)) (entry root : List ℕ) (error : ClientError)
    → Converses written_old written read_old read (request.Commitment NEWEST_TAG ∷ request.Membership ASKED_TAG index count ∷ []) (newest_reply newest ∷ reply.Membership ASKED_TAG hashes entry ∷ [])
    → AcceptsMembership sha256 (record { count = count; root = root }) index entry hashes
    → ((record { count = count; root = root } ≡ newest) → ⊥)
    → FailsJoining written written_new read read_new (record { count = count; root = root }) newest error
    → FailsMember written_old written_new read_old read_new index count error
member_unvouched written_old written written_new read_old read read_new newest index count hashes entry root error h accepted other not_joined =
    inr (newest, inr (inl (hashes, entry, inr (root, accepted, other, not_joined_after JOIN_TAG written_old written written_new read_old read read_new _ _ _ newest error h not_joined))))

pub increment_unvouched : (written_old written written_new read_old read read_new : Option (List ℕ)) (newest : Commitment) (older newer : ℕ) (hashes : List (List ℕ)) (older_root root : List ℕ) (error : ClientError)
    → Converses written_old written read_old read (request.Commitment NEWEST_TAG ∷ request.Incremental ASKED_TAG older newer ∷ []) (newest_reply newest ∷ reply.Incremental ASKED_TAG hashes ∷ [])
    → AcceptsIncrement sha256 (record { count = older; root = older_root }) (record { count = newer; root = root }) hashes
    → ((record { count = newer; root = root } ≡ newest) → ⊥)
    → FailsJoining written written_new read read_new (record { count = newer; root = root }) newest error
    → FailsIncrement written_old written_new read_old read_new older newer error
increment_unvouched written_old written written_new read_old read read_new newest older newer hashes older_root root error h accepted other not_joined =
    inr (newest, inr (inl (hashes, inr (root, (older_root, accepted), other, not_joined_after JOIN_TAG written_old written written_new read_old read read_new _ _ _ newest error h not_joined))))
