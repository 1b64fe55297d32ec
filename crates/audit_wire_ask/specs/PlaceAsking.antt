-- The answer to the question for the place of a kind, and when each error of it comes.
use Rattle.std.specs.Prelude.{◌≡◌, ℕ, Option, List, [], ◌∷◌}
use Rattle.audit_wire.specs.declared.request.Request.TheVariants as request
use Rattle.audit_wire.specs.declared.reply.Reply.{Reply}
use Rattle.audit_wire.specs.declared.reply.Reply.TheVariants as reply
use Rattle.audit_wire_ask.specs.declared.asking.TheConstants.{ASKED_TAG}
use Rattle.audit_wire_ask.specs.declared.fault.ClientError.{ClientError}
use Rattle.audit_wire_ask.specs.declared.kind_place.KindPlace.{KindPlace}
use Rattle.audit_wire_ask.specs.Failing.{HasNoAnswer}

abbrev pub place_reply : KindPlace → Reply
place_reply place = reply.Place ASKED_TAG place.number place.count

abbrev pub IsPlaceReply : Reply → Type 0
IsPlaceReply given = (place : KindPlace) × (given ≡ place_reply place)

-- the place of this kind was asked for, and there was no answer, or another
abbrev pub FailsPlace : Option (List ℕ) → Option (List ℕ) → Option (List ℕ) → Option (List ℕ) → ℕ → ClientError → Type 0
FailsPlace written_old written_new read_old read_new kind error = HasNoAnswer
    written_old written_new read_old read_new (request.Place ASKED_TAG kind ∷ []) [] ASKED_TAG IsPlaceReply error
