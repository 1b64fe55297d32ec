-- What was asked for while a log was read on.
use Rattle.std.specs.Prelude.{ℕ, zero, suc, Option, Some, List, [], ◌∷◌, ◌++◌}
use Rattle.std.proofs.Common.{inl, inr, subst}
use Rattle.audit_proof.specs.declared.commitment.Commitment.{Commitment}
use Rattle.audit_wire.specs.declared.request.Request.{Request}
use Rattle.audit_wire_ask.specs.declared.watching.Sight.{Sight}
use Rattle.audit_wire_ask.specs.declared.watching.Sight.TheVariants.{Began, Same, Grew}
use Rattle.audit_wire_ask.specs.Exporting.{entry_requests, entry_replies}
use Rattle.audit_wire_ask.specs.Watching.{Sees}
use Rattle.audit_wire_ask.proofs.Conversations.{converses_none, converses_more}
use Rattle.audit_wire_read.specs.Pieces.{ReceivesPiece}
use Rattle.audit_wire_read.specs.Questions.{AreReadRequests, AsksToRead}
use Rattle.audit_wire_read.specs.Newest.{SeesNewest, Extends, IsNewest}

reading_more : (asked later : List Request) → AreReadRequests asked → AreReadRequests later → AreReadRequests (asked ++ later)
reading_more [] later first second = second
reading_more (one ∷ asked) later first second = (first.0, reading_more asked later first.1 second)

reading_rest : (asked later : List Request) → AreReadRequests (asked ++ later) → AreReadRequests later
reading_rest [] later all = all
reading_rest (one ∷ asked) later all = reading_rest asked later all.1

reading_entries : (count : ℕ) → AreReadRequests (entry_requests count)
reading_entries zero = tt
reading_entries (suc count) = reading_more (entry_requests count) _ (reading_entries count) (tt, tt)

pub asks_none : (written read : Option (List ℕ)) → AsksToRead written written read read
asks_none written read = record { asked = []; given = []; reading = tt; conversation = converses_none written read }

pub asks_more : {w0 w1 w2 r0 r1 r2 : Option (List ℕ)} → AsksToRead w0 w1 r0 r1 → AsksToRead w1 w2 r1 r2 → AsksToRead w0 w2 r0 r2
asks_more {w0 = w0} {w1 = w1} {w2 = w2} {r0 = r0} {r1 = r1} {r2 = r2} first second = record {
  asked = first.asked ++ second.asked;
  given = first.given ++ second.given;
  reading = reading_more first.asked second.asked first.reading second.reading;
  conversation = converses_more w0 w1 w2 r0 r1 r2 first.asked second.asked first.given second.given first.conversation second.conversation;
}

pub asks_piece : {w0 w1 r0 r1 : Option (List ℕ)} {first next : ℕ} {bytes : List ℕ} → ReceivesPiece w0 w1 r0 r1 first next bytes → AsksToRead w0 w1 r0 r1
asks_piece {first = first} {next = next} received = record {
  asked = received.asked;
  given = entry_replies first received.entries;
  reading = reading_rest (entry_requests first) received.asked (subst AreReadRequests received.all (reading_entries next));
  conversation = received.conversation;
}

asks_sight : (w0 w1 r0 r1 : Option (List ℕ)) (kept : Commitment) (sight : Sight) → Sees w0 w1 r0 r1 (Some kept) sight → AsksToRead w0 w1 r0 r1
asks_sight w0 w1 r0 r1 kept (Began seen) sees = absurd sees
asks_sight w0 w1 r0 r1 kept (Same seen) sees = record { asked = _; given = _; reading = (tt, tt); conversation = sees.1 }
asks_sight w0 w1 r0 r1 kept (Grew seen) (fewer, inl first) = record { asked = _; given = _; reading = (tt, tt); conversation = first.1 }
asks_sight w0 w1 r0 r1 kept (Grew seen) (fewer, inr joined) = record { asked = _; given = _; reading = (tt, (tt, tt)); conversation = joined.1.1 }

pub asks_newest : {w0 w1 r0 r1 : Option (List ℕ)} {kept newest : Commitment} → SeesNewest w0 w1 r0 r1 kept newest → AsksToRead w0 w1 r0 r1
asks_newest {w0 = w0} {w1 = w1} {r0 = r0} {r1 = r1} {kept = kept} seen = asks_sight w0 w1 r0 r1 kept seen.sight seen.sees

pub is_newest : {w0 w1 r0 r1 : Option (List ℕ)} {kept newest : Commitment} → SeesNewest w0 w1 r0 r1 kept newest → Extends kept newest → IsNewest w0 r0 kept newest
is_newest seen extends = record { written = _; read = _; sees = seen; extends = extends }
