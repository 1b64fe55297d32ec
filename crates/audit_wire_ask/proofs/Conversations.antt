-- Conversations, one after the other.
use Rattle.std.proofs.Common.{◌≡◌, inl, inr, ℕ, Option, Some, None, List, [], ◌∷◌, ◌++◌, length, take, drop, arith, refl, sym, ap, ◌∙◌, subst, append_assoc, append-nil}
use Rattle.std.specs.Prelude.{◌*◌, ◌+◌, ◌/◌, ◌%◌, ◌^◌, ◌<◌, ◌≤◌, map, slice_index, Result, Ok, Err, IfErr}
use Rattle.std.specs.Io.KnownBytes.{Appends, Consumes, Keeps}
use Rattle.std.specs.Int.{w16, to_be_bytes}
use Rattle.std.proofs.lemmas.List.{take_all, drop_all, take-append-le, length-take-le}
use Rattle.std.proofs.Math.Seq.{take-append-add}
use borrow.Rule.Slice.PartMut.{put_mid, post_of}
use Rattle.std.specs.List.{flat_map}
use Rattle.std.proofs.lemmas.Grind.{flat_map-append}
use Rattle.std.proofs.lemmas.Nat.{from_be_bytes-to_be_bytes_2}
use Rattle.audit_text.specs.Writing.{WritesInPart}
use Rattle.std.proofs.lemmas.List.{map-append}
use Rattle.audit_wire.specs.declared.request.Request.{Request}
use Rattle.audit_wire.specs.declared.reply.Reply.{Reply}
use Rattle.audit_wire.specs.Frame.{frame}
use Rattle.audit_wire.specs.Reply.{reply_in}
use Rattle.audit_wire.specs.Stream.{request_frame}
use Rattle.audit_text.proofs.Writing.{IsWrittenUpTo}
use Rattle.audit_wire_ask.specs.declared.fault.ClientError.{ClientError}
use Rattle.audit_wire_ask.specs.Exporting.{WritesFront}
use Rattle.audit_wire_ask.specs.Failing.{IsLost}
use Rattle.audit_wire_ask.specs.Conversation.{ReadsReply, ReadsReplies, ReadsFewer, ReadsPart, ReadsUpTo, IsPartOfFrame, Converses, BreaksOff}

pub consumes_more : (old mid new : Option (List ℕ)) (first second : List ℕ) → Consumes old mid first → Consumes mid new second → Consumes old new (first ++ second)
consumes_more None mid new first second a b = tt
consumes_more (Some xs) None new first second a b = absurd a
consumes_more (Some xs) (Some ys) None first second a b = absurd b
consumes_more (Some xs) (Some ys) (Some zs) first second a b = a ∙ ap (λ r. first ++ r) b ∙ sym (append_assoc first second zs)

pub consumes_none : (known : Option (List ℕ)) → Consumes known known []
consumes_none None = tt
consumes_none (Some bytes) = refl

pub appends_none : (known : Option (List ℕ)) → Appends known known []
appends_none None = tt
appends_none (Some bytes) = sym (append-nil bytes)

pub appends_more : (old mid new : Option (List ℕ)) (first second : List ℕ) → Appends old mid first → Appends mid new second → Appends old new (first ++ second)
appends_more None mid new first second a b = tt
appends_more (Some xs) None new first second a b = absurd a
appends_more (Some xs) (Some ys) None first second a b = absurd b
appends_more (Some xs) (Some ys) (Some zs) first second a b = b ∙ ap (λ h. h ++ second) a ∙ append_assoc xs first second

-- nothing more was written
pub appends_kept : (old mid new : Option (List ℕ)) (bytes : List ℕ) → Appends old mid bytes → Keeps mid new → Appends old new bytes
appends_kept None mid new bytes a kept = tt
appends_kept (Some xs) None new bytes a kept = absurd a
appends_kept (Some xs) (Some ys) None bytes a kept = absurd kept
appends_kept (Some xs) (Some ys) (Some zs) bytes a kept = kept ∙ a

pub converses_none : (written read : Option (List ℕ)) → Converses written written read read [] []
converses_none written read = record {
  sent = appends_none written;
  replies = record { bodies = []; bytes = consumes_none read; read = refl };
}

-- one request, and its reply
pub converses_once : (written_old written_new read_old read_new : Option (List ℕ)) (asked : Request) (given : Reply)
    → Appends written_old written_new (request_frame asked) → ReadsReply read_old read_new given
    → Converses written_old written_new read_old read_new (asked ∷ []) (given ∷ [])
converses_once written_old written_new read_old read_new asked given sent replied = record {
  sent = subst (Appends written_old written_new) (sym (append-nil (request_frame asked))) sent;
  replies = record {
    bodies = replied.body ∷ [];
    bytes = subst (Consumes read_old read_new) (sym (append-nil (frame replied.body))) replied.bytes;
    read = ap (λ first. first ∷ []) replied.read;
  };
}

-- no reply was read
pub replies_none : (known : Option (List ℕ)) → ReadsReplies known known []
replies_none known = record { bodies = []; bytes = consumes_none known; read = refl }

-- further replies were read
pub replies_after : (old mid new : Option (List ℕ)) (given later : List Reply) → ReadsReplies old mid given → ReadsReplies mid new later → ReadsReplies old new (given ++ later)
replies_after old mid new given later h k = record {
  bodies = h.bodies ++ k.bodies;
  bytes = subst (Consumes old new) (sym (flat_map-append frame h.bodies k.bodies)) (consumes_more old mid new _ _ h.bytes k.bytes);
  read = map-append reply_in h.bodies k.bodies
      ∙ ap (λ front. front ++ map reply_in k.bodies) h.read
      ∙ ap (λ rest. map (λ reply. Some reply) given ++ rest) k.read
      ∙ sym (map-append (λ reply. Some reply) given later);
}

-- further replies were read, and a part of a frame
up_to_after : (old mid new : Option (List ℕ)) (given later : List Reply) → ReadsReplies old mid given → ReadsUpTo mid new later → ReadsUpTo old new (given ++ later)
up_to_after old mid new given later h k = record {
  bodies = h.bodies ++ k.bodies;
  part = k.part;
  bytes = subst (Consumes old new)
      (sym (ap (λ front. front ++ k.part) (flat_map-append frame h.bodies k.bodies) ∙ append_assoc (flat_map frame h.bodies) (flat_map frame k.bodies) k.part))
      (consumes_more old mid new _ _ h.bytes k.bytes);
  read = map-append reply_in h.bodies k.bodies
      ∙ ap (λ front. front ++ map reply_in k.bodies) h.read
      ∙ ap (λ rest. map (λ reply. Some reply) given ++ rest) k.read
      ∙ sym (map-append (λ reply. Some reply) given later);
  short = k.short;
}

-- a part of a frame was read, and no reply
pub up_to_part : (old new : Option (List ℕ)) → ReadsPart old new → ReadsUpTo old new []
up_to_part old new h = record { bodies = []; part = h.part; bytes = h.bytes; read = refl; short = h.short }

-- replies were read, and then a part of a frame
pub up_to_more : (old mid new : Option (List ℕ)) (given : List Reply) → ReadsReplies old mid given → ReadsPart mid new → ReadsUpTo old new given
up_to_more old mid new given h k = record { bodies = h.bodies; part = k.part; bytes = consumes_more old mid new _ _ h.bytes k.bytes; read = h.read; short = k.short }

-- all bytes but the rest were written, and the next write failed
pub front_left : (old mid new : Option (List ℕ)) (rest whole : List ℕ) → IsWrittenUpTo old mid rest whole → Keeps mid new → 0 < length rest → WritesFront old new whole
front_left old mid new rest whole h kept some = record {
  front = h.front;
  rest = rest;
  split = sym h.all;
  appended = appends_kept old mid new h.front h.appended kept;
  lacks = some;
}

pub kept_same : (known : Option (List ℕ)) → Keeps known known
kept_same None = tt
kept_same (Some bytes) = refl

-- a prefix of them was
pub part_of_front : (old new : Option (List ℕ)) (bytes : List ℕ) → WritesFront old new bytes → WritesInPart old new bytes
part_of_front old new bytes h = record { written = h.front; rest = h.rest; split = h.split; appended = h.appended }

-- after the first bytes a prefix of the second ones was written
pub part_after : (old mid new : Option (List ℕ)) (first second : List ℕ) → Appends old mid first → WritesInPart mid new second → WritesInPart old new (first ++ second)
part_after old mid new first second a h = record {
  written = first ++ h.written;
  rest = h.rest;
  split = ap (λ bytes. first ++ bytes) h.split ∙ sym (append_assoc first h.written h.rest);
  appended = appends_more old mid new first h.written a h.appended;
}

-- nothing was written
pub part_none : (known : Option (List ℕ)) (bytes : List ℕ) → WritesInPart known known bytes
part_none known bytes = record { written = []; rest = bytes; split = refl; appended = appends_none known }

-- a request wasn't written whole
pub breaks_once : (written_old written_new read : Option (List ℕ)) (asked : Request) → WritesInPart written_old written_new (request_frame asked)
    → BreaksOff written_old written_new read read (asked ∷ []) []
breaks_once written_old written_new read asked part =
    inl (subst (WritesInPart written_old written_new) (sym (append-nil (request_frame asked))) part, replies_none read)

-- a request was written, and its reply not read whole
pub stops_once : (written_old written_new read_old read_new : Option (List ℕ)) (asked : Request) → Appends written_old written_new (request_frame asked) → ReadsPart read_old read_new
    → BreaksOff written_old written_new read_old read_new (asked ∷ []) []
stops_once written_old written_new read_old read_new asked sent part =
    inr (subst (Appends written_old written_new) (sym (append-nil (request_frame asked))) sent, up_to_part read_old read_new part)

-- the same after a conversation
pub breaks_after : (written_old written written_new read_old read read_new : Option (List ℕ)) (asked later : List Request) (given after : List Reply)
    → Converses written_old written read_old read asked given → BreaksOff written written_new read read_new later after
    → BreaksOff written_old written_new read_old read_new (asked ++ later) (given ++ after)
breaks_after written_old written written_new read_old read read_new asked later given after h (inl k) = inl (
  subst (WritesInPart written_old written_new) (sym (flat_map-append request_frame asked later)) (part_after written_old written written_new _ _ h.sent k.0),
  replies_after read_old read read_new given after h.replies k.1,
)
breaks_after written_old written written_new read_old read read_new asked later given after h (inr k) = inr (
  subst (Appends written_old written_new) (sym (flat_map-append request_frame asked later)) (appends_more written_old written written_new _ _ h.sent k.0),
  up_to_after read_old read read_new given after h.replies k.1,
)

-- fewer than two bytes are no whole frame
no_frame : (part : List ℕ) → length part < 2 → IsPartOfFrame part
no_frame [] few = tt
no_frame (high ∷ []) few = tt
no_frame (high ∷ low ∷ body) few = absurd (omega arith)

pub part_of_length : (old new : Option (List ℕ)) → ReadsFewer old new 2 → ReadsPart old new
part_of_length old new h = record { part = h.part; bytes = h.bytes; short = no_frame h.part h.few }

-- the length field of a frame was read, and then not all of its body
pub part_of_body : (old mid new : Option (List ℕ)) (size : ℕ) → size < 2 ^ 16 → Consumes old mid (to_be_bytes w16 size) → ReadsFewer mid new size → ReadsPart old new
part_of_body old mid new size small first h = record {
  part = to_be_bytes w16 size ++ h.part;
  bytes = consumes_more old mid new (to_be_bytes w16 size) h.part first h.bytes;
  short = subst (λ n. length h.part < n) (sym (from_be_bytes-to_be_bytes_2 size small)) h.few;
}

pub body_unread : (done : Result (Unit {0}) ClientError) (old mid new : Option (List ℕ)) (size : ℕ) → Consumes old mid (to_be_bytes w16 size)
    → IfErr done (λ error. IsLost error × ReadsFewer mid new size) → size < 2 ^ 16 → IfErr done (λ error. IsLost error × ReadsPart old new)
body_unread (Ok done) old mid new size first h small = tt
body_unread (Err error) old mid new size first h small = (h.0, part_of_body old mid new size small first h.1)

pub converses_more : (written_old written written_new read_old read read_new : Option (List ℕ)) (asked later_asked : List Request) (given later_given : List Reply)
    → Converses written_old written read_old read asked given → Converses written written_new read read_new later_asked later_given
    → Converses written_old written_new read_old read_new (asked ++ later_asked) (given ++ later_given)
converses_more written_old written written_new read_old read read_new asked later_asked given later_given h k = record {
  sent = subst (Appends written_old written_new) (sym (flat_map-append request_frame asked later_asked)) (appends_more written_old written written_new _ _ h.sent k.sent);
  replies = replies_after read_old read read_new given later_given h.replies k.replies;
}

-- a read put further bytes after the first ones of a buffer
taken_more : (bytes part : List ℕ) (filled read len : ℕ) → filled ≤ length bytes → read ≤ length part → take (filled + read) (put_mid filled len bytes part) ≡ take filled bytes ++ take read part
taken_more bytes part filled read len within few =
    let place : length (take filled bytes) ≡ filled = length-take-le filled bytes within in
    ap (λ n. take (n + read) (take filled bytes ++ (part ++ post_of filled len bytes))) (sym place)
    ∙ take-append-add (take filled bytes) (part ++ post_of filled len bytes) read
    ∙ ap (λ l. take filled bytes ++ l) (take-append-le read part (post_of filled len bytes) few)

pub consumes_taken : (old mid new : Option (List ℕ)) (bytes part : List ℕ) (filled read len : ℕ) → filled ≤ length bytes → read ≤ length part
    → Consumes old mid (take filled bytes) → Consumes mid new (take read part) → Consumes old new (take (filled + read) (put_mid filled len bytes part))
consumes_taken old mid new bytes part filled read len within few first second =
    subst (Consumes old new) (sym (taken_more bytes part filled read len within few)) (consumes_more old mid new (take filled bytes) (take read part) first second)

-- the length field of a frame was read, and then its body
pub frame_read : (old mid new : Option (List ℕ)) (size : ℕ) (body : List ℕ) → Consumes old mid (to_be_bytes w16 size) → Consumes mid new body → length body ≡ size → Consumes old new (frame body)
frame_read old mid new size body first second same =
    subst (λ n. Consumes old new (to_be_bytes w16 n ++ body)) (sym same) (consumes_more old mid new (to_be_bytes w16 size) body first second)

-- a vector whose bytes were all replaced
pub all_replaced : (len : ℕ) (bytes items : List ℕ) → length bytes ≡ length items → len ≡ length items → take len (bytes ++ drop (length bytes) items) ≡ bytes
all_replaced len bytes items same whole =
    ap (λ rest. take len (bytes ++ rest)) (drop_all (length bytes) items (omega arith))
    ∙ ap (take len) (append-nil bytes) ∙ take_all len bytes (omega arith)

-- two bytes are those of the number that they spell
pub two_bytes : (bytes : List ℕ) (n : ℕ) → length bytes ≡ 2 → slice_index bytes 0 < 256 → slice_index bytes 1 < 256 → n ≡ slice_index bytes 0 * 256 + slice_index bytes 1 → to_be_bytes w16 n ≡ bytes
two_bytes [] n two high low e = absurd (omega arith)
two_bytes (a ∷ []) n two high low e = absurd (omega arith)
two_bytes (a ∷ b ∷ []) n two high low e =
    let first : n / 256 % 256 ≡ a = omega arith in
    let second : n % 256 ≡ b = omega arith in
    ap (λ x. x ∷ n % 256 ∷ []) first ∙ ap (λ y. a ∷ y ∷ []) second
two_bytes (a ∷ b ∷ c ∷ rest) n two high low e = absurd (omega arith)
