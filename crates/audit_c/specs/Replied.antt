-- The reply at the start of bytes, as fields.
use Rattle.std.specs.Prelude.{◌≡◌, ℕ, ◌+◌, ◌*◌, ◌==◌, nat_le, if◌then◌else◌, List}
use Rattle.std.specs.Prelude.{[], ◌∷◌, length, take, drop, Option, None, Some}
use Rattle.audit_base.specs.declared.limits.TheConstants.{HASH_LEN}
use Rattle.audit_base.specs.Bytes.{zeros}
use Rattle.audit_base.specs.Hashes.{first_hashes}
use Rattle.audit_wire.specs.declared.reply.Reply.{Reply}
use Rattle.audit_wire.specs.declared.reply.Reply.TheVariants as reply
use Rattle.audit_wire.specs.Frame.{size_of}
use Rattle.audit_wire.specs.Reply.{reply_in, refused_with, refusal_with_code}
use Rattle.audit_c.specs.declared.answers.TheConstants.{OK, MORE, MALFORMED}
use Rattle.audit_c.specs.declared.reply.GivenReply.{GivenReply}

-- a reply without other fields
abbrev pub with_tag : ℕ → ℕ → ℕ → GivenReply
with_tag size kind tag = record {
  size = size;
  kind = kind;
  tag = tag;
  index = 0;
  count = 0;
  root = zeros HASH_LEN;
  end = 0;
  sectors = 0;
  generation = 0;
  version = 0;
  closed = 0;
  code = 0;
  hashes = 0;
}

-- the body of the first frame, if the frame is whole
abbrev pub first_body : List ℕ → Option (List ℕ)
first_body [] = None
first_body (high ∷ []) = None
first_body (high ∷ low ∷ bytes) =
    if nat_le (size_of high low) (length bytes) then Some (take (size_of high low) bytes) else None

-- the reply that fields describe; its hashes, its entry and its key are in the bytes after the kind and the tag
unfoldable pub reply_of : GivenReply → List ℕ → Option Reply
reply_of given parts =
    if given.kind == 129 then Some (reply.Acknowledgement given.tag given.index given.count given.root) else
    if given.kind == 130 then Some (reply.Commitment given.tag given.count given.root) else
    if given.kind == 131 then Some (reply.Membership given.tag (first_hashes given.hashes (drop 1 parts))
    (drop (HASH_LEN * given.hashes) (drop 1 parts))) else
    if given.kind == 132 then Some (reply.Incremental given.tag (first_hashes given.hashes (drop 1 parts))) else
    if given.kind == 133 then Some (reply.Entry given.tag parts) else
    if given.kind == 135 then Some (reply.State given.tag given.count given.root given.end given.sectors
    given.generation given.version (given.closed == 1)) else
    if given.kind == 136 then Some (reply.Place given.tag given.index given.count) else
    if given.kind == 137 then Some (reply.Placed given.tag given.index given.count given.root
    (take HASH_LEN (drop 48 parts))) else
    if given.kind == 255 then refused_with given.tag (refusal_with_code given.code) else None

-- the fields describe this reply to the frame of this body
pub record IsDescribed (body : List ℕ) (said : Reply) (given : GivenReply) : Type 0 where
  pub size : given.size ≡ 2 + length body
  pub reply : reply_of given (drop 5 body) ≡ Some said

-- a body is that of a reply, and then the fields describe it, or of none
abbrev pub IsBodyRead : List ℕ → Option Reply → GivenReply → GivenReply → ℕ → Type 0
IsBodyRead body None before after answer = (answer ≡ MALFORMED) × (after ≡ before)
IsBodyRead body (Some said) before after answer = (answer ≡ OK) × IsDescribed body said after

-- the first frame is read if it is whole
abbrev pub IsReplyRead : Option (List ℕ) → GivenReply → GivenReply → ℕ → Type 0
IsReplyRead None before after answer = (answer ≡ MORE) × (after ≡ before)
IsReplyRead (Some body) before after answer = IsBodyRead body (reply_in body) before after answer

-- what was found of a body
abbrev pub IsReplyFound : List ℕ → Option Reply → Option GivenReply → Type 0
IsReplyFound body None None = Unit {0}
IsReplyFound body None (Some given) = ⊥
IsReplyFound body (Some said) None = ⊥
IsReplyFound body (Some said) (Some given) = IsDescribed body said given
