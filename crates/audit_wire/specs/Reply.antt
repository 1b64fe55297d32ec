-- The body of a reply: the kind in one byte, the request tag in four, then the fields of that kind.
use Rattle.std.specs.Prelude.{◌≡◌, ℕ, Bool, ◌+◌, ◌*◌, ◌^◌, ◌<◌, ◌≤◌, ◌&&◌, ◌==◌, nat_le, if◌then◌else◌, List, [], ◌∷◌}
use Rattle.std.specs.Prelude.{◌++◌}
use Rattle.std.specs.Prelude.{length, take, drop, slice_index, Option, Some, None, Result, Ok, Err, MatchOption}
use Rattle.std.specs.List.{flat_map}
use Rattle.std.specs.Int.{w16, w32, w64, to_be_bytes}
use Rattle.audit_base.specs.Bytes.{number_at}
use Rattle.audit_base.specs.Hashes.{AreHashes, first_hashes}
use Rattle.audit_base.specs.declared.limits.TheConstants.{HASH_LEN, MAX_MEMBER_HASHES, MAX_INCREMENT_HASHES, MAX_ENTRY}
use Rattle.audit_wire.specs.declared.limits.TheConstants.{ACKNOWLEDGEMENT_FRAME, REFUSAL_FRAME, COMMITMENT_FRAME}
use Rattle.audit_wire.specs.declared.limits.TheConstants.{MAX_ENTRY_FRAME, MAX_INCREMENT_FRAME, MAX_MEMBERSHIP_FRAME}
use Rattle.audit_wire.specs.declared.limits.TheConstants.{STATE_FRAME, PLACE_FRAME, PLACED_FRAME}
use Rattle.audit_wire.specs.Frame.{frame}
use Rattle.audit_wire.specs.declared.reply_fault.ReplyError.{ReplyError}
use Rattle.audit_wire.specs.declared.reply_fault.ReplyError.TheVariants as fault
use Rattle.audit_wire.specs.declared.refusal.Refusal.{Refusal}
use Rattle.audit_wire.specs.declared.refusal.Refusal.TheVariants as refusal
use Rattle.audit_wire.specs.declared.reply_kind.ReplyKind.{ReplyKind}
use Rattle.audit_wire.specs.declared.reply_kind.ReplyKind.TheVariants as kind
use Rattle.audit_wire.specs.declared.reply.Reply.{Reply}
use Rattle.audit_wire.specs.declared.reply.Reply.TheVariants as reply

-- the code of each refusal
abbrev pub refusal_code : Refusal → ℕ
refusal_code refusal.DamagedLog = 4
refusal_code refusal.Full = 7
refusal_code refusal.NoSuchVersion = 8
refusal_code refusal.Worn = 9
refusal_code refusal.Device = 11
refusal_code refusal.Closed = 13
refusal_code refusal.NotAllowed = 16
refusal_code refusal.NotCounted = 18
refusal_code refusal.Malformed = 20

-- the first byte of each kind: 0x81 to 0x85, 0x87 to 0x89, and 0xff
abbrev pub reply_byte : ReplyKind → ℕ
reply_byte kind.Acknowledgement = 129
reply_byte kind.Commitment = 130
reply_byte kind.Membership = 131
reply_byte kind.Incremental = 132
reply_byte kind.Entry = 133
reply_byte kind.State = 135
reply_byte kind.Place = 136
reply_byte kind.Placed = 137
reply_byte kind.Refused = 255

-- the number of hashes in one byte, then the hashes
abbrev pub hash_list : List (List ℕ) → List ℕ
hash_list hashes = length hashes ∷ flat_map (λ hash. hash) hashes

-- the fields of a state after its commitment: three numbers, the version, and the mark of a closed log
abbrev pub state_tail : ℕ → ℕ → ℕ → ℕ → Bool → List ℕ
state_tail end sectors generation version closed =
    to_be_bytes w64 end ++ to_be_bytes w64 sectors ++ to_be_bytes w64 generation ++ to_be_bytes w16 version
    ++ (if closed then 1 else 0) ∷ []

-- the body of each reply
abbrev pub reply_body : Reply → List ℕ
reply_body (reply.Acknowledgement tag index count root) =
    reply_byte kind.Acknowledgement ∷ (to_be_bytes w32 tag ++ to_be_bytes w64 index ++ to_be_bytes w64 count ++ root)
reply_body (reply.Commitment tag count root) =
    reply_byte kind.Commitment ∷ (to_be_bytes w32 tag ++ to_be_bytes w64 count ++ root)
reply_body (reply.Membership tag hashes entry) =
    reply_byte kind.Membership ∷ (to_be_bytes w32 tag ++ hash_list hashes ++ entry)
reply_body (reply.Incremental tag hashes) = reply_byte kind.Incremental ∷ (to_be_bytes w32 tag ++ hash_list hashes)
reply_body (reply.Entry tag entry) = reply_byte kind.Entry ∷ (to_be_bytes w32 tag ++ entry)
reply_body (reply.State tag count root end sectors generation version closed) =
    reply_byte kind.State ∷ (to_be_bytes w32 tag ++ to_be_bytes w64 count ++ root
    ++ state_tail end sectors generation version closed)
reply_body (reply.Place tag number count) =
    reply_byte kind.Place ∷ (to_be_bytes w32 tag ++ to_be_bytes w64 number ++ to_be_bytes w64 count)
reply_body (reply.Placed tag index count root key) =
    reply_byte kind.Placed ∷ (to_be_bytes w32 tag ++ to_be_bytes w64 index ++ to_be_bytes w64 count ++ root ++ key)
reply_body (reply.Refused tag code) = reply_byte kind.Refused ∷ (to_be_bytes w32 tag ++ refusal_code code ∷ [])

-- a reply that has a frame
abbrev pub IsReply : Reply → Type 0
IsReply (reply.Membership tag hashes entry) = (length hashes ≤ MAX_MEMBER_HASHES) × (length entry ≤ MAX_ENTRY)
IsReply (reply.Incremental tag hashes) = length hashes ≤ MAX_INCREMENT_HASHES
IsReply (reply.Entry tag entry) = length entry ≤ MAX_ENTRY
IsReply _ = Unit {0}

-- the parts of a reply fit their fields: numbers within their widths, and hashes of full length
abbrev pub HasReplyFields : Reply → Type 0
HasReplyFields (reply.Acknowledgement tag index count root) = (tag < 2 ^ 32) × (index < 2 ^ 64) × (count < 2 ^ 64)
    × (length root ≡ HASH_LEN)
HasReplyFields (reply.Commitment tag count root) = (tag < 2 ^ 32) × (count < 2 ^ 64) × (length root ≡ HASH_LEN)
HasReplyFields (reply.Membership tag hashes entry) = (tag < 2 ^ 32) × AreHashes hashes
HasReplyFields (reply.Incremental tag hashes) = (tag < 2 ^ 32) × AreHashes hashes
HasReplyFields (reply.Entry tag entry) = tag < 2 ^ 32
HasReplyFields (reply.State tag count root end sectors generation version closed) = (tag < 2 ^ 32)
    × (count < 2 ^ 64) × (length root ≡ HASH_LEN) × (end < 2 ^ 64) × (sectors < 2 ^ 64) × (generation < 2 ^ 64)
    × (version < 2 ^ 16)
HasReplyFields (reply.Place tag number count) = (tag < 2 ^ 32) × (number < 2 ^ 64) × (count < 2 ^ 64)
HasReplyFields (reply.Placed tag index count root key) = (tag < 2 ^ 32) × (index < 2 ^ 64) × (count < 2 ^ 64)
    × (length root ≡ HASH_LEN) × (length key ≡ HASH_LEN)
HasReplyFields (reply.Refused tag code) = tag < 2 ^ 32

-- a reply that has a frame, as the code represents it
pub record IsWholeReply (given : Reply) : Type 0 where
  pub within : IsReply given
  pub fields : HasReplyFields given

abbrev pub reply_frame : Reply → List ℕ
reply_frame given = frame (reply_body given)

-- the size of the longest frame of each kind
abbrev pub longest_frame : Reply → ℕ
longest_frame (reply.Acknowledgement tag index count root) = ACKNOWLEDGEMENT_FRAME
longest_frame (reply.Commitment tag count root) = COMMITMENT_FRAME
longest_frame (reply.Membership tag hashes entry) = MAX_MEMBERSHIP_FRAME
longest_frame (reply.Incremental tag hashes) = MAX_INCREMENT_FRAME
longest_frame (reply.Entry tag entry) = MAX_ENTRY_FRAME
longest_frame (reply.State tag count root end sectors generation version closed) = STATE_FRAME
longest_frame (reply.Place tag number count) = PLACE_FRAME
longest_frame (reply.Placed tag index count root key) = PLACED_FRAME
longest_frame (reply.Refused tag code) = REFUSAL_FRAME

-- ---- the same, read from bytes

-- the kind that the first byte of a body denotes
abbrev pub reply_kind_at : ℕ → Option ReplyKind
reply_kind_at byte =
    if byte == 129 then Some kind.Acknowledgement else
    if byte == 130 then Some kind.Commitment else
    if byte == 131 then Some kind.Membership else
    if byte == 132 then Some kind.Incremental else
    if byte == 133 then Some kind.Entry else
    if byte == 135 then Some kind.State else
    if byte == 136 then Some kind.Place else
    if byte == 137 then Some kind.Placed else
    if byte == 255 then Some kind.Refused else None

-- the refusal with this code
abbrev pub refusal_with_code : ℕ → Option Refusal
refusal_with_code code =
    if code == 4 then Some refusal.DamagedLog else
    if code == 7 then Some refusal.Full else
    if code == 8 then Some refusal.NoSuchVersion else
    if code == 9 then Some refusal.Worn else
    if code == 11 then Some refusal.Device else
    if code == 13 then Some refusal.Closed else
    if code == 16 then Some refusal.NotAllowed else
    if code == 18 then Some refusal.NotCounted else
    if code == 20 then Some refusal.Malformed else None

-- the reply in the bytes after the first one, for each kind
unfoldable pub acknowledgement_in : List ℕ → Option Reply
acknowledgement_in fields =
    if length fields == 52
    then Some (reply.Acknowledgement (number_at w32 0 fields) (number_at w64 4 fields) (number_at w64 12 fields)
    (take HASH_LEN (drop 20 fields))) else None

unfoldable pub commitment_reply_in : List ℕ → Option Reply
commitment_reply_in fields =
    if length fields == 44
    then Some (reply.Commitment (number_at w32 0 fields) (number_at w64 4 fields) (take HASH_LEN (drop 12 fields)))
    else None

-- the number of hashes, the hashes, and the bytes after them
unfoldable pub membership_reply_in : List ℕ → Option Reply
membership_reply_in fields =
    let number = slice_index fields 4 in
    if nat_le 5 (length fields) && nat_le number MAX_MEMBER_HASHES
    && nat_le (5 + HASH_LEN * number) (length fields) && nat_le (length fields) (5 + HASH_LEN * number + MAX_ENTRY)
    then Some (reply.Membership (number_at w32 0 fields) (first_hashes number (drop 5 fields))
    (drop (HASH_LEN * number) (drop 5 fields))) else None

unfoldable pub increment_reply_in : List ℕ → Option Reply
increment_reply_in fields =
    let number = slice_index fields 4 in
    if nat_le 5 (length fields) && nat_le number MAX_INCREMENT_HASHES && (length fields == 5 + HASH_LEN * number)
    then Some (reply.Incremental (number_at w32 0 fields) (first_hashes number (drop 5 fields))) else None

unfoldable pub entry_reply_in : List ℕ → Option Reply
entry_reply_in fields =
    if nat_le 4 (length fields) && nat_le (length fields) (4 + MAX_ENTRY)
    then Some (reply.Entry (number_at w32 0 fields) (drop 4 fields)) else None

unfoldable pub state_reply_in : List ℕ → Option Reply
state_reply_in fields =
    let mark = slice_index fields 70 in
    if (length fields == 71) && nat_le mark 1
    then Some (reply.State (number_at w32 0 fields) (number_at w64 4 fields) (take HASH_LEN (drop 12 fields))
    (number_at w64 44 fields) (number_at w64 52 fields) (number_at w64 60 fields) (number_at w16 68 fields) (mark == 1))
    else None

unfoldable pub place_reply_in : List ℕ → Option Reply
place_reply_in fields =
    if length fields == 20
    then Some (reply.Place (number_at w32 0 fields) (number_at w64 4 fields) (number_at w64 12 fields)) else None

unfoldable pub placed_reply_in : List ℕ → Option Reply
placed_reply_in fields =
    if length fields == 84
    then Some (reply.Placed (number_at w32 0 fields) (number_at w64 4 fields) (number_at w64 12 fields)
    (take HASH_LEN (drop 20 fields)) (take HASH_LEN (drop 52 fields))) else None

abbrev pub refused_with : ℕ → Option Refusal → Option Reply
refused_with tag None = None
refused_with tag (Some code) = Some (reply.Refused tag code)

unfoldable pub refused_in : List ℕ → Option Reply
refused_in fields = if length fields == 5
    then refused_with (number_at w32 0 fields) (refusal_with_code (slice_index fields 4)) else None

abbrev pub reply_fields_in : Option ReplyKind → List ℕ → Option Reply
reply_fields_in None fields = None
reply_fields_in (Some kind.Acknowledgement) fields = acknowledgement_in fields
reply_fields_in (Some kind.Commitment) fields = commitment_reply_in fields
reply_fields_in (Some kind.Membership) fields = membership_reply_in fields
reply_fields_in (Some kind.Incremental) fields = increment_reply_in fields
reply_fields_in (Some kind.Entry) fields = entry_reply_in fields
reply_fields_in (Some kind.State) fields = state_reply_in fields
reply_fields_in (Some kind.Place) fields = place_reply_in fields
reply_fields_in (Some kind.Placed) fields = placed_reply_in fields
reply_fields_in (Some kind.Refused) fields = refused_in fields

-- the reply whose body this is
unfoldable pub reply_in : List ℕ → Option Reply
reply_in [] = None
reply_in (first ∷ fields) = reply_fields_in (reply_kind_at first) fields

-- a reply with hashes or an entry, which are allocated
abbrev pub HasParts : Reply → Type 0
HasParts (reply.Membership tag hashes entry) = Unit {0}
HasParts (reply.Incremental tag hashes) = Unit {0}
HasParts (reply.Entry tag entry) = Unit {0}
HasParts _ = ⊥

-- the result of reading a body: its reply, or none if it has none, or memory was refused for its parts
abbrev pub IsReadAs : Option Reply → Result Reply ReplyError → Type 0
IsReadAs said (Ok given) = said ≡ Some given
IsReadAs said (Err fault.Malformed) = said ≡ None
IsReadAs said (Err fault.Memory) = MatchOption said ⊥ HasParts
