-- The place of a client, and what becomes of the bytes that are for it.
use Rattle.std.specs.Prelude.{◌≡◌, ◌≢◌, ◌⊎◌, ℕ, Bool, true, false, not, ◌&&◌, ◌||◌, if◌then◌else◌, Option, Some, None}
use Rattle.std.specs.Prelude.{List, [], ◌∷◌, ◌++◌}
use Rattle.audit_serve_passes.specs.Streams.{StreamCall, a_read, a_read_in_vain, a_failed_read, a_write}
use Rattle.audit_serve_passes.specs.Streams.{CallModel, bytes_read, bytes_sent, has_failed_write, AreWrittenWhole}
use Rattle.audit_serve_ready.specs.declared.departure.Departure.{Departure}
use Rattle.audit_serve_ready.specs.declared.departure.Departure.TheVariants as departure
use Rattle.audit_serve_ready.specs.declared.note.Note.{Note}
use Rattle.audit_serve_ready.specs.declared.note.Note.TheVariants.{Finished, ReadFailed, WriteFailed, Dismissed, Memory}
use Rattle.audit_serve_ready.specs.declared.reception.Reception.{Reception}
use Rattle.audit_serve_ready.specs.declared.reception.Reception.TheVariants as reception

-- A client has bytes that were read and that its session hasn't taken, and a reason to leave, if one was noted.
pub data SlotData (S : Type 0) : Type 0 where
  -- there is no client
  vacant : SlotData S
  -- there is a client, with these bytes unread, for which these bytes are kept
  serving : S → List ℕ → List ℕ → Option Note → SlotData S
  -- there is a client that takes no replies: nothing is kept for it
  unheard : S → List ℕ → Option Note → SlotData S
  -- there is a client that is to be dropped: nothing more is read either
  closing : S → List ℕ → Option Note → SlotData S

abbrev pub slot_with : {S : Type 0} → Reception → S → List ℕ → List ℕ → Option Note → SlotData S
slot_with reception.Takes client unread kept noted = serving client unread kept noted
slot_with reception.Drops client unread kept noted = unheard client unread noted
slot_with reception.Shut client unread kept noted = closing client unread noted

abbrev pub slot_data : {S : Type 0} → Option S → List ℕ → List ℕ → Reception → Option Note → SlotData S
slot_data None unread kept how noted = vacant
slot_data (Some client) unread kept how noted = slot_with how client unread kept noted

-- for a client that takes no replies nothing is kept
abbrev pub IsKeptFor : Reception → List ℕ → Type 0
IsKeptFor reception.Takes kept = Unit {0}
IsKeptFor reception.Drops kept = kept ≡ []
IsKeptFor reception.Shut kept = kept ≡ []

abbrev pub client_of : {S : Type 0} → SlotData S → Option S
client_of vacant = None
client_of (serving client unread kept noted) = Some client
client_of (unheard client unread noted) = Some client
client_of (closing client unread noted) = Some client

abbrev pub unread_of : {S : Type 0} → SlotData S → List ℕ
unread_of vacant = []
unread_of (serving client unread kept noted) = unread
unread_of (unheard client unread noted) = unread
unread_of (closing client unread noted) = unread

abbrev pub kept_of : {S : Type 0} → SlotData S → List ℕ
kept_of vacant = []
kept_of (serving client unread kept noted) = kept
kept_of (unheard client unread noted) = []
kept_of (closing client unread noted) = []

-- the same place with these bytes unread
abbrev pub with_unread : {S : Type 0} → List ℕ → SlotData S → SlotData S
with_unread bytes vacant = vacant
with_unread bytes (serving client unread kept noted) = serving client bytes kept noted
with_unread bytes (unheard client unread noted) = unheard client bytes noted
with_unread bytes (closing client unread noted) = closing client bytes noted

abbrev pub has_client : {S : Type 0} → SlotData S → Bool
has_client vacant = false
has_client (serving client unread kept noted) = true
has_client (unheard client unread noted) = true
has_client (closing client unread noted) = true

-- some bytes are kept
abbrev pub has_bytes : List ℕ → Bool
has_bytes [] = false
has_bytes (byte ∷ bytes) = true

abbrev pub has_kept : {S : Type 0} → SlotData S → Bool
has_kept vacant = false
has_kept (serving client unread kept noted) = has_bytes kept
has_kept (unheard client unread noted) = false
has_kept (closing client unread noted) = false

-- the same place, whose client is to be dropped for this reason
abbrev pub closed : {S : Type 0} → Note → SlotData S → SlotData S
closed why vacant = vacant
closed why (serving client unread kept noted) = closing client unread (Some why)
closed why (unheard client unread noted) = closing client unread (Some why)
closed why (closing client unread noted) = closing client unread (Some why)

-- there is no client, or it is to be dropped
abbrev pub is_shut : {S : Type 0} → SlotData S → Bool
is_shut vacant = true
is_shut (serving client unread kept noted) = false
is_shut (unheard client unread noted) = false
is_shut (closing client unread noted) = true

-- there is no client that takes replies
abbrev pub is_mute : {S : Type 0} → SlotData S → Bool
is_mute vacant = true
is_mute (serving client unread kept noted) = false
is_mute (unheard client unread noted) = true
is_mute (closing client unread noted) = true

abbrev pub is_no_client : {S : Type 0} → Option S → Bool
is_no_client None = true
is_no_client (Some client) = false

-- a read was called, whatever it found
abbrev pub is_read : StreamCall → Bool
is_read (a_read bytes) = true
is_read a_read_in_vain = true
is_read a_failed_read = true
is_read _ = false

abbrev pub has_read : List StreamCall → Bool
has_read [] = false
has_read (call ∷ calls) = is_read call || has_read calls

-- a write took some of the bytes that it offered, and left these
abbrev pub IsWriteLeaving : List ℕ → StreamCall → Type 0
IsWriteLeaving rest (a_write taken left) = left ≡ rest
IsWriteLeaving rest _ = ⊥

-- one of these calls did
abbrev pub HasWriteLeaving : List ℕ → List StreamCall → Type 0
HasWriteLeaving rest [] = ⊥
HasWriteLeaving rest (call ∷ calls) = IsWriteLeaving rest call ⊎ HasWriteLeaving rest calls

-- Replies that are still kept after these calls were offered to the client in them, all of them in one write: they are
-- what it left.
abbrev pub IsOffered : {S : Type 0} → List StreamCall → SlotData S → Type 0
IsOffered calls slot = has_kept slot ≡ true → HasWriteLeaving (kept_of slot) calls

-- The client of a place was asked for bytes in these calls, unless some were unread.
abbrev pub IsAskedForBytes : {S : Type 0} → List StreamCall → SlotData S → Type 0
IsAskedForBytes calls slot = (unread_of slot ≢ []) ⊎ (has_read calls ≡ true)

-- ---- why a client leaves

-- the reason that was noted
abbrev pub noted_of : {S : Type 0} → SlotData S → Option Note
noted_of vacant = None
noted_of (serving client unread kept noted) = noted
noted_of (unheard client unread noted) = noted
noted_of (closing client unread noted) = noted

-- Why a client is handed back: its session was cut off; or else what was noted; or else, if nothing was, its own bytes
-- have ended its session.
abbrev pub departure_for : Bool → Option Note → Departure
departure_for true noted = departure.CutOff
departure_for false None = departure.Malformed
departure_for false (Some Finished) = departure.Finished
departure_for false (Some ReadFailed) = departure.ReadFailed
departure_for false (Some WriteFailed) = departure.WriteFailed
departure_for false (Some Dismissed) = departure.Dismissed
departure_for false (Some Memory) = departure.Memory

-- a reason is noted, unless one was
abbrev pub or_noted : Option Note → Note → Option Note
or_noted None why = Some why
or_noted (Some noted) why = Some noted

abbrev pub noting : {S : Type 0} → Note → SlotData S → SlotData S
noting why vacant = vacant
noting why (serving client unread kept noted) = serving client unread kept (or_noted noted why)
noting why (unheard client unread noted) = unheard client unread (or_noted noted why)
noting why (closing client unread noted) = closing client unread (or_noted noted why)

-- what is noted after a call that reads: that the stream has ended, or that the read failed; and after several
abbrev pub noted_after_call : StreamCall → Option Note → Option Note
noted_after_call (a_read []) noted = or_noted noted Finished
noted_after_call a_failed_read noted = or_noted noted ReadFailed
noted_after_call _ noted = noted

abbrev pub noted_after_reading : List StreamCall → Option Note → Option Note
noted_after_reading [] noted = noted
noted_after_reading (call ∷ calls) noted = noted_after_reading calls (noted_after_call call noted)

-- what is noted after replies were kept and written in these calls: that a write failed, or that memory was refused, so
-- that the place was shut
abbrev pub noted_after_sending : {S : Type 0} → List StreamCall → SlotData S → SlotData S → Option Note
noted_after_sending calls before after =
    if has_failed_write calls then Some WriteFailed
    else if is_shut after && not (is_shut before) then Some Memory
    else noted_of before

-- ---- calls

-- What is done with replies at a place is the same as before, and reasons to leave were noted as these calls say.
pub record IsSamePlace {S : Type 0} (calls : List StreamCall) (before after : SlotData S) : Type 0 where
  pub kept : kept_of after ≡ kept_of before
  pub mute : is_mute after ≡ is_mute before
  pub shut : is_shut after ≡ is_shut before
  pub noted : noted_of after ≡ noted_after_reading calls (noted_of before)

module _ {S : Type 0} (N : CallModel S) where
  -- the same client, whose stream had these calls; or none
  abbrev pub HasCalled : Option S → Option S → List StreamCall → Type 0
  HasCalled None None calls = calls ≡ []
  HasCalled None (Some new) calls = ⊥
  HasCalled (Some old) None calls = ⊥
  HasCalled (Some old) (Some new) calls = N.DidCalls old new calls

  -- The client's stream had these calls. What was kept for the client, and then what was sent to it, was written in
  -- them or is kept; or it was dropped when the client took no more replies.
  pub record IsAccounted (sent : List ℕ) (calls : List StreamCall) (before after : SlotData S) : Type 0 where
    pub client : HasCalled (client_of before) (client_of after) calls
    pub dropped : List ℕ
    pub written : kept_of before ++ sent ≡ bytes_sent calls ++ (kept_of after ++ dropped)
    pub none_dropped : is_mute after ≡ false → dropped ≡ []
    -- nothing is written to a client that takes no replies, and a write that failed makes it one
    pub whole : AreWrittenWhole (is_mute before) calls
    pub mute : is_mute before ≡ true → is_mute after ≡ true
    pub fails : has_failed_write calls ≡ true → is_mute after ≡ true
    pub shut : is_shut before ≡ true → is_shut after ≡ true

  -- the same; nothing was read, and what is still kept was offered; unless something moved, no byte was written; and if
  -- something moved, bytes were written, or a write failed
  pub record IsPushed (moved : Bool) (sent : List ℕ) (before after : SlotData S) : Type 0 where
    pub calls : List StreamCall
    pub offered : IsOffered calls after
    pub quiet : bytes_read calls ≡ []
    pub no_reads : has_read calls ≡ false
    pub idle : moved ≡ false → bytes_sent calls ≡ []
    pub moves : moved ≡ true → (bytes_sent calls ≢ []) ⊎ (has_failed_write calls ≡ true)
    pub unread : unread_of after ≡ unread_of before
    pub accounted : IsAccounted sent calls before after
    -- replies are dropped after a write that failed, or in a place that is shut; and that is for want of memory, which
    -- is asked for only if replies are to be put behind others
    pub dropped : is_mute before ≡ false → is_mute after ≡ true
        → (has_failed_write calls ≡ true) ⊎ (is_shut after ≡ true)
    pub closed : is_shut before ≡ false → is_shut after ≡ true → (kept_of before ≢ []) × (sent ≢ [])
    pub noted : noted_of after ≡ noted_after_sending calls before after

  -- A look for bytes of the client: what is unread stays, or a piece was read in its place.
  pub record HasLooked (before after : SlotData S) (calls : List StreamCall) : Type 0 where
    pub read : unread_of before ++ bytes_read calls ≡ unread_of after
    pub asked : IsAskedForBytes calls before
    pub same : IsSamePlace calls before after
    pub quiet : bytes_sent calls ≡ []
    pub accounted : IsAccounted [] calls before after
