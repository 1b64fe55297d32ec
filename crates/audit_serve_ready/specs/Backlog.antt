-- How many bytes are kept for a client and owed to its session.
use Rattle.std.specs.Prelude.{◌≡◌, ◌≢◌, ◌⊎◌, ℕ, ◌+◌, ◌<◌, ◌≤◌, max, Bool, true, false, List, [], ◌++◌, length}
use Rattle.std.specs.Prelude.{slice_index_or}
use Rattle.audit_serve_passes.specs.Streams.{StreamCall, bytes_read}
use Rattle.audit_serve_passes.specs.Core.{CoreModel, RequestKind, appending, asking}
use Rattle.audit_serve_passes.specs.Owing.{OwesOthersNoMore, IsNextRequest}
use Rattle.audit_serve_ready.specs.Slot.{SlotData, kept_of, unread_of, is_mute}
use Rattle.audit_serve_ready.specs.Places.{slot_at}

module _ {C : Type 0} (M : CoreModel C) where
  -- nothing is owed to the sessions below a number, or to those that haven't had their turn
  abbrev pub OwesNothing : ℕ → C → Type 0
  OwesNothing count core = (k : ℕ) → k < count → M.owed core k ≡ 0

  abbrev pub OwesOnlyAfterTurns : ℕ → List Bool → C → Type 0
  OwesOnlyAfterTurns count had_turn core = (k : ℕ) → k < count → slice_index_or had_turn k true ≡ false
      → M.owed core k ≡ 0

  -- the backlog, or one reply that is longer
  abbrev pub most_due : ℕ → ℕ
  most_due backlog = max backlog M.longest

-- Whoever had a turn has had it still, and its place is the same.
abbrev pub KeepsTurns : {S : Type 0} → List Bool → List Bool → List (SlotData S) → List (SlotData S) → Type 0
KeepsTurns had now before after = (k : ℕ) → slice_index_or had k true ≡ true
    → (slice_index_or now k true ≡ true) × (slot_at k after ≡ slot_at k before)

module _ {C S : Type 0} (M : CoreModel C) (backlog : ℕ) where
  -- What is kept for a client and owed to its session is within that; once the session has ended, with the refusal of a
  -- request that its end cut off.
  abbrev pub IsWithinBacklog : ℕ → C → SlotData S → Type 0
  IsWithinBacklog k core slot = (length (kept_of slot) + M.owed core k ≤ most_due M backlog)
      ⊎ ((M.ended core [] k ≡ true) × (length (kept_of slot) + M.owed core k ≤ most_due M backlog + M.refusal))

  abbrev pub AreWithinBacklog : C → List (SlotData S) → Type 0
  AreWithinBacklog core slots = (k : ℕ) → k < length slots → IsWithinBacklog k core (slot_at k slots)

  -- The turn of a session leaves it within that, and no other is owed more.
  pub record IsTurnWithin (k : ℕ) (old new : C) (before after : SlotData S) : Type 0 where
    pub others : OwesOthersNoMore M k old new
    pub ended : (other : ℕ) → M.ended old [] other ≡ true → M.ended new [] other ≡ true
    pub within : M.ended old [] k ≡ false → M.owed old k ≡ 0 → IsWithinBacklog k old before
        → IsWithinBacklog k new after

  -- ---- whose turn it is

  -- A client is heard, bytes of it are unread, and whatever it asks, there is room for the reply.
  pub record MayAsk (k : ℕ) (core : C) (slot : SlotData S) : Type 0 where
    pub live : M.ended core [] k ≡ false
    pub heard : is_mute slot ≡ false
    pub unread : unread_of slot ≢ []
    pub room : (kept_of slot ≡ []) ⊎ (length (kept_of slot) + M.longest ≤ backlog)

  -- the session took a request of what was unread, or all of it
  abbrev pub HasTakenRequest : ℕ → C → SlotData S → SlotData S → Type 0
  HasTakenRequest k core before after = (unread_of after ≡ [])
      ⊎ ((fed : List ℕ) × (unread_of before ≡ fed ++ unread_of after) × (M.requests core k fed ≢ []))

  -- It does so in a turn of its own, unless its client is heard no more afterwards.
  abbrev pub TakesTurn : ℕ → C → SlotData S → SlotData S → Type 0
  TakesTurn k core before after = MayAsk k core before → is_mute after ≡ false → HasTakenRequest k core before after

  -- ---- what is taken of a client's bytes

  -- The backlog has no room for a reply of this length, beside what is kept for the client and the replies to what was
  -- taken before it in this turn. The first request of a turn never waits for room if nothing is kept.
  pub record LacksRoom (k : ℕ) (core : C) (fed : List ℕ) (slot : SlotData S) (reply : ℕ) : Type 0 where
    pub full : backlog < length (kept_of slot) + (M.replies core k fed + reply)
    pub first : M.requests core k fed ≡ [] → kept_of slot ≢ []

  -- The bytes that a turn leaves begin with a request that has to wait: an append for whose reply the backlog has no
  -- room; or a question, if the backlog has no room for the longest reply of its kind, or the questions of the pass may
  -- not ask for as much.
  pub record IsPutOff (AskNoMore : ℕ → Type 0) (k : ℕ) (core : C) (fed rest : List ℕ) (slot : SlotData S) : Type 0 where
    pub kind : RequestKind
    pub is : IsNextRequest M k core fed (fed ++ rest) kind
    pub appends : kind ≡ appending → LacksRoom k core fed slot M.acknowledgement
    pub asks : (reply : ℕ) → kind ≡ asking reply → LacksRoom k core fed slot reply ⊎ AskNoMore reply

  -- Of what was unread, and then of what was read in these calls, the session took the first bytes: all, or those up to
  -- a request that has to wait.
  pub record TakesUp (AskNoMore : ℕ → Type 0) (k : ℕ) (calls : List StreamCall) (core : C) (before after : SlotData S)
      : Type 0 where
    pub fed : List ℕ
    pub all : unread_of before ++ bytes_read calls ≡ fed ++ unread_of after
    pub left : (unread_of after ≡ []) ⊎ IsPutOff AskNoMore k core fed (unread_of after) before
