-- What is done for the clients that are in their places.
use Rattle.std.specs.Prelude.{◌≡◌, ◌≢◌, ◌⊎◌, ℕ, ◌<◌, ◌≤◌, Bool, true, false, ◌||◌, List, [], ◌∷◌, ◌++◌, length}
use Rattle.std.specs.Prelude.{slice_index_or}
use Rattle.audit_serve_ready.specs.declared.limits.TheConstants.{MAX_READ}
use Rattle.audit_serve_passes.specs.Steps.{StepData, AreAbout, bytes_fed, ends_in}
use Rattle.audit_serve_passes.specs.Streams.{StreamCall, a_read, a_failed_read, CallModel}
use Rattle.audit_serve_passes.specs.Streams.{bytes_read, bytes_sent, has_failed_write}
use Rattle.audit_serve_passes.specs.Core.{bytes_for}
use Rattle.audit_serve_ready.specs.Slot.{SlotData, vacant, unread_of, kept_of, is_shut, is_mute, has_read, IsOffered}
use Rattle.audit_serve_ready.specs.Slot.{noted_of, noted_after_sending, IsAccounted}

-- the place of a session
abbrev pub slot_at : {S : Type 0} → ℕ → List (SlotData S) → SlotData S
slot_at k slots = slice_index_or slots k vacant

-- a read that found the end of the stream or failed, and whether one of several calls did
abbrev pub is_last_read : StreamCall → Bool
is_last_read (a_read []) = true
is_last_read a_failed_read = true
is_last_read _ = false

abbrev pub has_last_read : List StreamCall → Bool
has_last_read [] = false
has_last_read (call ∷ calls) = is_last_read call || has_last_read calls

-- what core calls did: the steps, and the bytes that were taken of each session's output
abbrev pub CoreDid : Type 1
CoreDid = List StepData → (ℕ → List ℕ) → Type 0

module _ {S : Type 0} (N : CallModel S) where
  -- The steps fed session k what its client's stream gave in these calls, after what was unread before and up to what
  -- is unread now, but for what was lost. They ended it only if a read found the end or failed, or the place was shut.
  -- What was taken of its output is accounted for.
  pub record IsServedAt (k : ℕ) (steps : List StepData) (lost sent : List ℕ) (calls : List StreamCall)
      (before after : SlotData S) : Type 0 where
    pub read : unread_of before ++ bytes_read calls ≡ bytes_fed k steps ++ (unread_of after ++ lost)
    pub ends : (ends_in k steps ≡ 0) ⊎ ((has_last_read calls || is_shut after) ≡ true)
    pub accounted : IsAccounted N sent calls before after

  -- ---- one place

  pub record ServesPlace (Did : CoreDid) (k : ℕ) (lost : List ℕ) (before after : SlotData S) : Type 0 where
    pub steps : List StepData
    pub sent : List ℕ
    pub calls : List StreamCall
    pub did : Did steps (bytes_for k sent)
    pub about : AreAbout k steps
    pub served : IsServedAt k steps lost sent calls before after

  -- the same, if a step was refused by which at most a piece was lost
  pub record StopsAtPlace (Did : CoreDid) (k : ℕ) (before after : SlotData S) : Type 0 where
    pub lost : List ℕ
    pub most : length lost ≤ MAX_READ
    pub serves : ServesPlace Did k lost before after

  -- ---- all places

  -- These steps were done, these bytes were taken of the sessions' outputs, and the clients' streams had these calls.
  pub record IsReadyPass (Did : CoreDid) (lost : ℕ → List ℕ) (steps : List StepData) (taken : ℕ → List ℕ)
      (calls : ℕ → List StreamCall) (before after : List (SlotData S)) : Type 0 where
    pub count : length after ≡ length before
    pub did : Did steps taken
    pub others : (k : ℕ) → length before ≤ k → taken k ≡ []
    pub at : (k : ℕ) → k < length before
        → IsServedAt k steps (lost k) (taken k) (calls k) (slot_at k before) (slot_at k after)

  pub record ServesPlaces (Did : CoreDid) (lost : ℕ → List ℕ) (before after : List (SlotData S)) : Type 0 where
    pub steps : List StepData
    pub taken : ℕ → List ℕ
    pub calls : ℕ → List StreamCall
    pub pass : IsReadyPass Did lost steps taken calls before after

  -- the same, if a step was refused by which at most a piece of one session was lost
  pub record StopsAtPlaces (Did : CoreDid) (before after : List (SlotData S)) : Type 0 where
    pub refused : ℕ
    pub lost : List ℕ
    pub most : length lost ≤ MAX_READ
    pub serves : ServesPlaces Did (bytes_for refused lost) before after

  -- What was kept was written as far as the clients took it, and nothing was read.
  pub record WritesOn (before after : List (SlotData S)) : Type 0 where
    pub count : length after ≡ length before
    pub calls : ℕ → List StreamCall
    pub at : (k : ℕ) → k < length before → (bytes_read (calls k) ≡ [])
        × (unread_of (slot_at k after) ≡ unread_of (slot_at k before))
        × IsAccounted N [] (calls k) (slot_at k before) (slot_at k after)

  -- What is kept was offered to each client that takes replies, and nothing was read. Replies are dropped only after a
  -- write that failed.
  pub record OffersKept (before after : List (SlotData S)) : Type 0 where
    pub writes : WritesOn before after
    pub offered : (k : ℕ) → k < length before → IsOffered (writes.calls k) (slot_at k after)
    pub dropped : (k : ℕ) → is_mute (slot_at k before) ≡ false → is_mute (slot_at k after) ≡ true
        → has_failed_write (writes.calls k) ≡ true

  -- What was taken of the sessions' outputs was kept and offered at the places below a number. Replies are dropped
  -- after a write that failed, or in a place that is shut; and that is for want of memory, which is asked for only if
  -- replies are to be put behind others. Both are noted as reasons to leave. The other places are as they were, and
  -- their clients' streams had no calls. Unless something moved, no byte was written; if something did, some were, or a
  -- write failed.
  pub record WritesPlaces (Did : CoreDid) (moved : Bool) (count : ℕ) (taken : ℕ → List ℕ) (calls : ℕ → List StreamCall)
      (before after : List (SlotData S)) : Type 0 where
    pub pass : IsReadyPass Did (λ k. []) [] taken calls before after
    pub offered : (k : ℕ) → k < count → IsOffered (calls k) (slot_at k after)
    pub no_reads : (k : ℕ) → has_read (calls k) ≡ false
    pub idle : moved ≡ false → (k : ℕ) → bytes_sent (calls k) ≡ []
    pub moves : moved ≡ true → (k : ℕ) × ((bytes_sent (calls k) ≢ []) ⊎ (has_failed_write (calls k) ≡ true))
    pub unread : (k : ℕ) → unread_of (slot_at k after) ≡ unread_of (slot_at k before)
    pub dropped : (k : ℕ) → is_mute (slot_at k before) ≡ false → is_mute (slot_at k after) ≡ true
        → (has_failed_write (calls k) ≡ true) ⊎ (is_shut (slot_at k after) ≡ true)
    pub closed : (k : ℕ) → is_shut (slot_at k before) ≡ false → is_shut (slot_at k after) ≡ true
        → (kept_of (slot_at k before) ≢ []) × (taken k ≢ [])
    pub noted : (k : ℕ) → noted_of (slot_at k after)
        ≡ noted_after_sending (calls k) (slot_at k before) (slot_at k after)
    pub others : (k : ℕ) → count ≤ k → slot_at k after ≡ slot_at k before
    pub uncalled : (k : ℕ) → count ≤ k → calls k ≡ []
