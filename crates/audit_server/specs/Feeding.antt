-- The effect of a piece of its stream on a session.
use Rattle.std.specs.Prelude.{◌≡◌, ◌≢◌, ℕ, ◌+◌, ◌<◌, ◌≤◌, Bool, false, if◌then◌else◌, Option, Some, None, Result, Ok}
use Rattle.std.specs.Prelude.{◌&&◌, Err, List, [], ◌∷◌, ◌++◌, length, take}
use Rattle.audit_disk_model.specs.declared.sectors.Sectors as sectors
use Rattle.audit_wire.specs.declared.request.Request.{Request}
use Rattle.audit_wire.specs.declared.fed.Fed.{Fed}
use Rattle.audit_wire.specs.declared.fed.Fed.TheVariants as fed
use Rattle.audit_wire.specs.Progress.{DecoderProgress, rest_of, is_spoiled}
use Rattle.audit_server_commit.specs.declared.question.Query.{Query}
use Rattle.audit_server_commit.specs.Arrivals.{Arrival, a_question, arrival_of}
use Rattle.audit_server_commit.specs.Heard.{Terms, heard_rest, stops_with, request_in_front}
use Rattle.audit_store.specs.declared.store_error.StoreError.TheVariants.{Broken}
use Rattle.audit_server_commit.specs.declared.committer.Committer.{Committer}
use Rattle.audit_server.specs.declared.feed_fault.FeedFault.{FeedFault}
use Rattle.audit_server.specs.declared.session.Front.{Front}
use Rattle.audit_server.specs.declared.session.Front.TheVariants as front
use Rattle.audit_server_commit.specs.Sessions.{SessionData, session_after, heard_after, with_piece, arrivals_by_piece}
use Rattle.audit_server.specs.declared.limit.Limit.{Limit}
use Rattle.audit_server.specs.Limit.{IsNotAdmitted, AreAdmitted}
use Rattle.audit_server.specs.Running.{HaveEntered, Run, IsRefusedAfter}
use Rattle.audit_server.specs.Entering.{IsRequestEnd, Enters}

-- a session as contracts see it, given its decoder; no bytes are kept of a session that has ended
abbrev pub session_view : Terms → DecoderProgress → Bool → Bool → SessionData
session_view terms progress ended cut_off = record {
  terms = terms;
  rest = if ended then [] else rest_of progress;
  ended = ended;
  cut_off = ended && cut_off;
}

-- a session that has not ended can continue its incomplete frame
abbrev pub IsLive : DecoderProgress → Bool → Type 0
IsLive progress ended = ended ≡ false → is_spoiled progress ≡ false

-- the number of bytes of a piece up to the end of a frame or of a malformed length
abbrev pub place_after : Fed → Option ℕ
place_after fed.More = None
place_after (fed.Body taken) = Some taken
place_after (fed.Malformed taken) = Some taken

-- Of a piece of a live session the first bytes were taken, and the next one completes an arrival: that byte counts as
-- not received.
pub record IsHeldBack (k : ℕ) (piece : List ℕ) (taken : ℕ) (arrival : Arrival) (old new : SessionData) : Type 0 where
  pub within : taken < length piece
  pub live : new.ended ≡ false
  pub uncut : new.cut_off ≡ false
  pub terms : new.terms ≡ old.terms
  pub heard : (later : List ℕ) → heard_after old (take taken piece ++ later) ≡ heard_after new later
  pub partial : heard_after new [] ≡ heard_rest new.rest
  pub next : arrivals_by_piece k (take (1 + taken) piece) old ≡ arrival ∷ []

-- The next byte of a piece completes an arrival that the limit doesn't admit.
pub record StopsBefore (k : ℕ) (piece : List ℕ) (taken : ℕ) (old : SessionData) (left : Limit) : Type 0 where
  pub arrival : Arrival
  pub next : arrivals_by_piece k (take (1 + taken) piece) old
      ≡ arrivals_by_piece k (take taken piece) old ++ arrival ∷ []
  pub over : IsNotAdmitted arrival left

module _ {D : Type 0} {g : sectors.Ghosts D} where
  -- The start of a piece of a live session was an incomplete frame,
  pub record IsPart (piece : List ℕ) (old new : SessionData) (before after : Committer D g)
      (limit left : Limit) : Type 0 where
    pub live : new.ended ≡ false
    pub uncut : new.cut_off ≡ false
    pub terms : new.terms ≡ old.terms
    pub heard : heard_after old piece ≡ heard_rest new.rest
    pub same : after ≡ before
    pub unspent : left ≡ limit

  -- or a request,
  pub record IsWholeFeed (k : ℕ) (piece : List ℕ) (taken : ℕ) (old new : SessionData)
      (before after : Committer D g) (limit left : Limit) : Type 0 where
    pub some : 0 < taken
    pub within : taken ≤ length piece
    pub live : new.ended ≡ false
    pub terms : new.terms ≡ old.terms
    pub request : Request
    pub heard : (later : List ℕ)
        → heard_after old (take taken piece ++ later) ≡ request_in_front request (heard_after new later)
    pub enters : Enters (arrival_of k request) before after (Ok tt)
    pub spent : AreAdmitted (arrival_of k request ∷ []) limit left

  -- or a malformed place or a request that isn't allowed, which ends the session,
  pub record IsLast (k : ℕ) (piece : List ℕ) (old new : SessionData) (before after : Committer D g)
      (limit left : Limit) : Type 0 where
    pub last : Query
    pub ended : new ≡ session_after old.terms (stops_with last)
    pub heard : heard_after old piece ≡ stops_with last
    pub enters : Enters (a_question (record { session = k; query = last })) before after (Ok tt)
    pub spent : AreAdmitted (a_question (record { session = k; query = last }) ∷ []) limit left

  -- or an arrival that the limit doesn't admit.
  pub record IsWithheld (k : ℕ) (piece : List ℕ) (taken : ℕ) (old new : SessionData)
      (before after : Committer D g) (limit left : Limit) : Type 0 where
    pub arrival : Arrival
    pub held : IsHeldBack k piece taken arrival old new
    pub same : after ≡ before
    pub unspent : left ≡ limit
    pub over : IsNotAdmitted arrival limit

  -- The arrival at the start didn't enter.
  pub record IsUntaken (k : ℕ) (piece : List ℕ) (fault : FeedFault) (old new : SessionData)
      (before after : Committer D g) (limit left : Limit) : Type 0 where
    pub arrival : Arrival
    pub held : IsHeldBack k piece fault.taken arrival old new
    pub enters : Enters arrival before after (Err fault.error)
    pub unspent : left ≡ limit

  abbrev pub IsFront : ℕ → List ℕ → SessionData → SessionData → Committer D g → Committer D g → Limit → Limit
      → Result Front FeedFault → Type 0
  IsFront k piece old new before after limit left (Ok front.Part) = IsPart piece old new before after limit left
  IsFront k piece old new before after limit left (Ok (front.Request taken)) =
      IsWholeFeed k piece taken old new before after limit left
  IsFront k piece old new before after limit left (Ok front.Last) = IsLast k piece old new before after limit left
  IsFront k piece old new before after limit left (Ok (front.Withheld taken)) =
      IsWithheld k piece taken old new before after limit left
  IsFront k piece old new before after limit left (Err fault) =
      IsUntaken k piece fault old new before after limit left

  -- ---- a whole piece

  -- all arrivals in the piece have entered
  pub record IsFedWhole (k : ℕ) (piece : List ℕ) (old new : SessionData) (before after : Committer D g) : Type 0 where
    pub session : new ≡ with_piece piece old
    pub run : Run (arrivals_by_piece k piece old) before after

  -- A prefix of the piece was taken, and all arrivals in it have entered. The next byte completes an arrival that was
  -- refused.
  pub record IsFedInPart (k : ℕ) (piece : List ℕ) (fault : FeedFault) (old new : SessionData)
      (before after : Committer D g) : Type 0 where
    pub within : fault.taken < length piece
    pub session : new ≡ with_piece (take fault.taken piece) old
    pub mid : Committer D g
    pub entered : HaveEntered (arrivals_by_piece k (take fault.taken piece) old) before mid
    pub arrival : Arrival
    pub next : arrivals_by_piece k (take (1 + fault.taken) piece) old
        ≡ arrivals_by_piece k (take fault.taken piece) old ++ arrival ∷ []
    pub end : IsRequestEnd arrival mid after (Err fault.error)
    pub not_broken : fault.error ≢ Broken
    pub refused : IsRefusedAfter (arrivals_by_piece k (take fault.taken piece) old) fault.error before after

  abbrev pub IsFed : ℕ → List ℕ → SessionData → SessionData → Committer D g → Committer D g
      → Result (Unit {0}) FeedFault → Type 0
  IsFed k piece old new before after (Ok done) = IsFedWhole k piece old new before after
  IsFed k piece old new before after (Err fault) = IsFedInPart k piece fault old new before after

  -- ---- a piece under a limit

  -- A prefix of the piece was taken, each of its arrivals within what those before it had left of the limit. It is the
  -- whole piece, unless the limit doesn't admit the next arrival.
  pub record IsFedUpTo (k : ℕ) (piece : List ℕ) (taken : ℕ) (old new : SessionData) (before after : Committer D g)
      (limit left : Limit) : Type 0 where
    pub within : taken ≤ length piece
    pub whole : IsFedWhole k (take taken piece) old new before after
    pub spent : AreAdmitted (arrivals_by_piece k (take taken piece) old) limit left
    pub stops : taken < length piece → StopsBefore k piece taken old left

  -- the same up to an arrival that was refused
  pub record IsFedUpToRefusal (k : ℕ) (piece : List ℕ) (fault : FeedFault) (old new : SessionData)
      (before after : Committer D g) (limit left : Limit) : Type 0 where
    pub part : IsFedInPart k piece fault old new before after
    pub spent : AreAdmitted (arrivals_by_piece k (take fault.taken piece) old) limit left

  abbrev pub IsFedWithin : ℕ → List ℕ → SessionData → SessionData → Committer D g → Committer D g → Limit → Limit
      → Result ℕ FeedFault → Type 0
  IsFedWithin k piece old new before after limit left (Ok taken) =
      IsFedUpTo k piece taken old new before after limit left
  IsFedWithin k piece old new before after limit left (Err fault) =
      IsFedUpToRefusal k piece fault old new before after limit left
