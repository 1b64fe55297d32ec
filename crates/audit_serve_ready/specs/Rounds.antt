-- Rounds of serving: a pass over the clients that are there, goings, comings, and a pause; and what the door was told
-- and said in them.
use Rattle.std.specs.Prelude.{◌≡◌, ◌≢◌, ◌⊎◌, ℕ, zero, suc, ◌-◌, ◌^◌, ◌<◌, ◌≤◌, Bool, true, false, not, ◌&&◌}
use Rattle.std.specs.Prelude.{if◌then◌else◌, Option, Some, None, List, [], ◌∷◌, ◌++◌, length}
use Rattle.audit_serve_passes.specs.Steps.{StepData, a_flush}
use Rattle.audit_serve_passes.specs.Streams.{StreamCall, CallModel}
use Rattle.audit_serve_passes.specs.Core.{CoreModel, no_bytes}
use Rattle.audit_serve_ready.specs.declared.departure.Departure.TheVariants.{Memory}
use Rattle.audit_serve_ready.specs.declared.note.Note.TheVariants.{Dismissed}
use Rattle.audit_serve_ready.specs.declared.newcomer.Newcomer.{Newcomer}
use Rattle.audit_serve_ready.specs.declared.next.Next.{Next}
use Rattle.audit_serve_ready.specs.declared.next.Next.TheVariants as next
use Rattle.audit_serve_ready.specs.Door.{DoorCall, a_judging, an_asking, a_release, a_parting, an_offer, a_pause}
use Rattle.audit_serve_ready.specs.Door.{DoorModel, joined_below}
use Rattle.audit_serve_ready.specs.Slot.{SlotData, client_of, has_client, has_kept, is_shut, closed}
use Rattle.audit_serve_ready.specs.Slot.{noted_of, departure_for, IsAskedForBytes, IsOffered}
use Rattle.audit_serve_ready.specs.Places.{slot_at, has_last_read, OffersKept, WritesPlaces}
use Rattle.audit_serve_ready.specs.Backlog.{TakesTurn, TakesUp}
use Rattle.audit_serve_ready.specs.Reading.{HasAskedMost, ReadsPlaces}
use Rattle.audit_serve_ready.specs.Clients.{ClientChange, a_coming, a_refusal, a_going, next_first}
use Rattle.audit_serve_ready.specs.Clients.{IsClientPass, AreChanges}

-- ---- the door's words

-- The door judged the client of a place, if there is one, which is to be dropped if the door said so.
abbrev pub IsJudgedByDoor : {S : Type 0} → ℕ → Option S → List (DoorCall S) → SlotData S → SlotData S → Type 0
IsJudgedByDoor k None told slot now = (told ≡ []) × (now ≡ slot)
IsJudgedByDoor k (Some client) told slot now =
    (said : Bool) × (told ≡ a_judging k client said ∷ []) × (now ≡ (if said then closed Dismissed slot else slot))

abbrev pub IsAsking : {S : Type 0} → DoorCall S → Type 0
IsAsking (an_asking found answer) = Unit {0}
IsAsking _ = ⊥

abbrev pub AreAskings : {S : Type 0} → List (DoorCall S) → Type 0
AreAskings [] = Unit {0}
AreAskings (call ∷ calls) = IsAsking call × AreAskings calls

-- the door was asked some times whether clients are asked again
pub record AsksDoor {D S : Type 0} (E : DoorModel D S) (was now : D) : Type 0 where
  pub told : List (DoorCall S)
  pub are : AreAskings told
  pub did : E.DidCalls was now told

-- what became of an offer: nobody came, or whoever came was let in, or was handed back for want of memory
pub data IsOfferAnswered {S : Type 0} (k : ℕ) : List (DoorCall S) → List (ClientChange S) → Type 0 where
  nobody : IsOfferAnswered k (an_offer k None ∷ []) []
  let_in : (client : Newcomer S) → IsOfferAnswered k (an_offer k (Some client) ∷ []) (a_coming k client ∷ [])
  turned_away : (client : Newcomer S)
      → IsOfferAnswered k (an_offer k (Some client) ∷ a_parting k client.stream Memory ∷ []) (a_refusal k client ∷ [])

-- somebody who came to a place below a number was turned away
abbrev pub HasTurnedAway : {S : Type 0} → ℕ → (ℕ → List (ClientChange S)) → Type 0
HasTurnedAway {S} count changes = (k : ℕ) × (k < count) × (client : Newcomer S) × (changes k ≡ a_refusal k client ∷ [])

module _ {C S : Type 0} (M : CoreModel C) where
  -- The client of a place is to go: its session has ended, and nothing is kept for it.
  abbrev pub is_done : ℕ → C → SlotData S → Bool
  is_done k core slot = M.ended core [] k && (has_client slot && not (has_kept slot))

  -- A client may come to a place: it is vacant, and its session has ended.
  abbrev pub is_free : ℕ → C → SlotData S → Bool
  is_free k core slot = M.ended core [] k && not (has_client slot)

  -- A client went and was handed back to the door, which was told the reason; or it isn't to go.
  abbrev pub IsLetGo : ℕ → C → SlotData S → List (DoorCall S) → List (ClientChange S) → Type 0
  IsLetGo k core slot told changes =
      ((is_done k core slot ≡ false) × (told ≡ []) × (changes ≡ []))
      ⊎ ((client : S) × (is_done k core slot ≡ true) × (client_of slot ≡ Some client)
      × (told ≡ a_parting k client (departure_for (M.cut_off core k) (noted_of slot)) ∷ [])
      × (changes ≡ a_going k ∷ []))

  -- A place that is free was offered.
  abbrev pub IsLetIn : ℕ → C → SlotData S → List (DoorCall S) → List (ClientChange S) → Type 0
  IsLetIn k core slot told changes =
      ((is_free k core slot ≡ false) × (told ≡ []) × (changes ≡ []))
      ⊎ ((is_free k core slot ≡ true) × IsOfferAnswered k told changes)

-- ---- serving

-- who has the first turn after this many rounds
abbrev pub first_after_rounds : ℕ → ℕ
first_after_rounds zero = 0
first_after_rounds (suc rounds) = next_first (first_after_rounds rounds)

module _ {D S : Type 0} (E : DoorModel D S) where
  -- The door judged each client at the places below a number, in rising order, and those that it dismissed are to be
  -- dropped. The other places are as they were.
  pub record JudgesClients (count : ℕ) (was now : D) (before after : List (SlotData S)) : Type 0 where
    pub same : length after ≡ length before
    pub told : ℕ → List (DoorCall S)
    pub did : E.DidCalls was now (joined_below count told)
    pub at : (k : ℕ) → k < count
        → IsJudgedByDoor k (client_of (slot_at k before)) (told k) (slot_at k before) (slot_at k after)
    pub others : (k : ℕ) → count ≤ k → slot_at k after ≡ slot_at k before

module _ {D S : Type 0} (N : CallModel S) (E : DoorModel D S) where
  -- Some times in a row what is kept was offered, and after each of them the door said in a pause to go on.
  abbrev pub OffersOn : ℕ → D → D → List (SlotData S) → List (SlotData S) → Type 0
  OffersOn zero was now before after = (now ≡ was) × (after ≡ before)
  OffersOn (suc times) was now before after = (mid : D) × (between : List (SlotData S)) × (moved : Bool)
      × OffersOn times was mid before between × OffersKept N between after
      × E.DidCalls mid now (a_pause moved next.Again ∷ [])

  -- Then it was offered once more, after which nothing was kept, or the door said to stop; or it had been offered
  -- 2 ^ 64 - 1 times, the limit of a loop.
  abbrev pub EndsOffering : ℕ → D → D → List (SlotData S) → List (SlotData S) → Type 0
  EndsOffering times was now before after =
      (OffersKept N before after × (now ≡ was) × ((k : ℕ) → k < length before → has_kept (slot_at k after) ≡ false))
      ⊎ ((moved : Bool) × OffersKept N before after × E.DidCalls was now (a_pause moved next.Stop ∷ []))
      ⊎ ((times ≡ 2 ^ 64 - 1) × (now ≡ was) × (after ≡ before))

  -- What is kept is written in the end, if the door lets replies leave: until nothing is kept, or the door says to
  -- stop.
  pub record FinishesWriting (was begun now : D) (before after : List (SlotData S)) : Type 0 where
    pub times : ℕ
    pub mid : D
    pub between : List (SlotData S)
    pub released : E.DidCalls was begun (a_release true ∷ [])
    pub on : OffersOn times begun mid before between
    pub ends : EndsOffering times mid now between after

  abbrev pub IsWritten : D → D → List (SlotData S) → List (SlotData S) → Type 0
  IsWritten was now before after = (E.DidCalls was now (a_release false ∷ []) × (after ≡ before))
      ⊎ ((begun : D) × FinishesWriting was begun now before after)

module _ {C D S : Type 0} (M : CoreModel C) (N : CallModel S) (E : DoorModel D S) (backlog : ℕ) where
  -- What was done at each place below a number, in rising order, and what the door was told and said of it.
  pub record ChangesPlaces (At : ℕ → C → SlotData S → List (DoorCall S) → List (ClientChange S) → Type 0)
      (count first : ℕ) (was now : D) (old new : C) (before after : List (SlotData S)) : Type 0 where
    pub told : ℕ → List (DoorCall S)
    pub changes : ℕ → List (ClientChange S)
    pub did : E.DidCalls was now (joined_below count told)
    pub are : AreChanges M N backlog first (joined_below count changes) old new before after
    pub at : (k : ℕ) → k < count → At k old (slot_at k before) (told k) (changes k)

  -- What waits for the sessions was taken, kept and offered to their clients; or nothing was.
  abbrev pub IsWriting : Bool → Bool → C → C → (ℕ → List ℕ) → (ℕ → List StreamCall) → List (SlotData S)
      → List (SlotData S) → Type 0
  IsWriting true moved old new taken calls before after =
      WritesPlaces N (M.DidSteps old new) moved (length before) taken calls before after
  IsWriting false moved old new taken calls before after = (new ≡ old) × (after ≡ before)
      × ((k : ℕ) → (taken k ≡ []) × (calls k ≡ []))

  -- A pass: the door judged the clients, what they sent was read, the core flushed, and replies left if the door let
  -- them.
  pub record ServesPass (leaves : Bool) (first : ℕ) (was now : D) (old new : C)
      (before after : List (SlotData S)) : Type 0 where
    pub heard : D
    pub judged : List (SlotData S)
    pub judges : JudgesClients E (length before) was heard before judged
    pub gathered : D
    pub asks : AsksDoor E heard gathered
    pub turns : List StepData
    pub reads : ℕ → List StreamCall
    pub mid : C
    pub between : List (SlotData S)
    pub was_read : Bool
    pub reading : ReadsPlaces M N backlog was_read turns reads old mid judged between
    pub flushed : C
    pub flush : M.DidSteps mid flushed (a_flush ∷ []) no_bytes
    pub released : E.DidCalls gathered now (a_release leaves ∷ [])
    pub taken : ℕ → List ℕ
    pub writes : ℕ → List StreamCall
    pub was_written : Bool
    pub writing : IsWriting leaves was_written flushed new taken writes between after
    -- all of it together
    pub pass : IsClientPass M N backlog first (turns ++ a_flush ∷ []) taken (λ k. reads k ++ writes k) old new
        before after

  -- What a pass does for a session that is live, and for its client: its place is shut, and it was ended; or the client
  -- was asked for bytes, unless some were unread. It was ended if its stream is over. It took all of its bytes, up to a
  -- request that has to wait. What it and all others had asked by then was answered, and what is kept for the client
  -- after the pass was offered to it. If it had the first turn, it took a request, if one was waiting.
  pub record IsHeard (k first : ℕ) (turns : List StepData) (judged : SlotData S) (reads writes : List StreamCall)
      (old new : C) (before after : SlotData S) : Type 0 where
    pub asked : ((is_shut judged ≡ true) × (M.ended new [] k ≡ true)) ⊎ IsAskedForBytes reads judged
    pub over : has_last_read reads ≡ true → M.ended new [] k ≡ true
    pub taken : is_shut judged ≡ false → TakesUp M backlog (HasAskedMost M old turns) k reads old judged after
    pub answered : M.Idle new
    pub offered : IsOffered writes after
    pub turn : first ≡ k → TakesTurn M backlog k old before after

  -- A pass; then whoever is done goes, and each place that is free is offered to whoever comes next.
  pub record ServesPlacesOnce (first : ℕ) (was now : D) (old new : C) (before after : List (SlotData S)) : Type 0 where
    pub mid : C
    pub present : List (SlotData S)
    pub left : List (SlotData S)
    pub passed : D
    pub parted : D
    pub pass : ServesPass true first was passed old mid before present
    pub goes : ChangesPlaces (IsLetGo M) (length present) (next_first first) passed parted mid mid present left
    pub none_done : (k : ℕ) → k < length left → is_done M k mid (slot_at k left) ≡ false
    pub comes : ChangesPlaces (IsLetIn M) (length left) (next_first first) parted now mid new left after

  -- nothing moved: no byte was taken or written, no session was ended, and nobody went, came or was turned away
  abbrev pub IsStill : {first : ℕ} {was now : D} {old new : C} {before after : List (SlotData S)}
      → ServesPlacesOnce first was now old new before after → Type 0
  IsStill {after = after} serves = (serves.pass.was_read ≡ false) × (serves.pass.was_written ≡ false)
      × (serves.left ≡ serves.present) × (after ≡ serves.left)
      × (HasTurnedAway (length serves.left) serves.comes.changes → ⊥)

  -- Something moved: bytes were taken, a session was ended, bytes were written, a write failed, or somebody went, came,
  -- or was turned away.
  abbrev pub IsMoving : {first : ℕ} {was now : D} {old new : C} {before after : List (SlotData S)}
      → ServesPlacesOnce first was now old new before after → Type 0
  IsMoving {after = after} serves = ((serves.pass.was_read ≡ true) ⊎ (serves.pass.was_written ≡ true))
      ⊎ ((serves.left ≢ serves.present)
      ⊎ ((after ≢ serves.left) ⊎ HasTurnedAway (length serves.left) serves.comes.changes))

  -- A round: the same, and then a pause with this answer, which is told whether something moved, and may wait only if
  -- nothing did.
  pub record IsRound (answer : Next) (first : ℕ) (was now : D) (old new : C) (before after : List (SlotData S))
      : Type 0 where
    pub unpaused : D
    pub serves : ServesPlacesOnce first was unpaused old new before after
    pub moved : Bool
    pub idle : moved ≡ false → IsStill serves
    pub moves : moved ≡ true → IsMoving serves
    pub paused : E.DidCalls unpaused now (a_pause moved answer ∷ [])

  -- this many rounds, after each of which the door said to go on
  abbrev pub AreRounds : ℕ → D → D → C → C → List (SlotData S) → List (SlotData S) → Type 0
  AreRounds zero was now old new before after = (now ≡ was) × (new ≡ old) × (after ≡ before)
  AreRounds (suc rounds) was now old new before after = (door : D) × (core : C) × (places : List (SlotData S))
      × AreRounds rounds was door old core before places
      × IsRound next.Again (first_after_rounds rounds) door now core new places after

  -- Serving ended: by a round after which the door said to stop, by a pass whose replies it didn't let leave, or after
  -- 2 ^ 64 - 1 rounds, the limit of a loop.
  abbrev pub EndsServing : ℕ → D → D → C → C → List (SlotData S) → List (SlotData S) → Type 0
  EndsServing rounds was now old new before after =
      IsRound next.Stop (first_after_rounds rounds) was now old new before after
      ⊎ ServesPass false (first_after_rounds rounds) was now old new before after
      ⊎ ((rounds ≡ 2 ^ 64 - 1) × (now ≡ was) × (new ≡ old) × (after ≡ before))

  -- Clients were served in rounds until the door said to stop, or let no replies leave.
  pub record ServesUntilStopped (was now : D) (old new : C) (before after : List (SlotData S)) : Type 0 where
    pub rounds : ℕ
    pub door : D
    pub core : C
    pub places : List (SlotData S)
    pub are : AreRounds rounds was door old core before places
    pub ends : EndsServing rounds door now core new places after

-- ---- after a refusal

module _ {C D S : Type 0} (M : CoreModel C) (N : CallModel S) (E : DoorModel D S) where
  -- What waited was answered: the core flushed, and replies left if the door let them. Then what was kept was written,
  -- if the door let it.
  pub record AnswersWaiting (was now : D) (old new : C) (before after : List (SlotData S)) : Type 0 where
    pub flushed : C
    pub flush : M.DidSteps old flushed (a_flush ∷ []) no_bytes
    pub leaves : Bool
    pub begun : D
    pub released : E.DidCalls was begun (a_release leaves ∷ [])
    pub taken : ℕ → List ℕ
    pub writes : ℕ → List StreamCall
    pub was_written : Bool
    pub between : List (SlotData S)
    pub writing : IsWriting M N E 0 leaves was_written flushed new taken writes before between
    pub written : IsWritten N E begun now between after
