-- What is kept for clients and owed to their sessions stays within its bound.
use Rattle.std.proofs.Common.{◌≡◌, ℕ, zero, suc, ◌+◌, ◌<◌, ◌≤◌, max, Bool, true, false, List, [], ◌∷◌, ◌++◌, length, set, get_or, replicate, refl, sym, ap, subst, ◌∙◌, arith, inl, inr, ◌⊎◌, true≢false}
use Rattle.std.proofs.lemmas.Bool.{cases_eq}
use Rattle.std.proofs.lemmas.List.{length-set, length-append, get_or-set_same, get_or-set_other}
use Rattle.audit_serve_passes.specs.Steps.{StepData, a_flush}
use Rattle.audit_serve_passes.specs.Streams.{StreamCall, CallModel, bytes_sent}
use Rattle.audit_serve_passes.specs.declared.rights.Rights.{Rights}
use Rattle.audit_serve_passes.specs.Core.{CoreModel, no_bytes}
use Rattle.audit_serve_passes.proofs.Transitions.{in_any}
use Rattle.audit_serve_passes.specs.declared.allowance.Share.{Share}
use Rattle.audit_serve_passes.specs.Owing.{GrowsWithin, OwesWithin, OwesAtEnd, OwesOthersNoMore, OwesNoMore}
use Rattle.audit_serve_ready.specs.Slot.{SlotData, vacant, serving, unheard, closing, kept_of, unread_of, is_mute, with_unread, HasLooked, IsAccounted}
use Rattle.audit_serve_ready.specs.Places.{slot_at}
use Rattle.audit_serve_ready.specs.Backlog.{OwesNothing, OwesOnlyAfterTurns, KeepsTurns, most_due, IsWithinBacklog, AreWithinBacklog, IsTurnWithin, MayAsk, HasTakenRequest, TakesTurn}

-- what is kept grows by at most what is sent
pub accounted_length : {S : Type 0} (N : CallModel S) (sent : List ℕ) (calls : List StreamCall) (before after : SlotData S) → IsAccounted N sent calls before after → length (kept_of after) ≤ length (kept_of before) + length sent
accounted_length N sent calls before after accounted =
    omega (arith, ap length accounted.written, length-append (kept_of before) sent, length-append (bytes_sent calls) (kept_of after ++ accounted.dropped), length-append (kept_of after) accounted.dropped)

-- a look keeps nothing more
pub looked_length : {S : Type 0} (N : CallModel S) (calls : List StreamCall) (before after : SlotData S) → HasLooked N before after calls → length (kept_of after) ≤ length (kept_of before)
looked_length N calls before after look = omega (arith, accounted_length N [] calls before after look.accounted)

-- a place with other bytes unread has the same kept
pub unread_length : {S : Type 0} (bytes : List ℕ) (slot : SlotData S) → length (kept_of (with_unread bytes slot)) ≤ length (kept_of slot)
unread_length bytes vacant = omega arith
unread_length bytes (serving client unread kept noted) = omega arith
unread_length bytes (unheard client unread noted) = omega arith
unread_length bytes (closing client unread noted) = omega arith

-- whoever had a turn keeps it while another has one
pub keeps_set : {S : Type 0} (k : ℕ) (had : List Bool) (mark : Bool) (slots : List (SlotData S)) (after : SlotData S) → get_or had k true ≡ false → KeepsTurns had (set had k mark) slots (set slots k after)
keeps_set k had mark slots after due = λ other turn. elim (cases_eq other k) [
  | inl same ↦ absurd (true≢false (sym turn ∙ ap (λ (j : ℕ). get_or had j true) same ∙ due))
  | inr apart ↦ (get_or-set_other had k other mark true apart ∙ turn, get_or-set_other slots k other after vacant apart)
]

pub keeps_then : {S : Type 0} (one two three : List Bool) (before between after : List (SlotData S)) → KeepsTurns one two before between → KeepsTurns two three between after → KeepsTurns one three before after
keeps_then one two three before between after first second = λ k had. ((second k (first k had).0).0, (second k (first k had).0).1 ∙ (first k had).1)

-- ---- what other places keep while one changes

pub closed_or : {S : Type 0} (k other : ℕ) (before slots : List (SlotData S)) (after : SlotData S) → k < length slots → is_mute after ≡ true → (slot_at other slots ≡ slot_at other before) ⊎ (is_mute (slot_at other slots) ≡ true)
    → (slot_at other (set slots k after) ≡ slot_at other before) ⊎ (is_mute (slot_at other (set slots k after)) ≡ true)
closed_or k other before slots after within mute were = elim (cases_eq other k) [
  | inl same ↦ inr (ap (λ (j : ℕ). is_mute (slot_at j (set slots k after))) same ∙ ap is_mute (get_or-set_same slots k after vacant within) ∙ mute)
  | inr apart ↦ subst (λ slot. (slot ≡ slot_at other before) ⊎ (is_mute slot ≡ true)) (sym (get_or-set_other slots k other after vacant apart)) were
]

pub unread_set : {S : Type 0} (k other : ℕ) (slots : List (SlotData S)) (at after : SlotData S) → k < length slots → unread_of after ≡ unread_of (get_or slots k at) → unread_of (slot_at other (set slots k after)) ≡ unread_of (slot_at other slots)
unread_set k other slots at after within same = elim (cases_eq other k) [
  | inl here ↦ ap (λ (j : ℕ). unread_of (slot_at j (set slots k after))) here ∙ ap unread_of (get_or-set_same slots k after vacant within) ∙ same ∙ sym (ap unread_of (in_any slots k vacant at within)) ∙ sym (ap (λ (j : ℕ). unread_of (slot_at j slots)) here)
  | inr apart ↦ ap unread_of (get_or-set_other slots k other after vacant apart)
]

pub mute_set : {S : Type 0} (k other : ℕ) (slots : List (SlotData S)) (at after : SlotData S) → k < length slots → (is_mute (get_or slots k at) ≡ true → is_mute after ≡ true) → is_mute (slot_at other slots) ≡ true → is_mute (slot_at other (set slots k after)) ≡ true
mute_set k other slots at after within stays mute = elim (cases_eq other k) [
  | inl here ↦ ap (λ (j : ℕ). is_mute (slot_at j (set slots k after))) here ∙ ap is_mute (get_or-set_same slots k after vacant within) ∙ stays (sym (ap is_mute (in_any slots k vacant at within)) ∙ sym (ap (λ (j : ℕ). is_mute (slot_at j slots)) here) ∙ mute)
  | inr apart ↦ ap is_mute (get_or-set_other slots k other after vacant apart) ∙ mute
]

-- nobody has had a turn
pub unmarked : (count k : ℕ) → k < count → get_or (replicate count false) k true ≡ false
unmarked zero k below = absurd (omega (arith, below))
unmarked (suc count) zero below = refl
unmarked (suc count) (suc k) below = unmarked count k (omega (arith, below))

-- a mark that was set
set_true : (marks : List Bool) (k : ℕ) → get_or (set marks k true) k true ≡ true
set_true [] k = refl
set_true (first ∷ marks) zero = refl
set_true (first ∷ marks) (suc k) = set_true marks k

pub mark_set : (k : ℕ) (had : List Bool) (mark : Bool) → (mark ≡ false → ⊥) → get_or (set had k mark) k true ≡ true
mark_set k had true never = set_true had k
mark_set k had false never = absurd (never refl)

-- a mark that isn't set was set to false
unset : (marks : List Bool) (k : ℕ) (mark : Bool) → get_or (set marks k mark) k true ≡ false → mark ≡ false
unset [] k mark is = absurd (true≢false is)
unset (first ∷ marks) zero mark is = is
unset (first ∷ marks) (suc k) mark is = unset marks k mark is

module _ {C : Type 0} (M : CoreModel C) where
  -- a session that is marked unless nothing was done for it
  pub marked : (count k : ℕ) (marks : List Bool) (mark : Bool) (old new : C) → OwesOnlyAfterTurns M count marks old → OwesOthersNoMore M k old new → k < count → get_or marks k true ≡ false → (mark ≡ false → new ≡ old) → OwesOnlyAfterTurns M count (set marks k mark) new
  marked count k marks mark old new were others below due same = λ other inside is. elim (cases_eq other k) [
    | inl here ↦ ap (M.owed new) here ∙ ap (λ (core : C). M.owed core k) (same (unset marks k mark (subst (λ (j : ℕ). get_or (set marks k mark) j true ≡ false) here is))) ∙ were k below due
    | inr apart ↦ omega (arith, others other apart, were other inside (sym (get_or-set_other marks k other mark true apart) ∙ is))
  ]

  -- a session that has ended stays so
  pub ended_still : (old new : C) (steps : List StepData) (taken : ℕ → List ℕ) (k : ℕ) → M.DidSteps old new steps taken → M.ended old [] k ≡ true → M.ended new [] k ≡ true
  ended_still old new steps taken k did ended = M.ended_by_steps old new steps [] taken k did ∙ M.ended_stays old [] (steps ++ []) k ended

  -- nothing waits to be answered, and the outputs are the same
  owes_same : (k : ℕ) (old new : C) → M.Idle old → M.Idle new → M.output new k ≡ M.output old k → M.owed new k ≤ M.owed old k
  owes_same k old new idle still same = omega (arith, M.owed_idle old k idle, M.owed_idle new k still, ap length same)

  -- of as many places
  pub owes_as_many : (count of : ℕ) (marks : List Bool) (core : C) → count ≡ of → OwesOnlyAfterTurns M of marks core → OwesOnlyAfterTurns M count marks core
  owes_as_many count of marks core same owes = subst (λ (n : ℕ). OwesOnlyAfterTurns M n marks core) (sym same) owes

module _ {C S : Type 0} (M : CoreModel C) (backlog : ℕ) where
  pub as_many : (count of : ℕ) (marks : List Bool) (core : C) (slots : List (SlotData S)) → count ≡ of → OwesOnlyAfterTurns M count marks core × AreWithinBacklog M backlog core slots → OwesOnlyAfterTurns M of marks core × AreWithinBacklog M backlog core slots
  as_many count of marks core slots same both = (subst (λ (n : ℕ). OwesOnlyAfterTurns M n marks core) same both.0, both.1)

  -- less is kept or owed
  pub within_less : (k : ℕ) (old new : C) (before after : SlotData S) → length (kept_of after) + M.owed new k ≤ length (kept_of before) + M.owed old k → (M.ended old [] k ≡ true → M.ended new [] k ≡ true) → IsWithinBacklog M backlog k old before → IsWithinBacklog M backlog k new after
  within_less k old new before after less still (inl within) = inl (omega (arith, less, within))
  within_less k old new before after less still (inr (ended, within)) = inr (still ended, omega (arith, less, within))

  live_within : (k : ℕ) (core : C) (slot : SlotData S) → M.ended core [] k ≡ false → IsWithinBacklog M backlog k core slot → length (kept_of slot) + M.owed core k ≤ most_due M backlog
  live_within k core slot live (inl within) = within
  live_within k core slot live (inr (ended, within)) = absurd (true≢false (sym ended ∙ live))

  -- ---- the turn of one session

  -- the core did nothing, and no more is kept
  pub turn_idle : (k : ℕ) (core : C) (before after : SlotData S) → length (kept_of after) ≤ length (kept_of before) → IsTurnWithin M backlog k core core before after
  turn_idle k core before after less = record {
    others = λ other apart. omega arith;
    ended = λ other ended. ended;
    within = λ live none within. within_less k core core before after (omega (arith, less)) (λ ended. ended) within;
  }

  -- it was ended
  pub turn_ended : (k : ℕ) (old new : C) (before after : SlotData S) (steps : List StepData) (taken : ℕ → List ℕ) → length (kept_of after) ≤ length (kept_of before) → M.DidSteps old new steps taken → M.ended new [] k ≡ true → OwesAtEnd M k old new
      → IsTurnWithin M backlog k old new before after
  turn_ended k old new before after steps taken less did over owes = record {
    others = owes.others;
    ended = λ other ended. ended_still M old new steps taken other did ended;
    within = λ live none within. inr (over, omega (arith, less, owes.own, live_within k old before live within));
  }

  grown : (k : ℕ) (share : Share) (old new : C) (before after : SlotData S) → length (kept_of after) ≤ length (kept_of before) → length (kept_of before) + share.left ≤ max backlog (length (kept_of before)) → (share.is_whole ≡ true → kept_of before ≡ []) → M.owed old k ≡ 0
      → length (kept_of before) + M.owed old k ≤ most_due M backlog → GrowsWithin share M.longest (M.owed old k) (M.owed new k) → length (kept_of after) + M.owed new k ≤ most_due M backlog
  grown k share old new before after less left whole none within (inl own) = omega (arith, less, left, none, within, own)
  grown k share old new before after less left whole none within (inr (is, own)) = omega (arith, less, ap length (whole is), none, within, own)

  -- bytes were taken within its share
  pub turn_taken : (k : ℕ) (share : Share) (old new : C) (before after : SlotData S) (steps : List StepData) (taken : ℕ → List ℕ) → length (kept_of after) ≤ length (kept_of before) → length (kept_of before) + share.left ≤ max backlog (length (kept_of before))
      → (share.is_whole ≡ true → kept_of before ≡ []) → M.DidSteps old new steps taken → OwesWithin M k share old new → IsTurnWithin M backlog k old new before after
  turn_taken k share old new before after steps taken less left whole did owes = record {
    others = owes.others;
    ended = λ other ended. ended_still M old new steps taken other did ended;
    within = λ live none within. inl (grown k share old new before after less left whole none (live_within k old before live within) owes.own);
  }

  -- a look first
  pub turn_then : (k : ℕ) (old new : C) (before between after : SlotData S) → length (kept_of between) ≤ length (kept_of before) → IsTurnWithin M backlog k old new between after → IsTurnWithin M backlog k old new before after
  turn_then k old new before between after less turn = record {
    others = turn.others;
    ended = turn.ended;
    within = λ live none within. turn.within live none (within_less k old old before between (omega (arith, less)) (λ ended. ended) within);
  }

  -- ---- one place among the others

  pub within_set : (k : ℕ) (old new : C) (slots : List (SlotData S)) (after : SlotData S) → k < length slots → OwesOthersNoMore M k old new → ((other : ℕ) → M.ended old [] other ≡ true → M.ended new [] other ≡ true)
      → IsWithinBacklog M backlog k new after → AreWithinBacklog M backlog old slots → AreWithinBacklog M backlog new (set slots k after)
  within_set k old new slots after within less still here were = λ other inside. elim (cases_eq other k) [
    | inl same ↦ subst (λ (j : ℕ). IsWithinBacklog M backlog j new (slot_at j (set slots k after))) (sym same) (subst (λ (slot : SlotData S). IsWithinBacklog M backlog k new slot) (sym (get_or-set_same slots k after vacant within)) here)
    | inr apart ↦ subst (λ (slot : SlotData S). IsWithinBacklog M backlog other new slot) (sym (get_or-set_other slots k other after vacant apart))
        (within_less other old new (slot_at other slots) (slot_at other slots) (omega (arith, less other apart)) (still other) (were other (omega (arith, inside, length-set slots k after))))
  ]

  -- the place as the code reads it, whatever stands for a place that isn't there
  pub at_any : (k : ℕ) (core : C) (slots : List (SlotData S)) (at : SlotData S) → k < length slots → AreWithinBacklog M backlog core slots → IsWithinBacklog M backlog k core (get_or slots k at)
  at_any k core slots at within were = subst (λ (slot : SlotData S). IsWithinBacklog M backlog k core slot) (in_any slots k vacant at within) (were k within)

  -- the same places, of a core that owes no more
  pub within_flushed : (old new : C) (slots : List (SlotData S)) (steps : List StepData) (taken : ℕ → List ℕ) → OwesNoMore M old new → M.DidSteps old new steps taken → AreWithinBacklog M backlog old slots → AreWithinBacklog M backlog new slots
  within_flushed old new slots steps taken less did were = λ k inside. within_less k old new (slot_at k slots) (slot_at k slots) (omega (arith, less k)) (ended_still M old new steps taken k did) (were k inside)

  -- what was taken of a session's output is kept, of a core in which nothing waits to be answered
  pub written_within : (k : ℕ) (old new : C) (slots : List (SlotData S)) (at after : SlotData S) → k < length slots → M.Idle old → M.Idle new → length (kept_of after) ≤ length (kept_of (get_or slots k at)) + length (M.output old k) → M.output new k ≡ []
      → ((other : ℕ) → (other ≡ k → ⊥) → M.output new other ≡ M.output old other) → (steps : List StepData) (taken : ℕ → List ℕ) → M.DidSteps old new steps taken → AreWithinBacklog M backlog old slots → AreWithinBacklog M backlog new (set slots k after)
  written_within k old new slots at after within idle still less empty others steps taken did were =
      within_set k old new slots after within (λ other apart. omega (arith, M.owed_idle old other idle, M.owed_idle new other still, ap length (others other apart))) (λ other ended. ended_still M old new steps taken other did ended)
      (within_less k old new (get_or slots k at) after (omega (arith, less, M.owed_idle old k idle, M.owed_idle new k still, ap length empty)) (λ ended. ended_still M old new steps taken k did ended) (at_any k old slots at within were)) were

  -- less is kept at one place, by a core that did nothing
  pub less_within : (k : ℕ) (core : C) (slots : List (SlotData S)) (at after : SlotData S) → k < length slots → length (kept_of after) ≤ length (kept_of (get_or slots k at)) → AreWithinBacklog M backlog core slots → AreWithinBacklog M backlog core (set slots k after)
  less_within k core slots at after within less were =
      within_set k core core slots after within (λ other apart. omega arith) (λ other ended. ended) (within_less k core core (get_or slots k at) after (omega (arith, less)) (λ ended. ended) (at_any k core slots at within were)) were

  -- a flush, and then the turns of writing
  pub written_after : (old mid new : C) (before after : List (SlotData S)) → OwesNoMore M old mid → M.DidSteps old mid (a_flush ∷ []) no_bytes → (AreWithinBacklog M backlog mid before → AreWithinBacklog M backlog new after) → AreWithinBacklog M backlog old before → AreWithinBacklog M backlog new after
  written_after old mid new before after less did written were = written (within_flushed old mid before (a_flush ∷ []) no_bytes less did were)

  -- as many places
  pub owes_in : (slots before : List (SlotData S)) (core : C) → length slots ≡ length before → OwesNothing M (length before) core → OwesNothing M (length slots) core
  owes_in slots before core same nothing = λ k below. nothing k (omega (arith, below, same))

  -- no client came, since memory was refused
  pub refused_within : (old new : C) (slots : List (SlotData S)) → M.Idle old → M.Idle new → ((other : ℕ) → M.output new other ≡ M.output old other) → M.DidSteps old new [] no_bytes → AreWithinBacklog M backlog old slots → AreWithinBacklog M backlog new slots
  refused_within old new slots idle still outputs did were = within_flushed old new slots [] no_bytes (λ k. owes_same M k old new idle still (outputs k)) did were

  -- a client came, for which nothing is kept and to whose session nothing is owed
  pub come_within : (k : ℕ) (rights : Rights) (old new : C) (slots : List (SlotData S)) (after : SlotData S) → k < length slots → M.Idle old → M.Idle new → M.output old k ≡ [] → ((other : ℕ) → M.output new other ≡ M.output old other) → M.Begins k rights old new → kept_of after ≡ []
      → AreWithinBacklog M backlog old slots → AreWithinBacklog M backlog new (set slots k after)
  come_within k rights old new slots after within idle still taken outputs begun none were = λ other inside. elim (cases_eq other k) [
    | inl same ↦ subst (λ (j : ℕ). IsWithinBacklog M backlog j new (slot_at j (set slots k after))) (sym same) (subst (λ (slot : SlotData S). IsWithinBacklog M backlog k new slot) (sym (get_or-set_same slots k after vacant within))
        (inl (omega (arith, ap length none, M.owed_idle new k still, ap length (outputs k), ap length taken))))
    | inr apart ↦ subst (λ (slot : SlotData S). IsWithinBacklog M backlog other new slot) (sym (get_or-set_other slots k other after vacant apart))
        (within_less other old new (slot_at other slots) (slot_at other slots) (omega (arith, owes_same M other old new idle still (outputs other))) (λ ended. M.begun_alone old new k other rights begun apart ∙ ended) (were other (omega (arith, inside, length-set slots k after))))
  ]

  -- what a session took of what was unread at its place, as the code reads the place
  pub asked_there : (k : ℕ) (core : C) (slots : List (SlotData S)) (at after : SlotData S) → k < length slots → HasTakenRequest M backlog k core (get_or slots k at) after → HasTakenRequest M backlog k core (slot_at k slots) (slot_at k (set slots k after))
  asked_there k core slots at after within taken =
      subst (λ (slot : SlotData S). HasTakenRequest M backlog k core slot (slot_at k (set slots k after))) (sym (in_any slots k vacant at within))
      (subst (λ (slot : SlotData S). HasTakenRequest M backlog k core (get_or slots k at) slot) (sym (get_or-set_same slots k after vacant within)) taken)

  -- the session that had its turn keeps what it took while others have theirs
  pub taken_still : (k : ℕ) (core : C) (before : SlotData S) (had now : List Bool) (between after : List (SlotData S)) → KeepsTurns had now between after → HasTakenRequest M backlog k core before (slot_at k between) × (get_or had k true ≡ true)
      → HasTakenRequest M backlog k core before (slot_at k after) × (get_or now k true ≡ true)
  taken_still k core before had now between after kept took =
      let same = kept k took.1 in
      (subst (λ (slot : SlotData S). HasTakenRequest M backlog k core before slot) (sym same.1) took.0, same.0)

  taken_as : (k : ℕ) (core : C) (before gathered after : SlotData S) → unread_of after ≡ unread_of gathered → HasTakenRequest M backlog k core before gathered → HasTakenRequest M backlog k core before after
  taken_as k core before gathered after same (inl none) = inl (same ∙ none)
  taken_as k core before gathered after same (inr (fed, split, some)) = inr (fed, split ∙ ap (λ (rest : List ℕ). fed ++ rest) (sym same), some)

  -- A turn in a pass: a place that was dismissed before it is heard no more, and what is written after it reads nothing.
  pub takes_turn : (k : ℕ) (core : C) (before there gathered after : SlotData S) → (there ≡ before) ⊎ (is_mute there ≡ true) → (is_mute there ≡ true → is_mute after ≡ true) → unread_of after ≡ unread_of gathered → (MayAsk M backlog k core there → HasTakenRequest M backlog k core there gathered)
      → TakesTurn M backlog k core before after
  takes_turn k core before there gathered after dismissed stays same asked may heard = elim dismissed [
    | inl is ↦ taken_as k core before gathered after same (subst (λ (slot : SlotData S). HasTakenRequest M backlog k core slot gathered) is (asked (subst (MayAsk M backlog k core) (sym is) may)))
    | inr mute ↦ absurd (true≢false (sym (stays mute) ∙ heard))
  ]
