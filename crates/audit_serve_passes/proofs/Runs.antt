-- Turns, passes and whole runs.
use Rattle.std.proofs.Common.{◌≡◌, ◌≢◌, ◌⊎◌, ℕ, zero, suc, ◌<◌, ◌≤◌, Bool, true, false, ◌||◌, cond, List, [], ◌∷◌, ◌++◌, length, map, set, get_or, refl, sym, ap, subst, ◌∙◌, arith, inl, inr, true≢false}
use Rattle.std.proofs.lemmas.Bool.{cases_eq, cases_lt}
use Rattle.std.proofs.lemmas.List.{append-nil, map-append}
use Rattle.audit_base.specs.declared.limits.TheConstants.{SESSIONS}
use Rattle.audit_serve_passes.specs.declared.limits.TheConstants.{MAX_TURNS}
use Rattle.audit_serve_passes.specs.Steps.{StepData, a_piece, an_end, a_flush, IsAbout, bytes_fed, ends_in}
use Rattle.audit_serve_passes.specs.Streams.{StreamCall, StreamModel, IsStreamed, has_failed_write, ends_of_calls}
use Rattle.audit_serve_passes.specs.Core.{CoreModel, no_bytes}
use Rattle.audit_serve_passes.specs.Rounds.{live_below, IsVisit, AreVisits, AreClosed, AreEndsOfClosed, IsFlushAndEnds, IsPass, ArePasses}
use Rattle.audit_serve_passes.specs.Transition.{Transition, SessionTransition, CoreTransition, EndsAs, IsOneVisit, AreElsewhere, AreVisitsBelow, AreEndsBelow, IsOutputTaken, AreTaken, IsFlushStep, IsServed, IsCut, AreEndsByCalls, closed_by}
use Rattle.audit_serve_passes.specs.CallLaws.{failed-append}
use Rattle.audit_serve_passes.proofs.Calls.{or_left, or_right, ends_of-append}
use Rattle.audit_serve_passes.proofs.StreamSteps.{elsewhere-append, streamed_none, streamed_on}
use Rattle.audit_serve_passes.proofs.Transitions.{none_of_both, no_calls, goes_nowhere, goes_on, session_goes, ended_elsewhere}

-- ---- the sessions that are live

pub live_same : (count : ℕ) (ended other : ℕ → Bool) → ((k : ℕ) → ended k ≡ other k) → live_below count ended ≡ live_below count other
live_same zero ended other same = refl
live_same (suc k) ended other same =
    ap (λ (front : List ℕ). front ++ cond (ended k) [] (k ∷ [])) (live_same k ended other same)
    ∙ ap (λ (now : Bool). live_below k other ++ cond now [] (k ∷ [])) (same k)

pub live_more : (k : ℕ) (ended : ℕ → Bool) → ended k ≡ false → live_below (suc k) ended ≡ live_below k ended ++ k ∷ []
live_more k ended live = ap (λ (now : Bool). live_below k ended ++ cond now [] (k ∷ [])) live

pub live_skipped : (k : ℕ) (ended : ℕ → Bool) → ended k ≡ true → live_below (suc k) ended ≡ live_below k ended
live_skipped k ended over = ap (λ (now : Bool). live_below k ended ++ cond now [] (k ∷ [])) over ∙ append-nil (live_below k ended)

some_in_front : (xs ys : List ℕ) → xs ≢ [] → xs ++ ys ≢ []
some_in_front [] ys some none = some refl
some_in_front (x ∷ xs) ys some none = cc

some_at_end : (xs : List ℕ) (k : ℕ) → xs ++ k ∷ [] ≢ []
some_at_end [] k none = cc
some_at_end (x ∷ xs) k none = cc

-- one session is live
pub live_found : (count k : ℕ) (ended : ℕ → Bool) → k < count → ended k ≡ false → live_below count ended ≢ []
live_found zero k ended below live none = absurd (omega arith)
live_found (suc count) k ended below live none = elim (cases_eq k count) [
  | inl same ↦ some_at_end (live_below count ended) count (sym (live_more count ended (subst (λ (j : ℕ). ended j ≡ false) same live)) ∙ none)
  | inr apart ↦ some_in_front (live_below count ended) (cond (ended count) [] (count ∷ [])) (live_found count k ended (omega arith) live) none
]

-- ---- turns

turns_more : (sessions : List ℕ) (steps : List StepData) (k : ℕ) (step : StepData) → AreVisits sessions steps → IsVisit k step → AreVisits (sessions ++ k ∷ []) (steps ++ step ∷ [])
turns_more [] [] k step each turn = (turn, tt)
turns_more [] (first ∷ steps) k step each turn = absurd each
turns_more (session ∷ sessions) [] k step each turn = absurd each
turns_more (session ∷ sessions) (first ∷ steps) k step each turn = (each.0, turns_more sessions steps k step each.1 turn)

turn_elsewhere : (k other : ℕ) (step : StepData) → (other ≡ k → ⊥) → IsVisit k step → IsAbout other step → ⊥
turn_elsewhere k other (a_piece session piece) apart turn about = apart (sym about ∙ turn.0)
turn_elsewhere k other (an_end session) apart turn about = apart (sym about ∙ turn)
turn_elsewhere k other a_flush apart turn about = about

pub below_more : (k : ℕ) (ended : ℕ → Bool) (steps last : List StepData) → ended k ≡ false → AreVisitsBelow k ended steps → IsOneVisit k last → AreVisitsBelow (suc k) ended (steps ++ last)
below_more k ended steps last live turns one =
    let step = one.0 in
    subst (λ (more : List StepData). AreVisitsBelow (suc k) ended (steps ++ more)) (sym one.1) (record {
      each = subst (λ (sessions : List ℕ). AreVisits sessions (steps ++ step ∷ [])) (sym (live_more k ended live)) (turns_more (live_below k ended) steps k step turns.each one.2);
      below = λ other above. elsewhere-append other steps (step ∷ []) (turns.below other (omega arith)) (turn_elsewhere k other step (λ same. omega arith) one.2, tt);
    })

below_skipped : (k : ℕ) (ended : ℕ → Bool) (steps : List StepData) → ended k ≡ true → AreVisitsBelow k ended steps → AreVisitsBelow (suc k) ended steps
below_skipped k ended steps over turns = record {
  each = subst (λ (sessions : List ℕ). AreVisits sessions steps) (sym (live_skipped k ended over)) turns.each;
  below = λ other above. turns.below other (omega arith);
}

pub ends_more : (k : ℕ) (ended : ℕ → Bool) (steps : List StepData) → ended k ≡ false → AreEndsBelow k ended steps → AreEndsBelow (suc k) ended (steps ++ an_end k ∷ [])
ends_more k ended steps live ends = record {
  each = ap (λ (front : List StepData). front ++ an_end k ∷ []) ends.each ∙ sym (map-append an_end (live_below k ended) (k ∷ [])) ∙ ap (map an_end) (sym (live_more k ended live));
  below = λ other above. elsewhere-append other steps (an_end k ∷ []) (ends.below other (omega arith)) ((λ same. omega arith), tt);
}

ends_skipped : (k : ℕ) (ended : ℕ → Bool) (steps : List StepData) → ended k ≡ true → AreEndsBelow k ended steps → AreEndsBelow (suc k) ended steps
ends_skipped k ended steps over ends = record {
  each = ends.each ∙ ap (map an_end) (sym (live_skipped k ended over));
  below = λ other above. ends.below other (omega arith);
}

ends_bring_nothing : (k : ℕ) (sessions : List ℕ) → bytes_fed k (map an_end sessions) ≡ []
ends_bring_nothing k [] = refl
ends_bring_nothing k (session ∷ sessions) = ends_bring_nothing k sessions

pub ends_bring : (count : ℕ) (ended : ℕ → Bool) (steps : List StepData) → AreEndsBelow count ended steps → (k : ℕ) → bytes_fed k steps ≡ []
ends_bring count ended steps h k = ap (bytes_fed k) h.each ∙ ends_bring_nothing k (live_below count ended)

-- ---- streams of which a write failed

-- a stream that was closed by the earlier or by the later calls
pub closed_first : (calls later : ℕ → List StreamCall) (k : ℕ) → closed_by calls k ≡ true → closed_by (λ j. calls j ++ later j) k ≡ true
closed_first calls later k is = failed-append (calls k) (later k) ∙ or_left (has_failed_write (calls k)) (has_failed_write (later k)) is

pub closed_later : (calls later : ℕ → List StreamCall) (k : ℕ) → closed_by later k ≡ true → closed_by (λ j. calls j ++ later j) k ≡ true
closed_later calls later k is = failed-append (calls k) (later k) ∙ or_right (has_failed_write (calls k)) (has_failed_write (later k)) is

closed_still : (closed now : ℕ → Bool) → ((k : ℕ) → closed k ≡ true → now k ≡ true) → (sessions : List ℕ) → AreClosed closed sessions → AreClosed now sessions
closed_still closed now still [] each = tt
closed_still closed now still (k ∷ sessions) each = (still k each.0, closed_still closed now still sessions each.1)

closed_and : (closed : ℕ → Bool) (sessions : List ℕ) (k : ℕ) → AreClosed closed sessions → closed k ≡ true → AreClosed closed (sessions ++ k ∷ [])
closed_and closed [] k each also = (also, tt)
closed_and closed (first ∷ sessions) k each also = (each.0, closed_and closed sessions k each.1 also)

pub ends_still : (closed now : ℕ → Bool) → ((k : ℕ) → closed k ≡ true → now k ≡ true) → (steps : List StepData) → AreEndsOfClosed closed steps → AreEndsOfClosed now steps
ends_still closed now still steps h = record { sessions = h.sessions; are = h.are; each = closed_still closed now still h.sessions h.each }

pub flush_still : (closed now : ℕ → Bool) → ((k : ℕ) → closed k ≡ true → now k ≡ true) → (steps : List StepData) → IsFlushAndEnds closed steps → IsFlushAndEnds now steps
flush_still closed now still steps h = record { ends = h.ends; are = h.are; each = ends_still closed now still h.ends h.each }

pub pass_still : (count : ℕ) (ended : ℕ → Bool) (closed now : ℕ → Bool) → ((k : ℕ) → closed k ≡ true → now k ≡ true) → (steps : List StepData) → IsPass count ended closed steps → IsPass count ended now steps
pass_still count ended closed now still steps h = record { turns = h.turns; last = h.last; are = h.are; each = h.each; flush = flush_still closed now still h.last h.flush }

pub passes_still : (count : ℕ) (ended : List StepData → ℕ → Bool) (closed now : ℕ → Bool) → ((k : ℕ) → closed k ≡ true → now k ≡ true) → (turns : ℕ) (steps : List StepData) → ArePasses count ended closed turns steps
    → ArePasses count ended now turns steps
passes_still count ended closed now still zero steps h = h
passes_still count ended closed now still (suc turns) steps (earlier, round, are, before, live, pass) =
    (earlier, round, are, passes_still count ended closed now still turns earlier before, live, pass_still count (ended earlier) closed now still round pass)

-- one more end
pub ends_and : (closed : ℕ → Bool) (steps : List StepData) (k : ℕ) → AreEndsOfClosed closed steps → closed k ≡ true → AreEndsOfClosed closed (steps ++ an_end k ∷ [])
ends_and closed steps k h also = record {
  sessions = h.sessions ++ k ∷ [];
  are = ap (λ (front : List StepData). front ++ an_end k ∷ []) h.are ∙ sym (map-append an_end h.sessions (k ∷ []));
  each = closed_and closed h.sessions k h.each also;
}

pub no_ends_of : (closed : ℕ → Bool) → AreEndsOfClosed closed []
no_ends_of closed = record { sessions = []; are = refl; each = tt }

pub one_flush : (closed : ℕ → Bool) → IsFlushAndEnds closed (a_flush ∷ [])
one_flush closed = record { ends = []; are = refl; each = no_ends_of closed }

module _ {C : Type 0} (M : CoreModel C) where
  -- ---- whether a session has ended, after steps about others

  pub ended_now : (old new : C) (steps : List StepData) (taken : ℕ → List ℕ) (k : ℕ) → M.DidSteps old new steps taken → M.ended new [] k ≡ M.ended old steps k
  ended_now old new steps taken k did = M.ended_by_steps old new steps [] taken k did ∙ ap (λ (all : List StepData). M.ended old all k) (append-nil steps)

  pub ended_still : (old new : C) (steps : List StepData) (taken : ℕ → List ℕ) (k : ℕ) → M.DidSteps old new steps taken → AreElsewhere k steps → M.ended new [] k ≡ M.ended old [] k
  ended_still old new steps taken k did others = ended_now old new steps taken k did ∙ ended_elsewhere M old [] steps k others

  pub live_now : (old new : C) (steps : List StepData) (taken : ℕ → List ℕ) (count : ℕ) → M.DidSteps old new steps taken → live_below count (M.ended new []) ≡ live_below count (M.ended old steps)
  live_now old new steps taken count did = live_same count (M.ended new []) (M.ended old steps) (λ k. ended_now old new steps taken k did)

  -- ---- consecutive ends of sessions

  pub no_ends : (core : C) → CoreTransition M core core (AreEndsBelow 0 (M.ended core []))
  no_ends core = record { steps = []; taken = no_bytes; did = M.nothing_done core; none = λ k. refl; shape = record { each = refl; below = λ k above. tt } }

  pub end_more : (k : ℕ) (old mid new : C) → CoreTransition M old mid (AreEndsBelow k (M.ended old [])) → M.ended mid [] k ≡ false
      → M.DidSteps mid new (an_end k ∷ []) no_bytes → CoreTransition M old new (AreEndsBelow (suc k) (M.ended old []))
  end_more k old mid new first live did = record {
    steps = first.steps ++ an_end k ∷ [];
    taken = λ session. first.taken session ++ no_bytes session;
    did = M.more_done old mid new first.steps (an_end k ∷ []) first.taken no_bytes first.did did;
    none = λ session. none_of_both (first.taken session) [] (first.none session) refl;
    shape = ends_more k (M.ended old []) first.steps (sym (ended_still old mid first.steps first.taken k first.did (first.shape.below k (omega arith))) ∙ live) first.shape;
  }

  pub end_skipped : (k : ℕ) (old mid : C) → CoreTransition M old mid (AreEndsBelow k (M.ended old [])) → M.ended mid [] k ≡ true → CoreTransition M old mid (AreEndsBelow (suc k) (M.ended old []))
  end_skipped k old mid first over = record {
    steps = first.steps;
    taken = first.taken;
    did = first.did;
    none = first.none;
    shape = ends_skipped k (M.ended old []) first.steps (sym (ended_still old mid first.steps first.taken k first.did (first.shape.below k (omega arith))) ∙ over) first.shape;
  }

module _ {C S : Type 0} (M : CoreModel C) (N : StreamModel S) where
  -- ---- consecutive turns of the sessions

  pub turn_more : (k : ℕ) (old mid new : C) (before between : List S) (at after : S) → Transition M N old mid before between (λ calls. AreVisitsBelow k (M.ended old [])) → M.ended mid [] k ≡ false
      → k < length between → SessionTransition M N k mid new (get_or between k at) after (λ calls. IsOneVisit k)
      → Transition M N old new before (set between k after) (λ calls. AreVisitsBelow (suc k) (M.ended old []))
  turn_more k old mid new before between at after first live within turn =
      let second = session_goes k between at after within turn in
      goes_on first second
      λ turns one. below_more k (M.ended old []) first.steps second.steps (sym (ended_still M old mid first.steps first.taken k first.did (turns.below k (omega arith))) ∙ live) turns one

  pub turn_skipped : (k : ℕ) (old mid : C) (before between : List S) → Transition M N old mid before between (λ calls. AreVisitsBelow k (M.ended old [])) → M.ended mid [] k ≡ true
      → Transition M N old mid before between (λ calls. AreVisitsBelow (suc k) (M.ended old []))
  turn_skipped k old mid before between first over = record {
    count = first.count;
    steps = first.steps;
    taken = first.taken;
    calls = first.calls;
    did = first.did;
    others = first.others;
    shape = below_skipped k (M.ended old []) first.steps (sym (ended_still M old mid first.steps first.taken k first.did (first.shape.below k (omega arith))) ∙ over) first.shape;
    streamed = first.streamed;
    ends = first.ends;
  }

  pub no_turns : (core : C) (streams : List S) → Transition M N core core streams streams (λ calls. AreVisitsBelow 0 (M.ended core []))
  no_turns core streams = goes_nowhere core streams (record { each = tt; below = λ k above. tt })

  -- ---- consecutive writes

  pub none_taken : (core : C) (streams : List S) → Transition M N core core streams streams (AreTaken M 0 core core)
  none_taken core streams = goes_nowhere core streams (record { ends = no_ends_of (closed_by no_calls); waiting = omega arith; empty = λ few k within. absurd (omega (arith, within)) })

  -- the output of one more session
  taken_and : (k : ℕ) (old mid new : C) (calls later : ℕ → List StreamCall) (steps more : List StepData) → AreTaken M k old mid calls steps → IsOutputTaken M k mid new later more
      → AreTaken M (suc k) old new (λ j. calls j ++ later j) (steps ++ more)
  taken_and k old mid new calls later steps more taken one = record {
    ends =
        let before = ends_still (closed_by calls) (closed_by (λ j. calls j ++ later j)) (closed_first calls later) steps taken.ends in
        elim one.ends [
          | inl none ↦ subst (λ (all : List StepData). AreEndsOfClosed (closed_by (λ j. calls j ++ later j)) all) (sym (ap (λ (rest : List StepData). steps ++ rest) none ∙ append-nil steps)) before
          | inr end ↦ subst (λ (rest : List StepData). AreEndsOfClosed (closed_by (λ j. calls j ++ later j)) (steps ++ rest)) (sym end.one) (ends_and (closed_by (λ j. calls j ++ later j)) steps k before (closed_later calls later k end.closed))
        ];
    waiting = omega (arith, taken.waiting, one.waiting);
    empty = λ few other below.
        let room : M.waiting mid < SESSIONS = omega (arith, few, taken.waiting) in
        elim (cases_eq other k) [
          | inl same ↦ ap (M.output new) same ∙ one.empty room
          | inr apart ↦ one.others room other apart ∙ taken.empty (omega (arith, few)) other (omega (arith, below, apart))
        ];
  }

  pub take_more : (k : ℕ) (old mid new : C) (before between : List S) (at after : S) → Transition M N old mid before between (AreTaken M k old mid)
      → k < length between → SessionTransition M N k mid new (get_or between k at) after (IsOutputTaken M k mid new)
      → Transition M N old new before (set between k after) (AreTaken M (suc k) old new)
  take_more k old mid new before between at after first within turn =
      let second = session_goes k between at after within turn in
      goes_on first second λ taken one. taken_and k old mid new first.calls second.calls first.steps second.steps taken one

  -- ---- a flush, a pass

  abbrev pub flushed : (old new : C) (streams : List S) → M.DidSteps old new (a_flush ∷ []) no_bytes → Transition M N old new streams streams (λ calls steps. steps ≡ a_flush ∷ [])
  flushed old new streams did = record {
    count = refl;
    steps = a_flush ∷ [];
    taken = no_bytes;
    calls = no_calls;
    did = did;
    others = λ k above. refl;
    shape = refl;
    streamed = λ k none within. streamed_none N k (a_flush ∷ []) (get_or streams k none) refl;
    ends = λ k within. refl;
  }

  pub flush_then : (count : ℕ) (old mid new : C) (before after : List S) → count ≤ SESSIONS → M.DidSteps old mid (a_flush ∷ []) no_bytes → M.Idle mid → Transition M N mid new before after (AreTaken M count mid new)
      → Transition M N old new before after (IsFlushStep M count new)
  flush_then count old mid new before after few did idle taken =
      goes_on (flushed old mid before did) taken λ one rest. record {
        one = record { ends = taken.steps; are = ap (λ (front : List StepData). front ++ taken.steps) one; each = rest.ends };
        empty = rest.empty (omega (arith, few, M.none_waits mid idle));
      }

  pub one_round : (count : ℕ) (old mid new : C) (before between after : List S) → Transition M N old mid before between (λ calls. AreVisitsBelow count (M.ended old []))
      → Transition M N mid new between after (IsFlushStep M count new) → Transition M N old new before after (λ calls. IsPass count (M.ended old []) (closed_by calls))
  one_round count old mid new before between after first second =
      goes_on first second λ turns flush. record {
        turns = first.steps;
        last = second.steps;
        are = refl;
        each = turns.each;
        flush = flush_still (closed_by second.calls) (closed_by (λ k. first.calls k ++ second.calls k)) (closed_later first.calls second.calls) second.steps flush.one;
      }

  -- ---- passes

  pub no_rounds : (count : ℕ) (core : C) (streams : List S) → Transition M N core core streams streams (λ calls. ArePasses count (M.ended core) (closed_by calls) 0)
  no_rounds count core streams = goes_nowhere core streams refl

  -- a pass after the earlier steps
  pub pass_then : (count : ℕ) (old mid : C) (earlier : List StepData) (taken : ℕ → List ℕ) (closed : ℕ → Bool) (steps : List StepData) → M.DidSteps old mid earlier taken → IsPass count (M.ended mid []) closed steps
      → IsPass count (M.ended old earlier) closed steps
  pass_then count old mid earlier taken closed steps did pass = record {
    turns = pass.turns;
    last = pass.last;
    are = pass.are;
    each = subst (λ (sessions : List ℕ). AreVisits sessions pass.turns) (live_now M old mid earlier taken count did) pass.each;
    flush = pass.flush;
  }

  pub round_more : (count turns : ℕ) (old mid new : C) (before between after : List S) → Transition M N old mid before between (λ calls. ArePasses count (M.ended old) (closed_by calls) turns)
      → live_below count (M.ended mid []) ≢ [] → Transition M N mid new between after (λ calls. IsPass count (M.ended mid []) (closed_by calls))
      → Transition M N old new before after (λ calls. ArePasses count (M.ended old) (closed_by calls) (suc turns))
  round_more count turns old mid new before between after first some second =
      goes_on first second λ rounds round. (
        first.steps,
        second.steps,
        refl,
        passes_still count (M.ended old) (closed_by first.calls) (closed_by (λ k. first.calls k ++ second.calls k)) (closed_first first.calls second.calls) turns first.steps rounds,
        (λ none. some (live_now M old mid first.steps first.taken count first.did ∙ none)),
        pass_still count (M.ended old first.steps) (closed_by second.calls) (closed_by (λ k. first.calls k ++ second.calls k)) (closed_later first.calls second.calls) second.steps
            (pass_then count old mid first.steps first.taken (closed_by second.calls) second.steps first.did round),
      )

  -- ---- the end

  pub whole_run : (count turns : ℕ) (old mid new : C) (before between after : List S) → Transition M N old mid before between (λ calls. ArePasses count (M.ended old) (closed_by calls) turns)
      → live_below count (M.ended mid []) ≡ [] → Transition M N mid new between after (IsFlushStep M count new) → Transition M N old new before after (IsServed M count turns old new)
  whole_run count turns old mid new before between after first none second =
      goes_on first second λ rounds last. record {
        run = record {
          rounds = first.steps;
          last = second.steps;
          are = refl;
          each = passes_still count (M.ended old) (closed_by first.calls) (closed_by (λ k. first.calls k ++ second.calls k)) (closed_first first.calls second.calls) turns first.steps rounds;
          all_ended = sym (live_now M old mid first.steps first.taken count first.did) ∙ none;
          flush = flush_still (closed_by second.calls) (closed_by (λ k. first.calls k ++ second.calls k)) (closed_later first.calls second.calls) second.steps last.one;
        };
        empty = last.empty;
      }

  -- steps that feed nothing, followed by others
  pub streamed_after : (k : ℕ) (steps later : List StepData) (lost sent more : List ℕ) (calls : List StreamCall) (before after : S) → bytes_fed k steps ≡ [] → sent ≡ [] → IsStreamed N k later lost more calls before after
      → IsStreamed N k (steps ++ later) lost (sent ++ more) calls before after
  streamed_after k steps later lost sent more calls before after none nothing h =
      subst (λ (front : List ℕ). IsStreamed N k (steps ++ later) lost (front ++ more) calls before after) (sym nothing)
      (streamed_on N k steps later lost [] more [] calls before before after (streamed_none N k steps before none) h)

  -- in the first steps each end is due to a call, whatever calls follow
  pub first_ends : {Shape : (ℕ → List StreamCall) → List StepData → Type 0} (count : ℕ) (old mid : C) (before between : List S) (first : Transition M N old mid before between Shape) (later : ℕ → List StreamCall) → count ≤ length before
      → AreEndsByCalls count (λ k. first.calls k ++ later k) first.steps
  first_ends count old mid before between first later few = λ k below. omega (arith, first.ends k (omega (arith, below, few)), ends_of-append (first.calls k) (later k))

  pub cut_run : (count : ℕ) (old mid over new : C) (before between after : List S) → count ≤ length before → Transition M N old mid before between (λ calls. ArePasses count (M.ended old) (closed_by calls) MAX_TURNS)
      → live_below count (M.ended mid []) ≢ [] → CoreTransition M mid over (AreEndsBelow count (M.ended mid [])) → Transition M N over new between after (IsFlushStep M count new)
      → EndsAs M N old new before after (IsCut M count old new)
  cut_run count old mid over new before between after few first some ends second =
      let same = live_now M old mid first.steps first.taken count first.did in
      let later = M.more_done mid over new ends.steps second.steps ends.taken second.taken ends.did second.did in
      let calls = λ (k : ℕ). first.calls k ++ second.calls k in
      record {
        count = second.count ∙ first.count;
        steps = first.steps ++ (ends.steps ++ second.steps);
        taken = λ session. first.taken session ++ (ends.taken session ++ second.taken session);
        calls = calls;
        did = M.more_done old mid new first.steps (ends.steps ++ second.steps) first.taken (λ session. ends.taken session ++ second.taken session) first.did later;
        others = λ k above. none_of_both (first.taken k) (ends.taken k ++ second.taken k) (first.others k above)
            (none_of_both (ends.taken k) (second.taken k) (ends.none k) (second.others k (omega (arith, above, first.count))));
        shape = record {
          run = record {
            rounds = first.steps;
            last = ends.steps ++ second.steps;
            are = refl;
            each = passes_still count (M.ended old) (closed_by first.calls) (closed_by calls) (closed_first first.calls second.calls) MAX_TURNS first.steps first.shape;
            live = λ none. some (same ∙ none);
            ends = record {
              last = second.steps;
              are = ap (λ (front : List StepData). front ++ second.steps) (ends.shape.each ∙ ap (map an_end) same);
              flush = flush_still (closed_by second.calls) (closed_by calls) (closed_later first.calls second.calls) second.steps second.shape.one;
            };
          };
          ends = first_ends count old mid before between first second.calls few;
          empty = second.shape.empty;
        };
        streamed = λ k none within.
            streamed_on N k first.steps (ends.steps ++ second.steps) [] (first.taken k) (ends.taken k ++ second.taken k) (first.calls k) (second.calls k) (get_or before k none) (get_or between k none) (get_or after k none)
            (first.streamed k none within)
            (streamed_after k ends.steps second.steps [] (ends.taken k) (second.taken k) (second.calls k) (get_or between k none) (get_or after k none) (ends_bring count (M.ended mid []) ends.steps ends.shape k) (ends.none k)
            (second.streamed k none (omega (arith, within, first.count))));
      }

module _ {C : Type 0} (M : CoreModel C) where
  -- if passes below the limit leave no session live, and a session is live, the limit was reached
  pub all_rounds : (count turns : ℕ) (core : C) → turns ≤ MAX_TURNS → (turns < MAX_TURNS → live_below count (M.ended core []) ≡ []) → live_below count (M.ended core []) ≢ [] → turns ≡ MAX_TURNS
  all_rounds count turns core most all some = elim (cases_lt turns MAX_TURNS) [
    | inl fewer ↦ absurd (some (all fewer))
    | inr enough ↦ omega (arith, most, enough)
  ]

  -- the same if it isn't known whether sessions are live
  pub over_rounds : (count turns : ℕ) (core : C) → turns ≤ MAX_TURNS → (turns < MAX_TURNS → live_below count (M.ended core []) ≡ []) → (live_below count (M.ended core []) ≡ []) ⊎ (turns ≡ MAX_TURNS)
  over_rounds count turns core most all = elim (cases_lt turns MAX_TURNS) [
    | inl fewer ↦ inl (all fewer)
    | inr enough ↦ inr (omega (arith, most, enough))
  ]
