-- Calls, the last of which was refused.
use Rattle.std.proofs.Common.{◌≡◌, ◌≢◌, ◌⊎◌, ℕ, zero, suc, ◌<◌, ◌≤◌, Bool, false, cond, List, [], ◌∷◌, ◌++◌, length, map, set, get_or, refl, sym, ap, subst, ◌∙◌, arith, inl, inr}
use Rattle.std.proofs.lemmas.Bool.{cases_eq}
use Rattle.std.proofs.lemmas.List.{append-nil, append_assoc, length-set, map-append}
use Rattle.audit_serve_passes.specs.declared.limits.TheConstants.{MAX_TURNS}
use Rattle.audit_serve_passes.specs.Steps.{StepData, an_end, a_flush, IsPartOf, bytes_fed, ends_in}
use Rattle.audit_serve_passes.specs.Streams.{StreamCall, StreamModel, IsStreamed, calls_for, ends_of_calls}
use Rattle.audit_serve_passes.specs.Core.{CoreModel, GoesBy, no_bytes, bytes_for}
use Rattle.audit_serve_passes.specs.Rounds.{live_below, AreVisits, AreEndsOfClosed, IsFlushAndEnds, IsPass, ArePasses, IsLastFlush, IsInterrupted, IsStoppedInPass}
use Rattle.audit_serve_passes.specs.Transition.{Transition, CoreTransition, EndsAs, Reached, SessionReached, CoreReached, IsOneVisit, AreVisitsBelow, AreEndsBelow, IsEndOfClosed, AreTaken, AreEndsByCalls, IsRefusedIn, IsStoppedBy, AnySteps, closed_by}
use Rattle.audit_serve_passes.proofs.StreamSteps.{bytes_of-append, ends_in-append, ends_elsewhere, about_elsewhere, streamed_none, streamed_on}
use Rattle.audit_serve_passes.proofs.Calls.{calls_here, ends_of-append}
use Rattle.audit_serve_passes.proofs.Transitions.{none_of_both, no_calls, none_for, streamed_one, bytes_there}
use Rattle.audit_serve_passes.proofs.Turns.{end_brings_nothing}
use Rattle.audit_serve_passes.proofs.Runs.{below_more, ends_more, ends_bring, closed_first, closed_later, ends_still, ends_and, flush_still, pass_still, passes_still, one_flush, flushed, ended_still, live_now, pass_then, streamed_after, first_ends}

-- ---- steps up to a refused one

-- with earlier steps
cut_after : {Shape Both : List StepData → Type 0} (before steps : List StepData) → ((all : List StepData) → Shape all → Both (before ++ all)) → IsInterrupted Shape steps → IsInterrupted Both (before ++ steps)
cut_after {Shape} {Both} before steps both h = record {
  front = before ++ h.front;
  step = h.step;
  part = h.part;
  later = h.later;
  are = ap (λ (rest : List StepData). before ++ rest) h.are ∙ sym (append_assoc before h.front h.part);
  of = h.of;
  shape = subst Both (sym (append_assoc before h.front (h.step ∷ h.later))) (both (h.front ++ h.step ∷ h.later) h.shape);
}

-- without the steps that would have followed
cut_before : {Shape Both : List StepData → Type 0} (after steps : List StepData) → ((all : List StepData) → Shape all → Both (all ++ after)) → IsInterrupted Shape steps → IsInterrupted Both steps
cut_before {Shape} {Both} after steps both h = record {
  front = h.front;
  step = h.step;
  part = h.part;
  later = h.later ++ after;
  are = h.are;
  of = h.of;
  shape = subst Both (append_assoc h.front (h.step ∷ h.later) after) (both (h.front ++ h.step ∷ h.later) h.shape);
}

cut_as : {Shape Both : List StepData → Type 0} (steps : List StepData) → ((all : List StepData) → Shape all → Both all) → IsInterrupted Shape steps → IsInterrupted Both steps
cut_as steps both h = record { front = h.front; step = h.step; part = h.part; later = h.later; are = h.are; of = h.of; shape = both (h.front ++ h.step ∷ h.later) h.shape }

-- ---- visits that would have followed

rest_live : (count k : ℕ) (ended : ℕ → Bool) → k ≤ count → (rest : List ℕ) × (live_below count ended ≡ live_below k ended ++ rest)
rest_live zero zero ended within = ([], refl)
rest_live zero (suc k) ended within = absurd (omega (arith, within))
rest_live (suc count) k ended within = elim (cases_eq k (suc count)) [
  | inl same ↦ ([], subst (λ (n : ℕ). live_below (suc count) ended ≡ live_below n ended ++ []) (sym same) (sym (append-nil (live_below (suc count) ended))))
  | inr apart ↦
      let r = rest_live count k ended (omega (arith, within, apart)) in (
        r.0 ++ cond (ended count) [] (count ∷ []),
        ap (λ (front : List ℕ). front ++ cond (ended count) [] (count ∷ [])) r.1 ∙ append_assoc (live_below k ended) r.0 (cond (ended count) [] (count ∷ [])),
      )
]

ends_visit : (sessions : List ℕ) → AreVisits sessions (map an_end sessions)
ends_visit [] = tt
ends_visit (k ∷ sessions) = (refl, ends_visit sessions)

visits_and : (sessions more : List ℕ) (steps later : List StepData) → AreVisits sessions steps → AreVisits more later → AreVisits (sessions ++ more) (steps ++ later)
visits_and [] more [] later each also = also
visits_and [] more (step ∷ steps) later each also = absurd each
visits_and (k ∷ sessions) more [] later each also = absurd each
visits_and (k ∷ sessions) more (step ∷ steps) later each also = (each.0, visits_and sessions more steps later each.1 also)

pub flush_brings_nothing : (part : List StepData) → IsPartOf a_flush part → (k : ℕ) → bytes_fed k part ≡ []
flush_brings_nothing part (inl none) k = ap (bytes_fed k) none
flush_brings_nothing part (inr whole) k = ap (bytes_fed k) whole

flush_ends_nothing : (part : List StepData) → IsPartOf a_flush part → (k : ℕ) → ends_in k part ≡ 0
flush_ends_nothing part (inl none) k = ap (ends_in k) none
flush_ends_nothing part (inr whole) k = ap (ends_in k) whole

module _ {C : Type 0} (M : CoreModel C) where
  -- ---- consecutive ends of sessions

  pub end_stops : (count k : ℕ) (old mid new : C) → CoreTransition M old mid (AreEndsBelow k (M.ended old [])) → M.ended mid [] k ≡ false → k < count → GoesBy M (an_end k) mid new
      → CoreReached M old new (IsInterrupted (λ steps. steps ≡ map an_end (live_below count (M.ended old []))))
  end_stops count k old mid new first live below goes =
      let part = goes.0 in
      let ended = M.ended old [] in
      let rest = rest_live count (suc k) ended (omega (arith, below)) in
      let each = (ends_more k ended first.steps (sym (ended_still M old mid first.steps first.taken k first.did (first.shape.below k (omega arith))) ∙ live) first.shape).each in
      record {
        steps = first.steps ++ part;
        taken = λ session. first.taken session ++ no_bytes session;
        reaches = M.then_in_part old mid new first.steps part first.taken no_bytes first.did goes.2;
        none = λ session. none_of_both (first.taken session) [] (first.none session) refl;
        brings = λ session.
            bytes_of-append session first.steps part
            ∙ none_of_both (bytes_fed session first.steps) (bytes_fed session part) (ends_bring k ended first.steps first.shape session) (end_brings_nothing k part goes.1 session);
        shape = record {
          front = first.steps;
          step = an_end k;
          part = part;
          later = map an_end rest.0;
          are = refl;
          of = goes.1;
          shape = sym (append_assoc first.steps (an_end k ∷ []) (map an_end rest.0)) ∙ ap (λ (front : List StepData). front ++ map an_end rest.0) each
              ∙ sym (map-append an_end (live_below (suc k) ended) rest.0) ∙ ap (map an_end) (sym rest.1);
        };
      }

  -- if no session is live, none was ended
  pub none_ended : (count : ℕ) (core : C) → live_below count (M.ended core []) ≡ [] → CoreTransition M core core (AreEndsBelow count (M.ended core []))
  none_ended count core none = record {
    steps = [];
    taken = no_bytes;
    did = M.nothing_done core;
    none = λ k. refl;
    shape = record { each = sym (ap (map an_end) none); below = λ k above. tt };
  }

module _ {C S : Type 0} (M : CoreModel C) (N : StreamModel S) where
  -- ---- several streams

  pub reached_as : {Shape Other : (ℕ → List StreamCall) → List StepData → Type 0} (old new : C) (before after : List S) → ((calls : ℕ → List StreamCall) (steps : List StepData) → Shape calls steps → Other calls steps)
      → Reached M N old new before after Shape → Reached M N old new before after Other
  reached_as old new before after by_shape h = record {
    count = h.count;
    steps = h.steps;
    taken = h.taken;
    calls = h.calls;
    reaches = h.reaches;
    others = h.others;
    refused = h.refused;
    lost = h.lost;
    most = h.most;
    shape = by_shape h.calls h.steps h.shape;
    streamed = h.streamed;
  }

  pub reached_any : {Shape : (ℕ → List StreamCall) → List StepData → Type 0} (old new : C) (before after : List S) → Reached M N old new before after Shape → Reached M N old new before after AnySteps
  reached_any old new before after h = reached_as old new before after (λ calls steps shape. tt) h

  pub done_reached : {Shape : (ℕ → List StreamCall) → List StepData → Type 0} (old new : C) (before after : List S) → Transition M N old new before after Shape → Reached M N old new before after AnySteps
  done_reached old new before after t = record {
    count = t.count;
    steps = t.steps;
    taken = t.taken;
    calls = t.calls;
    reaches = M.done_in_part old new t.steps t.taken t.did;
    others = t.others;
    refused = 0;
    lost = [];
    most = omega arith;
    shape = tt;
    streamed = λ k none within.
        subst (λ (lost : List ℕ). IsStreamed N k t.steps lost (t.taken k) (t.calls k) (get_or before k none) (get_or after k none)) (sym (none_for 0 k)) (t.streamed k none within);
  }

  pub cut_reached : {Shape : (ℕ → List StreamCall) → List StepData → Type 0} (old new : C) (before after : List S) → EndsAs M N old new before after Shape → Reached M N old new before after AnySteps
  cut_reached old new before after t = record {
    count = t.count;
    steps = t.steps;
    taken = t.taken;
    calls = t.calls;
    reaches = M.done_in_part old new t.steps t.taken t.did;
    others = t.others;
    refused = 0;
    lost = [];
    most = omega arith;
    shape = tt;
    streamed = λ k none within.
        subst (λ (lost : List ℕ). IsStreamed N k t.steps lost (t.taken k) (t.calls k) (get_or before k none) (get_or after k none)) (sym (none_for 0 k)) (t.streamed k none within);
  }

  pub then_reached : {First Second Both : (ℕ → List StreamCall) → List StepData → Type 0} (old mid new : C) (before between after : List S) → (first : Transition M N old mid before between First)
      → (second : Reached M N mid new between after Second) → (First first.calls first.steps → Second second.calls second.steps → Both (λ k. first.calls k ++ second.calls k) (first.steps ++ second.steps))
      → Reached M N old new before after Both
  then_reached old mid new before between after first second both = record {
    count = second.count ∙ first.count;
    steps = first.steps ++ second.steps;
    taken = λ session. first.taken session ++ second.taken session;
    calls = λ k. first.calls k ++ second.calls k;
    reaches = M.then_in_part old mid new first.steps second.steps first.taken second.taken first.did second.reaches;
    others = λ k above. none_of_both (first.taken k) (second.taken k) (first.others k above) (second.others k (omega (arith, above, first.count)));
    refused = second.refused;
    lost = second.lost;
    most = second.most;
    shape = both first.shape second.shape;
    streamed = λ k none within.
        streamed_on N k first.steps second.steps (bytes_for second.refused second.lost k) (first.taken k) (second.taken k) (first.calls k) (second.calls k) (get_or before k none) (get_or between k none) (get_or after k none)
        (first.streamed k none within) (second.streamed k none (omega (arith, within, first.count)));
  }

  -- each end is due to a call, in both parts
  both_ends : {First Second : (ℕ → List StreamCall) → List StepData → Type 0} (count : ℕ) (old mid new : C) (before between after : List S) → count ≤ length before → (first : Transition M N old mid before between First)
      → (second : Reached M N mid new between after Second) → AreEndsByCalls count second.calls second.steps → AreEndsByCalls count (λ k. first.calls k ++ second.calls k) (first.steps ++ second.steps)
  both_ends count old mid new before between after few first second ends = λ k below.
      omega (arith, ends_in-append k first.steps second.steps, first.ends k (omega (arith, below, few)), ends_of-append (first.calls k) (second.calls k), ends k below)

  -- no stream was used
  pub core_reached : {Shape : (ℕ → List StreamCall) → List StepData → Type 0} (old new : C) (streams : List S) → CoreReached M old new (Shape no_calls) → Reached M N old new streams streams Shape
  core_reached old new streams h = record {
    count = refl;
    steps = h.steps;
    taken = h.taken;
    calls = no_calls;
    reaches = h.reaches;
    others = λ k above. h.none k;
    refused = 0;
    lost = [];
    most = omega arith;
    shape = h.shape;
    streamed = λ k none within.
        subst (λ (lost : List ℕ). IsStreamed N k h.steps lost (h.taken k) [] (get_or streams k none) (get_or streams k none)) (sym (none_for 0 k))
        (subst (λ (sent : List ℕ). IsStreamed N k h.steps [] sent [] (get_or streams k none) (get_or streams k none)) (sym (h.none k)) (streamed_none N k h.steps (get_or streams k none) (h.brings k)));
  }

  -- the ends of some sessions, followed by the others
  ends_then : {Second Both : (ℕ → List StreamCall) → List StepData → Type 0} (old mid new : C) (before after : List S) (count : ℕ) (ended : ℕ → Bool) → (first : CoreTransition M old mid (AreEndsBelow count ended))
      → (second : Reached M N mid new before after Second) → (Second second.calls second.steps → Both second.calls (first.steps ++ second.steps)) → Reached M N old new before after Both
  ends_then old mid new before after count ended first second both = record {
    count = second.count;
    steps = first.steps ++ second.steps;
    taken = λ session. first.taken session ++ second.taken session;
    calls = second.calls;
    reaches = M.then_in_part old mid new first.steps second.steps first.taken second.taken first.did second.reaches;
    others = λ k above. none_of_both (first.taken k) (second.taken k) (first.none k) (second.others k above);
    refused = second.refused;
    lost = second.lost;
    most = second.most;
    shape = both second.shape;
    streamed = λ k none within.
        streamed_after M N k first.steps second.steps (bytes_for second.refused second.lost k) (first.taken k) (second.taken k) (second.calls k) (get_or before k none) (get_or after k none)
        (ends_bring count ended first.steps first.shape k) (first.none k) (second.streamed k none within);
  }

  -- ---- one session

  -- what one session and its stream did, as a part of what all of them did
  pub session_reached : {Shape : (ℕ → List StreamCall) → List StepData → Type 0} (count k : ℕ) (old new : C) (streams : List S) (at after : S) → k < length streams
      → SessionReached M N k old new (get_or streams k at) after (λ calls. IsInterrupted (Shape calls))
      → Reached M N old new streams (set streams k after) (λ calls. IsRefusedIn count (Shape calls) calls)
  session_reached count k old new streams at after within t = record {
    count = length-set streams k after;
    steps = t.steps;
    taken = bytes_for k t.sent;
    calls = calls_for k t.calls;
    reaches = t.reaches;
    others = λ other above. bytes_there k other t.sent (λ same. omega (arith, above, within, same));
    refused = k;
    lost = t.lost;
    most = t.most;
    shape = record {
      refused = t.shape;
      ends = λ other below. elim (cases_eq other k) [
        | inl same ↦ subst (λ (j : ℕ). ends_in j t.steps ≤ ends_of_calls (calls_for k t.calls j)) (sym same)
            (subst (λ (calls : List StreamCall). ends_in k t.steps ≤ ends_of_calls calls) (sym (calls_here k t.calls)) t.ends)
        | inr apart ↦ omega (arith, ends_elsewhere other t.steps (about_elsewhere k other t.steps apart t.about))
      ];
    };
    streamed = λ other none inside. streamed_one k other streams none at after t.steps t.lost t.sent t.calls within t.about t.streamed;
  }

  -- ---- consecutive turns of the sessions

  pub visits_stopped : (count k : ℕ) (old mid new : C) (before between : List S) (at after : S) → Transition M N old mid before between (λ calls. AreVisitsBelow k (M.ended old [])) → M.ended mid [] k ≡ false
      → k < length between → k < count → count ≤ length before → SessionReached M N k mid new (get_or between k at) after (λ calls. IsInterrupted (IsOneVisit k))
      → Reached M N old new before (set between k after) (IsRefusedIn count (AreVisits (live_below count (M.ended old []))))
  visits_stopped count k old mid new before between at after first live within below few turn =
      let ended = M.ended old [] in
      let rest = rest_live count (suc k) ended (omega (arith, below)) in
      let second = session_reached {Shape = λ calls. IsOneVisit k} count k mid new between at after within turn in
      then_reached old mid new before between (set between k after) first second
      λ turns cut. record {
        ends = both_ends count old mid new before between (set between k after) few first second cut.ends;
        refused = cut_before (map an_end rest.0) (first.steps ++ second.steps)
            (λ all each. subst (λ (sessions : List ℕ). AreVisits sessions (all ++ map an_end rest.0)) (sym rest.1) (visits_and (live_below (suc k) ended) rest.0 all (map an_end rest.0) each (ends_visit rest.0)))
            (cut_after first.steps second.steps
            (λ all one. (below_more k ended first.steps all (sym (ended_still M old mid first.steps first.taken k first.did (turns.below k (omega arith))) ∙ live) turns one).each) cut.refused);
      }

  pub write_stops : (count k : ℕ) (old mid new : C) (before between : List S) (at after : S) → count ≤ length before → Transition M N old mid before between (AreTaken M k old mid) → k < length between
      → SessionReached M N k mid new (get_or between k at) after (λ calls. IsInterrupted (IsEndOfClosed k calls))
      → Reached M N old new before (set between k after) (λ calls. IsRefusedIn count (AreEndsOfClosed (closed_by calls)) calls)
  write_stops count k old mid new before between at after few first within turn =
      let second = session_reached {Shape = IsEndOfClosed k} count k mid new between at after within turn in
      let closed = closed_by (λ (j : ℕ). first.calls j ++ second.calls j) in
      then_reached old mid new before between (set between k after) first second
      λ taken cut. record {
        ends = both_ends count old mid new before between (set between k after) few first second cut.ends;
        refused = cut_after first.steps second.steps
            (λ all end. subst (λ (rest : List StepData). AreEndsOfClosed closed (first.steps ++ rest)) (sym end.one)
            (ends_and closed first.steps k (ends_still (closed_by first.calls) closed (closed_first first.calls second.calls) first.steps taken.ends) (closed_later first.calls second.calls k end.closed))) cut.refused;
      }

  -- ---- a flush, a pass

  pub flush_refused : (count : ℕ) (old new : C) (streams : List S) → GoesBy M a_flush old new → Reached M N old new streams streams (λ calls. IsRefusedIn count (IsFlushAndEnds (closed_by calls)) calls)
  flush_refused count old new streams goes = core_reached old new streams (record {
    steps = goes.0;
    taken = no_bytes;
    reaches = goes.2;
    none = λ k. refl;
    brings = flush_brings_nothing goes.0 goes.1;
    shape = record {
      refused = record { front = []; step = a_flush; part = goes.0; later = []; are = refl; of = goes.1; shape = one_flush (closed_by no_calls) };
      ends = λ k below. omega (arith, flush_ends_nothing goes.0 goes.1 k);
    };
  })

  pub flush_stopped : (count : ℕ) (old mid new : C) (before after : List S) → count ≤ length before → M.DidSteps old mid (a_flush ∷ []) no_bytes
      → Reached M N mid new before after (λ calls. IsRefusedIn count (AreEndsOfClosed (closed_by calls)) calls) → Reached M N old new before after (λ calls. IsRefusedIn count (IsFlushAndEnds (closed_by calls)) calls)
  flush_stopped count old mid new before after few did second =
      let first = flushed M N old mid before did in
      then_reached old mid new before before after first second
      λ one cut. record {
        refused = cut_after first.steps second.steps (λ all each. record { ends = all; are = ap (λ (front : List StepData). front ++ all) one; each = each }) cut.refused;
        ends = both_ends count old mid new before before after few first second cut.ends;
      }

  pub pass_in_visits : (count : ℕ) (old new : C) (before after : List S) → Reached M N old new before after (IsRefusedIn count (AreVisits (live_below count (M.ended old []))))
      → Reached M N old new before after (λ calls. IsRefusedIn count (IsPass count (M.ended old []) (closed_by calls)) calls)
  pass_in_visits count old new before after h =
      reached_as old new before after
      (λ calls steps cut. record {
        refused = cut_before (a_flush ∷ []) steps (λ all each. record { turns = all; last = a_flush ∷ []; are = refl; each = each; flush = one_flush (closed_by calls) }) cut.refused;
        ends = cut.ends;
      }) h

  pub pass_in_flush : (count : ℕ) (old mid new : C) (before between after : List S) → count ≤ length before → Transition M N old mid before between (λ calls. AreVisitsBelow count (M.ended old []))
      → Reached M N mid new between after (λ calls. IsRefusedIn count (IsFlushAndEnds (closed_by calls)) calls) → Reached M N old new before after (λ calls. IsRefusedIn count (IsPass count (M.ended old []) (closed_by calls)) calls)
  pass_in_flush count old mid new before between after few first second =
      let closed = closed_by (λ (j : ℕ). first.calls j ++ second.calls j) in
      then_reached old mid new before between after first second
      λ turns cut. record {
        refused = cut_after first.steps second.steps
            (λ all flush. record { turns = first.steps; last = all; are = refl; each = turns.each; flush = flush_still (closed_by second.calls) closed (closed_later first.calls second.calls) all flush }) cut.refused;
        ends = both_ends count old mid new before between after few first second cut.ends;
      }

  -- ---- passes, and what follows them

  pub passes_stopped : (count whole turns : ℕ) (old mid new : C) (before between after : List S) → count ≤ length before → turns ≡ suc whole → Transition M N old mid before between (λ calls. ArePasses count (M.ended old) (closed_by calls) whole)
      → live_below count (M.ended mid []) ≢ [] → Reached M N mid new between after (λ calls. IsRefusedIn count (IsPass count (M.ended mid []) (closed_by calls)) calls)
      → Reached M N old new before after (λ calls steps. IsStoppedInPass count (M.ended old) (closed_by calls) turns steps × AreEndsByCalls count calls steps)
  passes_stopped count whole turns old mid new before between after few begun first some second =
      let closed = closed_by (λ (j : ℕ). first.calls j ++ second.calls j) in
      then_reached old mid new before between after first second
      λ rounds cut. (
        record {
          earlier = first.steps;
          last = second.steps;
          are = refl;
          whole = whole;
          begun = begun;
          each = passes_still count (M.ended old) (closed_by first.calls) closed (closed_first first.calls second.calls) whole first.steps rounds;
          live = λ none. some (live_now M old mid first.steps first.taken count first.did ∙ none);
          pass = cut_as second.steps (λ all pass. pass_still count (M.ended old first.steps) (closed_by second.calls) closed (closed_later first.calls second.calls) all
              (pass_then M N count old mid first.steps first.taken (closed_by second.calls) all first.did pass)) cut.refused;
        },
        both_ends count old mid new before between after few first second cut.ends,
      )

  -- a step after the passes was refused
  pub after_stopped : (count turns : ℕ) (old mid new : C) (before between after : List S) → count ≤ length before → Transition M N old mid before between (λ calls. ArePasses count (M.ended old) (closed_by calls) turns)
      → (live_below count (M.ended mid []) ≡ []) ⊎ (turns ≡ MAX_TURNS) → Reached M N mid new between after (λ calls. IsInterrupted (IsLastFlush count (M.ended mid []) (closed_by calls)))
      → Reached M N old new before after (IsStoppedBy M count turns old)
  after_stopped count turns old mid new before between after few first over second =
      let closed = closed_by (λ (j : ℕ). first.calls j ++ second.calls j) in
      let same = live_now M old mid first.steps first.taken count first.did in
      then_reached old mid new before between after first second
      λ rounds cut. inr ((
        record {
          rounds = first.steps;
          last = second.steps;
          are = refl;
          each = passes_still count (M.ended old) (closed_by first.calls) closed (closed_first first.calls second.calls) turns first.steps rounds;
          over = elim over [ inl none ↦ inl (sym same ∙ none) | inr most ↦ inr most ];
          ends = cut_as second.steps (λ all last. record {
            last = last.last;
            are = last.are ∙ ap (λ (sessions : List ℕ). map an_end sessions ++ last.last) same;
            flush = flush_still (closed_by second.calls) closed (closed_later first.calls second.calls) last.last last.flush;
          }) cut;
        },
        first_ends M N count old mid before between first second.calls few,
      ))

  pub ends_stopped : (count : ℕ) (old new : C) (streams : List S) → CoreReached M old new (IsInterrupted (λ steps. steps ≡ map an_end (live_below count (M.ended old []))))
      → Reached M N old new streams streams (λ calls. IsInterrupted (IsLastFlush count (M.ended old []) (closed_by calls)))
  ends_stopped count old new streams h =
      reached_as old new streams streams
      (λ calls steps cut. cut_before (a_flush ∷ []) steps (λ all are. record { last = a_flush ∷ []; are = ap (λ (front : List StepData). front ++ a_flush ∷ []) are; flush = one_flush (closed_by calls) }) cut)
      (core_reached {Shape = λ calls. IsInterrupted (λ steps. steps ≡ map an_end (live_below count (M.ended old [])))} old new streams h)

  pub last_stopped : (count : ℕ) (old mid new : C) (before after : List S) → CoreTransition M old mid (AreEndsBelow count (M.ended old [])) → Reached M N mid new before after (λ calls. IsRefusedIn count (IsFlushAndEnds (closed_by calls)) calls)
      → Reached M N old new before after (λ calls. IsInterrupted (IsLastFlush count (M.ended old []) (closed_by calls)))
  last_stopped count old mid new before after first second =
      ends_then old mid new before after count (M.ended old []) first second
      λ cut. cut_after first.steps second.steps (λ all flush. record { last = all; are = ap (λ (front : List StepData). front ++ all) first.shape.each; flush = flush }) cut.refused
