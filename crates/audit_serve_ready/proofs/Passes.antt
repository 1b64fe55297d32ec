-- Passes one after another.
use Rattle.std.proofs.Common.{◌≡◌, ℕ, ◌<◌, Bool, List, [], ◌++◌, length, set, get_or, refl, sym, ap, subst, ◌∙◌, arith, inl, inr}
use Rattle.std.proofs.lemmas.Bool.{cases_eq}
use Rattle.std.proofs.lemmas.List.{length-set, get_or-set_same, get_or-set_other}
use Rattle.audit_serve_passes.specs.Steps.{StepData, AreAbout, IsPartOf, a_flush}
use Rattle.audit_serve_passes.specs.Streams.{StreamCall, CallModel, calls_for, bytes_read}
use Rattle.audit_serve_passes.specs.Core.{CoreModel, GoesBy, no_bytes, bytes_for}
use Rattle.audit_serve_passes.specs.Transition.{AreElsewhere}
use Rattle.audit_serve_passes.specs.CallLaws.{bytes_read-append}
use Rattle.audit_serve_passes.proofs.Calls.{calls_here, calls_there}
use Rattle.audit_serve_passes.proofs.StreamSteps.{about_elsewhere}
use Rattle.audit_serve_passes.proofs.Transitions.{none_of_both, no_calls, bytes_here, bytes_there, no_bytes_for, in_any}
use Rattle.audit_serve_ready.specs.Slot.{SlotData, vacant, unread_of, IsAccounted, IsPushed}
use Rattle.audit_serve_ready.specs.Places.{slot_at, CoreDid, IsServedAt, ServesPlace, StopsAtPlace, IsReadyPass, ServesPlaces, StopsAtPlaces, WritesOn}
use Rattle.audit_serve_ready.proofs.Accounts.{accounted_none, accounted_then, served_elsewhere, served_then}

module _ {S : Type 0} (N : CallModel S) where
  pub pass_then : {First Next Both : CoreDid} (lost : ℕ → List ℕ) (steps later : List StepData) (taken more : ℕ → List ℕ) (calls further : ℕ → List StreamCall) (before between after : List (SlotData S))
      → IsReadyPass N First no_bytes steps taken calls before between → IsReadyPass N Next lost later more further between after
      → (First steps taken → Next later more → Both (steps ++ later) (λ k. taken k ++ more k)) → IsReadyPass N Both lost (steps ++ later) (λ k. taken k ++ more k) (λ k. calls k ++ further k) before after
  pass_then lost steps later taken more calls further before between after first second both = record {
    count = second.count ∙ first.count;
    did = both first.did second.did;
    others = λ k above. none_of_both (taken k) (more k) (first.others k above) (second.others k (omega (arith, above, first.count)));
    at = λ k within. served_then N k steps later (lost k) (taken k) (more k) (calls k) (further k) (slot_at k before) (slot_at k between) (slot_at k after) (first.at k within) (second.at k (omega (arith, within, first.count)));
  }

  pub serves_then : {First Next Both : CoreDid} (lost : ℕ → List ℕ) (before between after : List (SlotData S)) → ServesPlaces N First no_bytes before between → ServesPlaces N Next lost between after
      → ((steps later : List StepData) (taken more : ℕ → List ℕ) → First steps taken → Next later more → Both (steps ++ later) (λ k. taken k ++ more k)) → ServesPlaces N Both lost before after
  serves_then {First = First} {Next = Next} {Both = Both} lost before between after first second both = record {
    steps = first.steps ++ second.steps;
    taken = λ k. first.taken k ++ second.taken k;
    calls = λ k. first.calls k ++ second.calls k;
    pass = pass_then {First = First} {Next = Next} {Both = Both} lost first.steps second.steps first.taken second.taken first.calls second.calls before between after first.pass second.pass (both first.steps second.steps first.taken second.taken);
  }

  pub stops_then : {First Next Both : CoreDid} (before between after : List (SlotData S)) → ServesPlaces N First no_bytes before between → StopsAtPlaces N Next between after
      → ((steps later : List StepData) (taken more : ℕ → List ℕ) → First steps taken → Next later more → Both (steps ++ later) (λ k. taken k ++ more k)) → StopsAtPlaces N Both before after
  stops_then {First = First} {Next = Next} {Both = Both} before between after first second both = record {
    refused = second.refused;
    lost = second.lost;
    most = second.most;
    serves = serves_then {First = First} {Next = Next} {Both = Both} (bytes_for second.refused second.lost) before between after first second.serves both;
  }

  -- ---- one place among the others

  at_here : (k : ℕ) (steps : List StepData) (lost sent : List ℕ) (calls : List StreamCall) (slots : List (SlotData S)) (after : SlotData S) → k < length slots → IsServedAt N k steps lost sent calls (slot_at k slots) after
      → IsServedAt N k steps (bytes_for k lost k) (bytes_for k sent k) (calls_for k calls k) (slot_at k slots) (slot_at k (set slots k after))
  at_here k steps lost sent calls slots after within h =
      subst (λ (now : List ℕ). IsServedAt N k steps now (bytes_for k sent k) (calls_for k calls k) (slot_at k slots) (slot_at k (set slots k after))) (sym (bytes_here k lost))
      (subst (λ (now : List ℕ). IsServedAt N k steps lost now (calls_for k calls k) (slot_at k slots) (slot_at k (set slots k after))) (sym (bytes_here k sent))
      (subst (λ (now : List StreamCall). IsServedAt N k steps lost sent now (slot_at k slots) (slot_at k (set slots k after))) (sym (calls_here k calls))
      (subst (λ (now : SlotData S). IsServedAt N k steps lost sent calls (slot_at k slots) now) (sym (get_or-set_same slots k after vacant within)) h)))

  at_there : (k other : ℕ) (steps : List StepData) (lost sent : List ℕ) (calls : List StreamCall) (slots : List (SlotData S)) (after : SlotData S) → (other ≡ k → ⊥) → AreAbout k steps
      → IsServedAt N other steps (bytes_for k lost other) (bytes_for k sent other) (calls_for k calls other) (slot_at other slots) (slot_at other (set slots k after))
  at_there k other steps lost sent calls slots after apart about =
      subst (λ (now : List ℕ). IsServedAt N other steps now (bytes_for k sent other) (calls_for k calls other) (slot_at other slots) (slot_at other (set slots k after))) (sym (bytes_there k other lost apart))
      (subst (λ (now : List ℕ). IsServedAt N other steps [] now (calls_for k calls other) (slot_at other slots) (slot_at other (set slots k after))) (sym (bytes_there k other sent apart))
      (subst (λ (now : List StreamCall). IsServedAt N other steps [] [] now (slot_at other slots) (slot_at other (set slots k after))) (sym (calls_there k other calls apart))
      (subst (λ (now : SlotData S). IsServedAt N other steps [] [] [] (slot_at other slots) now) (sym (get_or-set_other slots k other after vacant apart))
      (served_elsewhere N other steps (slot_at other slots) (about_elsewhere k other steps apart about)))))

  pub place_goes : {Did : CoreDid} (k : ℕ) (lost : List ℕ) (slots : List (SlotData S)) (slot after : SlotData S) → k < length slots → slot_at k slots ≡ slot → ServesPlace N Did k lost slot after
      → ServesPlaces N Did (bytes_for k lost) slots (set slots k after)
  place_goes k lost slots slot after within is place = record {
    steps = place.steps;
    taken = bytes_for k place.sent;
    calls = calls_for k place.calls;
    pass = record {
      count = length-set slots k after;
      did = place.did;
      others = λ other above. bytes_there k other place.sent (λ same. omega (arith, above, within, same));
      at = λ other inside. elim (cases_eq other k) [
        | inl same ↦ subst (λ (j : ℕ). IsServedAt N j place.steps (bytes_for k lost j) (bytes_for k place.sent j) (calls_for k place.calls j) (slot_at j slots) (slot_at j (set slots k after))) (sym same)
            (at_here k place.steps lost place.sent place.calls slots after within (subst (λ (now : SlotData S). IsServedAt N k place.steps lost place.sent place.calls now after) (sym is) place.served))
        | inr apart ↦ at_there k other place.steps lost place.sent place.calls slots after apart place.about
      ];
    };
  }

  -- nothing lost of one session is nothing lost
  pub none_lost : {Did : CoreDid} (k : ℕ) (before after : List (SlotData S)) → ServesPlaces N Did (bytes_for k []) before after → ServesPlaces N Did no_bytes before after
  none_lost {Did = Did} k before after = subst (λ (lost : ℕ → List ℕ). ServesPlaces N Did lost before after) (sym (no_bytes_for k))

  pub stops_at : {Did : CoreDid} (k : ℕ) (slots : List (SlotData S)) (slot after : SlotData S) → k < length slots → slot_at k slots ≡ slot → StopsAtPlace N Did k slot after → StopsAtPlaces N Did slots (set slots k after)
  stops_at {Did = Did} k slots slot after within is place = record { refused = k; lost = place.lost; most = place.most; serves = place_goes {Did = Did} k place.lost slots slot after within is place.serves }

  -- ---- no place

  pub steps_alone : {Did : CoreDid} (steps : List StepData) (taken : ℕ → List ℕ) (slots : List (SlotData S)) → ((k : ℕ) → IsServedAt N k steps [] [] [] (slot_at k slots) (slot_at k slots)) → ((k : ℕ) → taken k ≡ []) → Did steps taken
      → ServesPlaces N Did no_bytes slots slots
  steps_alone steps taken slots each none did = record {
    steps = steps;
    taken = taken;
    calls = no_calls;
    pass = record {
      count = refl;
      did = did;
      others = λ k above. none k;
      at = λ k within. subst (λ (sent : List ℕ). IsServedAt N k steps [] sent [] (slot_at k slots) (slot_at k slots)) (sym (none k)) (each k);
    };
  }

  pub nothing_served : {Did : CoreDid} (slots : List (SlotData S)) → Did [] no_bytes → ServesPlaces N Did no_bytes slots slots
  nothing_served {Did = Did} slots did = steps_alone {Did = Did} [] no_bytes slots (λ k. served_elsewhere N k [] (slot_at k slots) tt) (λ k. refl) did

  -- ---- writing alone

  unfoldable pub writes_none : (slots : List (SlotData S)) → WritesOn N slots slots
  writes_none slots = record { count = refl; calls = no_calls; at = λ k within. (refl, refl, accounted_none N (slot_at k slots)) }

  unfoldable pub writes_then : (before between after : List (SlotData S)) → WritesOn N before between → WritesOn N between after → WritesOn N before after
  writes_then before between after first second = record {
    count = second.count ∙ first.count;
    calls = λ k. first.calls k ++ second.calls k;
    at = λ k within.
        let one = first.at k within in
        let two = second.at k (omega (arith, within, first.count)) in (
          bytes_read-append (first.calls k) (second.calls k) ∙ none_of_both (bytes_read (first.calls k)) (bytes_read (second.calls k)) one.0 two.0,
          two.1 ∙ one.1,
          accounted_then N [] [] (first.calls k) (second.calls k) (slot_at k before) (slot_at k between) (slot_at k after) one.2 two.2,
        );
  }

  unfoldable pub place_writes : {moved : Bool} (k : ℕ) (slots : List (SlotData S)) (slot after : SlotData S) → k < length slots → slot_at k slots ≡ slot → IsPushed N moved [] slot after → WritesOn N slots (set slots k after)
  place_writes k slots slot after within is pushed = record {
    count = length-set slots k after;
    calls = calls_for k pushed.calls;
    at = λ other inside. elim (cases_eq other k) [
      | inl same ↦ subst (λ (j : ℕ). (bytes_read (calls_for k pushed.calls j) ≡ []) × (unread_of (slot_at j (set slots k after)) ≡ unread_of (slot_at j slots)) × IsAccounted N [] (calls_for k pushed.calls j) (slot_at j slots) (slot_at j (set slots k after))) (sym same) (
        ap bytes_read (calls_here k pushed.calls) ∙ pushed.quiet,
        ap unread_of (get_or-set_same slots k after vacant within) ∙ pushed.unread ∙ ap unread_of (sym is),
        subst (λ (now : List StreamCall). IsAccounted N [] now (slot_at k slots) (slot_at k (set slots k after))) (sym (calls_here k pushed.calls))
            (subst (λ (now : SlotData S). IsAccounted N [] pushed.calls now (slot_at k (set slots k after))) (sym is)
            (subst (λ (now : SlotData S). IsAccounted N [] pushed.calls slot now) (sym (get_or-set_same slots k after vacant within)) pushed.accounted)),
      )
      | inr apart ↦ (
        ap bytes_read (calls_there k other pushed.calls apart),
        ap unread_of (get_or-set_other slots k other after vacant apart),
        subst (λ (now : List StreamCall). IsAccounted N [] now (slot_at other slots) (slot_at other (set slots k after))) (sym (calls_there k other pushed.calls apart))
            (subst (λ (now : SlotData S). IsAccounted N [] [] (slot_at other slots) now) (sym (get_or-set_other slots k other after vacant apart)) (accounted_none N (slot_at other slots))),
      )
    ];
  }

module _ {C S : Type 0} (M : CoreModel C) (N : CallModel S) where
  pub serves_more : (old mid new : C) (before between after : List (SlotData S)) → ServesPlaces N (M.DidSteps old mid) no_bytes before between → ServesPlaces N (M.DidSteps mid new) no_bytes between after
      → ServesPlaces N (M.DidSteps old new) no_bytes before after
  serves_more old mid new before between after first second =
      serves_then N {First = M.DidSteps old mid} {Next = M.DidSteps mid new} {Both = M.DidSteps old new} no_bytes before between after first second (λ steps later taken more. M.more_done old mid new steps later taken more)

  pub stops_more : (old mid new : C) (before between after : List (SlotData S)) → ServesPlaces N (M.DidSteps old mid) no_bytes before between → StopsAtPlaces N (M.DidStepsInPart mid new) between after
      → StopsAtPlaces N (M.DidStepsInPart old new) before after
  stops_more old mid new before between after first second =
      stops_then N {First = M.DidSteps old mid} {Next = M.DidStepsInPart mid new} {Both = M.DidStepsInPart old new} before between after first second (λ steps later taken more. M.then_in_part old mid new steps later taken more)

  pub stops_place_then : (k : ℕ) (old mid new : C) (before between : List (SlotData S)) (at after : SlotData S) → k < length between
      → ServesPlaces N (M.DidSteps old mid) no_bytes before between → StopsAtPlace N (M.DidStepsInPart mid new) k (get_or between k at) after → StopsAtPlaces N (M.DidStepsInPart old new) before (set between k after)
  stops_place_then k old mid new before between at after within first place =
      stops_more old mid new before between (set between k after) first (stops_at N {Did = M.DidStepsInPart mid new} k between (get_or between k at) after within (in_any between k vacant at within) place)

  pub flush_stopped_at : (old new : C) (slots : List (SlotData S)) → GoesBy M a_flush old new → StopsAtPlaces N (M.DidStepsInPart old new) slots slots
  flush_stopped_at old new slots goes = record {
    refused = 0;
    lost = [];
    most = omega arith;
    serves = subst (λ (lost : ℕ → List ℕ). ServesPlaces N (M.DidStepsInPart old new) lost slots slots) (no_bytes_for 0)
        (steps_alone N {Did = M.DidStepsInPart old new} goes.0 no_bytes slots (λ k. flush_at k goes.0 goes.1) (λ k. refl) goes.2);
  }
    where
      flush_at : (k : ℕ) (part : List StepData) → IsPartOf a_flush part → IsServedAt N k part [] [] [] (slot_at k slots) (slot_at k slots)
      flush_at k part (inl none) = served_elsewhere N k part (slot_at k slots) (subst (AreElsewhere k) (sym none) tt)
      flush_at k part (inr whole) = served_elsewhere N k part (slot_at k slots) (subst (AreElsewhere k) (sym whole) ((λ about. about), tt))
