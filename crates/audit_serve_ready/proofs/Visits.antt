-- The turn of one session.
use Rattle.std.proofs.Common.{◌≡◌, ℕ, ◌<◌, ◌≤◌, Bool, true, false, ◌||◌, eqb, cond, Result, Ok, Err, IfOk, OnOk, OnErr, List, [], ◌∷◌, ◌++◌, length, take, drop, refl, sym, ap, subst, ◌∙◌, arith, inl, inr, ◌⊎◌, true≢false}
use Rattle.std.proofs.lemmas.Bool.{eq-eqb, cond-true}
use Rattle.std.proofs.lemmas.List.{append-nil, take-append-drop, length-append, length-take}
use Rattle.audit_serve_ready.specs.declared.limits.TheConstants.{MAX_READ}
use Rattle.audit_serve_passes.specs.Steps.{StepData, a_piece, an_end, AreAbout, IsPartOf, bytes_fed}
use Rattle.audit_serve_passes.specs.Streams.{StreamCall, CallModel, bytes_read}
use Rattle.audit_serve_passes.specs.Core.{CoreModel, GoesBy, no_bytes, bytes_for}
use Rattle.audit_serve_passes.proofs.Transitions.{no_bytes_for}
use Rattle.audit_serve_passes.proofs.Turns.{end_brings_nothing}
use Rattle.audit_serve_ready.specs.Slot.{SlotData, vacant, serving, unheard, closing, unread_of, with_unread, is_shut, IsSamePlace, HasLooked}
use Rattle.audit_serve_ready.specs.Places.{has_last_read, CoreDid, IsServedAt, ServesPlace, StopsAtPlace}
use Rattle.audit_serve_ready.specs.Backlog.{IsPutOff}
use Rattle.audit_serve_ready.specs.Reading.{IsWait, IsTurn, IsShort, SpendsShare, IsFedPiece, HasTurn}
use Rattle.audit_serve_ready.proofs.Asking.{off_before}
use Rattle.audit_serve_ready.proofs.Accounts.{accounted_none, unread_put, unread_accounted, served_then}

one_piece : (k : ℕ) (piece : List ℕ) → bytes_fed k (a_piece k piece ∷ []) ≡ piece
one_piece k piece = append-nil (cond (eqb k k) piece []) ∙ cond-true (eqb k k) piece [] (eq-eqb k k refl)

end_about : (k : ℕ) (part : List StepData) → IsPartOf (an_end k) part → AreAbout k part
end_about k part (inl none) = subst (AreAbout k) (sym none) tt
end_about k part (inr whole) = subst (AreAbout k) (sym whole) (refl, tt)

no_back : (front rest : List ℕ) → front ++ rest ≡ [] → rest ≡ []
no_back [] rest none = none
no_back (byte ∷ front) rest none = absurd (cc none)

pub no_front : (front rest : List ℕ) → front ++ rest ≡ [] → front ≡ []
no_front [] rest none = refl
no_front (byte ∷ front) rest none = absurd (cc none)

same_unread : {S : Type 0} (bytes : List ℕ) (slot : SlotData S) → IsSamePlace [] slot (with_unread bytes slot)
same_unread bytes vacant = record { kept = refl; mute = refl; shut = refl; noted = refl }
same_unread bytes (serving client unread kept noted) = record { kept = refl; mute = refl; shut = refl; noted = refl }
same_unread bytes (unheard client unread noted) = record { kept = refl; mute = refl; shut = refl; noted = refl }
same_unread bytes (closing client unread noted) = record { kept = refl; mute = refl; shut = refl; noted = refl }

-- what follows of a result follows of it in any form
pub on_ok : {A E : Type 0} {P Q : Type 0} (result : Result A E) → (P → Q) → OnOk result P → OnOk result Q
on_ok (Ok value) then_ holds = then_ holds
on_ok (Err error) then_ holds = tt

pub if_ok_all : {A E : Type 0} {P Q R : A → Type 0} (result : Result A E) → IfOk result P → IfOk result Q → ((value : A) → P value → Q value → R value) → IfOk result R
if_ok_all (Ok value) one other by = by value one other
if_ok_all (Err error) one other by = tt

pub on_err : {A E : Type 0} {P Q : Type 0} (result : Result A E) → (P → Q) → OnErr result P → OnErr result Q
on_err (Ok value) then_ holds = tt
on_err (Err error) then_ holds = then_ holds

module _ {C S : Type 0} (M : CoreModel C) (N : CallModel S) where
  taking_none : (k : ℕ) (old new : C) (steps : List StepData) → M.DidSteps old new steps no_bytes → M.DidSteps old new steps (bytes_for k [])
  taking_none k old new steps = subst (λ (taken : ℕ → List ℕ). M.DidSteps old new steps taken) (no_bytes_for k)

  taking_none_in_part : (k : ℕ) (old new : C) (steps : List StepData) → M.DidStepsInPart old new steps no_bytes → M.DidStepsInPart old new steps (bytes_for k [])
  taking_none_in_part k old new steps = subst (λ (taken : ℕ → List ℕ). M.DidStepsInPart old new steps taken) (no_bytes_for k)

  -- ---- a place that is shut

  pub shut_stopped : (k : ℕ) (old new : C) (slot : SlotData S) → is_shut slot ≡ true → GoesBy M (an_end k) old new → StopsAtPlace N (M.DidStepsInPart old new) k slot slot
  shut_stopped k old new slot shut goes = record {
    lost = [];
    most = omega arith;
    serves = record {
      steps = goes.0;
      sent = [];
      calls = [];
      did = taking_none_in_part k old new goes.0 goes.2;
      about = end_about k goes.0 goes.1;
      served = record { read = ap (λ (bytes : List ℕ). bytes ++ (unread_of slot ++ [])) (sym (end_brings_nothing k goes.0 goes.1 k)); ends = inr shut; accounted = accounted_none N slot };
    };
  }

  -- ---- a look

  looked : (before after : SlotData S) (calls : List StreamCall) → HasLooked N before after calls → unread_of before ++ bytes_read calls ≡ unread_of after ++ []
  looked before after calls look = look.read ∙ sym (append-nil (unread_of after))

  -- the stream was over,
  pub over_stopped : (k : ℕ) (old new : C) (before after : SlotData S) (calls : List StreamCall) → HasLooked N before after calls → has_last_read calls ≡ true → GoesBy M (an_end k) old new
      → StopsAtPlace N (M.DidStepsInPart old new) k before after
  over_stopped k old new before after calls look last goes = record {
    lost = [];
    most = omega arith;
    serves = record {
      steps = goes.0;
      sent = [];
      calls = calls;
      did = taking_none_in_part k old new goes.0 goes.2;
      about = end_about k goes.0 goes.1;
      served = record {
        read = looked before after calls look ∙ ap (λ (bytes : List ℕ). bytes ++ (unread_of after ++ [])) (sym (end_brings_nothing k goes.0 goes.1 k));
        ends = inr (ap (λ (x : Bool). x || is_shut after) last);
        accounted = look.accounted;
      };
    };
  }

  -- or bytes are unread.
  pub look_then : {Did : CoreDid} (k : ℕ) (lost : List ℕ) (before between after : SlotData S) (calls : List StreamCall) → HasLooked N before between calls → ServesPlace N Did k lost between after → ServesPlace N Did k lost before after
  look_then k lost before between after calls look place = record {
    steps = place.steps;
    sent = place.sent;
    calls = calls ++ place.calls;
    did = place.did;
    about = place.about;
    served = served_then N k [] place.steps lost [] place.sent calls place.calls before between after
        (record { read = looked before between calls look; ends = inl refl; accounted = look.accounted }) place.served;
  }

  pub look_stops : {Did : CoreDid} (k : ℕ) (before between after : SlotData S) (calls : List StreamCall) → HasLooked N before between calls → StopsAtPlace N Did k between after → StopsAtPlace N Did k before after
  look_stops {Did = Did} k before between after calls look stops = record { lost = stops.lost; most = stops.most; serves = look_then {Did = Did} k stops.lost before between after calls look stops.serves }

  -- ---- a piece of what is unread

  pub fed_at : (k : ℕ) (taken : ℕ) (slot : SlotData S) → is_shut slot ≡ false → IsServedAt N k (a_piece k (take taken (unread_of slot)) ∷ []) [] [] [] slot (with_unread (drop taken (unread_of slot)) slot)
  fed_at k taken slot live =
      let bytes : List ℕ = unread_of slot in
      record {
        read = append-nil bytes
            ∙ sym (take-append-drop taken bytes)
            ∙ ap (λ (front : List ℕ). front ++ drop taken bytes) (sym (one_piece k (take taken bytes)))
            ∙ ap (λ (rest : List ℕ). bytes_fed k (a_piece k (take taken bytes) ∷ []) ++ rest) (sym (append-nil (unread_of (with_unread (drop taken bytes) slot)) ∙ unread_put (drop taken bytes) slot live));
        ends = inl refl;
        accounted = unread_accounted N (drop taken bytes) slot;
      }

  -- one that was refused, at most in part: the rest is lost
  pub fed_stopped : (k : ℕ) (old new : C) (slot : SlotData S) → is_shut slot ≡ false → length (unread_of slot) ≤ MAX_READ → GoesBy M (a_piece k (unread_of slot)) old new
      → StopsAtPlace N (M.DidStepsInPart old new) k slot (with_unread [] slot)
  fed_stopped k old new slot live most (part, inl none, goes) =
      let bytes : List ℕ = unread_of slot in
      record {
        lost = bytes;
        most = most;
        serves = record {
          steps = [];
          sent = [];
          calls = [];
          did = taking_none_in_part k old new [] (subst (λ (steps : List StepData). M.DidStepsInPart old new steps no_bytes) none goes);
          about = tt;
          served = record { read = append-nil bytes ∙ ap (λ (front : List ℕ). front ++ bytes) (sym (unread_put [] slot live)); ends = inl refl; accounted = unread_accounted N [] slot };
        };
      }
  fed_stopped k old new slot live most (part, inr (front, rest, split, is), goes) =
      let bytes : List ℕ = unread_of slot in
      record {
        lost = rest;
        most = omega (arith, most, ap length split, length-append front rest);
        serves = record {
          steps = a_piece k front ∷ [];
          sent = [];
          calls = [];
          did = taking_none_in_part k old new (a_piece k front ∷ []) (subst (λ (steps : List StepData). M.DidStepsInPart old new steps no_bytes) is goes);
          about = (refl, tt);
          served = record {
            read = append-nil bytes ∙ split ∙ ap (λ (first : List ℕ). first ++ rest) (sym (one_piece k front)) ∙ ap (λ (first : List ℕ). bytes_fed k (a_piece k front ∷ []) ++ (first ++ rest)) (sym (unread_put [] slot live));
            ends = inl refl;
            accounted = unread_accounted N [] slot;
          };
        };
      }

-- the end of a session is no wait, and only no bytes wait
never_ends : (k : ℕ) → IsWait (an_end k) → ⊥
never_ends k waits = cc waits.1

piece_waits : (k : ℕ) (piece : List ℕ) → IsWait (a_piece k piece) → piece ≡ []
piece_waits k piece waits = cc waits.1

module _ {C S : Type 0} (M : CoreModel C) (N : CallModel S) (backlog : ℕ) where
  pub is_fed : {given remains : ℕ} (moved : Bool) (k : ℕ) (taken : ℕ) (old new : C) (slot : SlotData S) → is_shut slot ≡ false → length (unread_of slot) ≤ MAX_READ → M.DidSteps old new (a_piece k (take taken (unread_of slot)) ∷ []) no_bytes
      → (moved ≡ false → taken ≡ 0) → (moved ≡ true → 0 < taken) → taken ≤ length (unread_of slot)
      → (unread_of (with_unread (drop taken (unread_of slot)) slot) ≡ []) ⊎ IsPutOff M backlog (IsShort remains) k old (take taken (unread_of slot)) (unread_of (with_unread (drop taken (unread_of slot)) slot)) slot → SpendsShare M given remains old (a_piece k (take taken (unread_of slot)) ∷ [])
      → IsFedPiece M N backlog given remains moved k old new slot (with_unread (drop taken (unread_of slot)) slot)
  is_fed moved k taken old new slot live most did none some within left share = record {
    piece = take taken (unread_of slot);
    most = omega (arith, most, length-take taken (unread_of slot));
    held = λ still. ap (λ (n : ℕ). take n (unread_of slot)) (none still);
    moves = λ moving empty. omega (arith, some moving, within, length-take taken (unread_of slot), ap length empty);
    did = did;
    served = fed_at M N k taken slot live;
    left = left;
    same = same_unread (drop taken (unread_of slot)) slot;
    share = share;
  }

  -- ---- the turns of a session

  -- whose place is shut,
  pub shut_turn : {given : ℕ} (k : ℕ) (old new : C) (slot : SlotData S) → is_shut slot ≡ true → M.DidSteps old new (an_end k ∷ []) no_bytes → M.ended new [] k ≡ true → HasTurn M N backlog given given true k true old new slot slot
  shut_turn k old new slot shut did over = record {
    steps = an_end k ∷ [];
    calls = [];
    did = did;
    taken = (an_end k, refl, refl);
    waits = λ still. absurd (true≢false still);
    moves = λ moving waits. never_ends k waits.0;
    served = record { read = refl; ends = inr shut; accounted = accounted_none N slot };
    seen = inl (shut, over);
    last = λ last. over;
    same = record { kept = refl; mute = refl; shut = refl; noted = refl };
    quiet = refl;
    left = λ live. absurd (true≢false (sym shut ∙ live));
    share = record { fewer = omega arith; spent = omega arith };
    none = λ idle. absurd (true≢false idle);
  }

  -- of whose client nothing was there,
  pub vain_turn : {given : ℕ} (k : ℕ) (core : C) (before after : SlotData S) (calls : List StreamCall) → HasLooked N before after calls → has_last_read calls ≡ false → unread_of after ≡ [] → HasTurn M N backlog given given false k false core core before after
  vain_turn k core before after calls look going none = record {
    steps = [];
    calls = calls;
    did = M.nothing_done core;
    taken = refl;
    waits = λ still. tt;
    moves = λ moving waits. true≢false (sym moving);
    served = record { read = looked M N before after calls look; ends = inl refl; accounted = look.accounted };
    seen = inr look.asked;
    last = λ last. absurd (true≢false (sym last ∙ going));
    same = look.same;
    quiet = look.quiet;
    left = λ live. record { fed = []; all = look.read; left = inl none };
    share = record { fewer = omega arith; spent = omega arith };
    none = λ idle. (none ∙ sym (no_front (unread_of before) (bytes_read calls) (look.read ∙ none)), no_back (unread_of before) (bytes_read calls) (look.read ∙ none));
  }

  -- whose client's stream is over,
  pub over_turn : {given : ℕ} (k : ℕ) (old new : C) (before after : SlotData S) (calls : List StreamCall) → HasLooked N before after calls → has_last_read calls ≡ true → unread_of after ≡ [] → M.DidSteps old new (an_end k ∷ []) no_bytes → M.ended new [] k ≡ true
      → HasTurn M N backlog given given true k true old new before after
  over_turn k old new before after calls look last none did over = record {
    steps = an_end k ∷ [];
    calls = calls;
    did = did;
    taken = (an_end k, refl, refl);
    waits = λ still. absurd (true≢false still);
    moves = λ moving waits. never_ends k waits.0;
    served = record { read = looked M N before after calls look; ends = inr (ap (λ (x : Bool). x || is_shut after) last); accounted = look.accounted };
    seen = inr look.asked;
    last = λ last. over;
    same = look.same;
    quiet = look.quiet;
    left = λ live. record { fed = []; all = look.read; left = inl none };
    share = record { fewer = omega arith; spent = omega arith };
    none = λ idle. absurd (true≢false idle);
  }

  -- and of whose client bytes are unread
  pub fed_turn : {given remains : ℕ} (moved : Bool) (k : ℕ) (had : Bool) (old new : C) (before between after : SlotData S) (calls : List StreamCall) → had ≡ true → HasLooked N before between calls → has_last_read calls ≡ false → IsFedPiece M N backlog given remains moved k old new between after → HasTurn M N backlog given remains moved k had old new before after
  fed_turn moved k false old new before between after calls is look going fed = absurd (true≢false (sym is))
  fed_turn moved k true old new before between after calls is look going fed = record {
    steps = a_piece k fed.piece ∷ [];
    calls = calls;
    did = fed.did;
    taken = (a_piece k fed.piece, refl, (refl, fed.most));
    waits = λ still. ((k, ap (a_piece k) (fed.held still)), tt);
    moves = λ moving waits. fed.moves moving (piece_waits k fed.piece waits.0);
    served = subst (λ (all : List StreamCall). IsServedAt N k (a_piece k fed.piece ∷ []) [] [] all before after) (append-nil calls)
        (served_then N k [] (a_piece k fed.piece ∷ []) [] [] [] calls [] before between after (record { read = looked M N before between calls look; ends = inl refl; accounted = look.accounted }) fed.served);
    seen = inr look.asked;
    last = λ last. absurd (true≢false (sym last ∙ going));
    same = record { kept = fed.same.kept ∙ look.same.kept; mute = fed.same.mute ∙ look.same.mute; shut = fed.same.shut ∙ look.same.shut; noted = fed.same.noted ∙ look.same.noted };
    quiet = look.quiet;
    left = λ live. record {
      fed = fed.piece;
      all = look.read ∙ sym (append-nil (unread_of between)) ∙ fed.served.read ∙ ap (λ (first : List ℕ). first ++ (unread_of after ++ [])) (one_piece k fed.piece) ∙ ap (λ (rest : List ℕ). fed.piece ++ rest) (append-nil (unread_of after));
      left = off_before M backlog k old fed.piece (unread_of after) between before look.same.kept fed.left;
    };
    share = fed.share;
    none = λ idle. absurd (true≢false idle);
  }
