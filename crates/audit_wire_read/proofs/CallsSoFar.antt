-- Calls that were cut off anywhere.
use Rattle.std.specs.Prelude.{List, [], ◌∷◌, ◌++◌, drop, length, slice_index_or}
use Rattle.std.proofs.Common.{◌≡◌, ◌∙◌, inl, inr, refl, sym, ap, subst, arith}
use Rattle.audit_chain.specs.EventData.{EventData}
use Rattle.audit_proof.specs.declared.commitment.Commitment.{Commitment}
use Rattle.audit_verify.specs.State.{StateData, next_state}
use Rattle.audit_wire_read.specs.Outlet.{OutletCall, a_keeping, a_printing}
use Rattle.audit_wire_read.specs.ReadingOn.{reading_calls}
use Rattle.audit_wire_read.specs.Front.{IsKeptBy, CameTo}

tail_of : {calls more : List OutletCall} → calls ≡ more → drop 1 calls ≡ drop 1 more
tail_of same = ap (λ (l : List OutletCall). drop 1 l) same

head_of : {call other : OutletCall} {calls more : List OutletCall} → call ∷ calls ≡ other ∷ more → call ≡ other
head_of {call = call} same = ap (λ (l : List OutletCall). slice_index_or l 0 call) same

begins : (state : StateData) (newest : Commitment) (pieces : List (List EventData)) → (rest : List OutletCall) × (reading_calls state newest pieces ≡ a_keeping state newest ∷ rest)
begins state newest [] = ([], refl)
begins state newest (piece ∷ pieces) = (a_printing state.frontier.count piece ∷ reading_calls (next_state state piece) newest pieces, refl)

one_more : (state : StateData) (piece : List EventData) (shown : List (List EventData)) (kept : StateData) → IsKeptBy (next_state state piece) shown kept → IsKeptBy state (piece ∷ shown) kept
one_more state piece shown kept (inl after) = inl after
one_more state piece shown kept (inr before) = inr (piece ∷ before.0, before.1, ap (λ (l : List (List EventData)). piece ∷ l) before.2, before.3)

kept_none : (state : StateData) (pieces : List (List EventData)) → CameTo state pieces []
kept_none state pieces = record { shown = []; later = pieces; split = refl; printed = refl; kept = inl refl }

kept_first : (state : StateData) (newest : Commitment) (pieces : List (List EventData)) → CameTo state pieces (a_keeping state newest ∷ [])
kept_first state newest pieces = record { shown = []; later = pieces; split = refl; printed = refl; kept = inl refl }

nothing_left : (done rest : List OutletCall) → [] ≡ done ++ rest → done ≡ []
nothing_left [] rest same = refl
nothing_left (call ∷ done) rest same = absurd (omega (arith, ap length same))

pub came_to : (state : StateData) (newest : Commitment) (pieces : List (List EventData)) (done rest : List OutletCall) → reading_calls state newest pieces ≡ done ++ rest → CameTo state pieces done
came_to state newest pieces [] rest same = kept_none state pieces
came_to state newest [] (first ∷ done) rest same =
    subst (λ (l : List OutletCall). CameTo state [] (first ∷ l)) (sym (nothing_left done rest (tail_of same)))
    (subst (λ (call : OutletCall). CameTo state [] (call ∷ [])) (head_of same) (kept_first state newest []))
came_to state newest (piece ∷ pieces) (first ∷ []) rest same =
    subst (λ (call : OutletCall). CameTo state (piece ∷ pieces) (call ∷ [])) (head_of same) (kept_first state newest (piece ∷ pieces))
came_to state newest (piece ∷ pieces) (first ∷ second ∷ []) rest same =
    let one = a_keeping state newest in
    let two = a_printing state.frontier.count piece in
    let done : CameTo state (piece ∷ pieces) (one ∷ two ∷ []) = record { shown = piece ∷ []; later = pieces; split = refl; printed = refl; kept = inr ([], piece, refl, refl) } in
    subst (λ (call : OutletCall). CameTo state (piece ∷ pieces) (call ∷ second ∷ [])) (head_of same)
    (subst (λ (call : OutletCall). CameTo state (piece ∷ pieces) (one ∷ call ∷ [])) (head_of (tail_of same)) done)
came_to state newest (piece ∷ pieces) (first ∷ second ∷ third ∷ done) rest same =
    let next = next_state state piece in
    let one = a_keeping state newest in
    let two = a_printing state.frontier.count piece in
    let left : reading_calls next newest pieces ≡ third ∷ (done ++ rest) = tail_of (tail_of same) in
    let three : a_keeping next newest ≡ third = head_of (sym (begins next newest pieces).1 ∙ left) in
    let before = came_to next newest pieces (third ∷ done) rest left in
    let on : CameTo next pieces (a_keeping next newest ∷ done) = subst (λ (call : OutletCall). CameTo next pieces (call ∷ done)) (sym three) before in
    let all : CameTo state (piece ∷ pieces) (one ∷ two ∷ a_keeping next newest ∷ done) = record {
      shown = piece ∷ on.shown;
      later = on.later;
      split = ap (λ (l : List (List EventData)). piece ∷ l) on.split;
      printed = ap (λ (l : List EventData). piece ++ l) on.printed;
      kept = one_more state piece on.shown _ on.kept;
    } in
    subst (λ (call : OutletCall). CameTo state (piece ∷ pieces) (call ∷ second ∷ third ∷ done)) (head_of same)
    (subst (λ (call : OutletCall). CameTo state (piece ∷ pieces) (one ∷ call ∷ third ∷ done)) (head_of (tail_of same))
    (subst (λ (call : OutletCall). CameTo state (piece ∷ pieces) (one ∷ two ∷ call ∷ done)) three all))
