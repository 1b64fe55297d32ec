-- The outcome of two climbs, one layer up.
use Rattle.std.proofs.Common.{◌≡◌, ℕ, List, ◌+◌, ◌∷◌, ◌++◌, Some, None, Result, length, take, drop, refl, sym, ap, ◌∙◌, arith, inl, inr, length-append}
use Rattle.std.specs.Prelude.{IfOk}
use Rattle.std.proofs.lemmas.List.{drop_at, take_at}
use Rattle.audit_proof.specs.declared.meeting.Meeting.{Meeting}
use Rattle.audit_proof.specs.declared.meeting.Meeting.TheVariants.{Met, Apart, Lost}
use Rattle.audit_proof.specs.declared.climb.Reached.{Reached}
use Rattle.audit_proof.specs.declared.side.Side.{Side}
use Rattle.audit_proof.specs.declared.side.Side.TheVariants.{Left, Right}
use Rattle.audit_proof.specs.Climb.{Climbed, one_value, step_with, text_with, up_with}
use Rattle.audit_proof.specs.Meeting.{IsMeeting}

-- equal lists whose ends have one length have equal ends
same_ends : (a b c d : List ℕ) → a ++ b ≡ c ++ d → length b ≡ length d → b ≡ d
same_ends a b c d e same =
    let front : length c ≡ length a = omega (arith, ap length e, length-append a b, length-append c d) in
    sym (drop_at a b (length a) (omega arith)) ∙ ap (drop (length a)) e ∙ drop_at c d (length a) front

-- equal lists whose fronts have one length have equal fronts
same_fronts : (a b c d : List ℕ) → a ++ b ≡ c ++ d → length a ≡ length c → a ≡ c
same_fronts a b c d e same =
    sym (take_at a b (length a) refl) ∙ ap (take (length a)) e ∙ take_at c d (length a) (sym same)

-- different values have different texts
pub same_values : (side : Side) (v w a b : List ℕ) → text_with side v a ≡ text_with side w b → length v ≡ length w → v ≡ w
same_values Left v w a b e same = same_ends a v b w (let joined : a ++ v ≡ b ++ w = cc in joined) same
same_values Right v w a b e same = same_fronts v a w b (let joined : v ++ a ≡ w ++ b = cc in joined) same

-- hashing the text of a value and its sibling is one step up
value_up : (H : List ℕ → List ℕ) (side : Side) (layer : ℕ) (value hash : List ℕ) →
    H (text_with side value hash) ≡ step_with (one_value H) side layer value hash
value_up H Left layer value hash = refl
value_up H Right layer value hash = refl

-- hashing the text of a value and the next hash is one step up from what was reached
pub reached_up : (H : List ℕ → List ℕ) (side : Side) (value sibling text : List ℕ) (hashes : List (List ℕ)) (used : ℕ) →
    text ≡ text_with side value sibling → drop used hashes ≡ sibling ∷ drop (used + 1) hashes →
    Some (H text, drop (used + 1) hashes) ≡ up_with (step_with (one_value H) side 0) (Some (value, drop used hashes))
reached_up H side value sibling text hashes used e split =
    let steps = one_value H in
    let rest = drop (used + 1) hashes in
    ap (λ t. Some (H t, rest)) e
    ∙ ap (λ v. Some (v, rest)) (value_up H side 0 value sibling)
    ∙ ap (λ hs. up_with (step_with steps side 0) (Some (value, hs))) (sym split)

module _ (H : List ℕ → List ℕ) (lefts rights : List (List ℕ)) where
  -- an outcome of the same climbs
  pub meeting_moved : {E : Type 0} (result : Result Meeting E) (over_left over_right to_left to_right : Climbed (List ℕ)) →
      IfOk result (IsMeeting H lefts rights over_left over_right) → over_left ≡ to_left → over_right ≡ to_right →
      IfOk result (IsMeeting H lefts rights to_left to_right)
  meeting_moved result over_left over_right to_left to_right h p q = rw (← p, ← q) h

  -- an outcome other than `Apart` remains one layer up, if nothing is reached above where nothing was below
  pub meeting_up : (meeting : Meeting) (over_left over_right to_left to_right : Climbed (List ℕ)) →
      IsMeeting H lefts rights over_left over_right meeting →
      ((left right : Reached (List ℕ)) → meeting ≡ Apart left right → ⊥) →
      (over_left ≡ None → to_left ≡ None) → (over_right ≡ None → to_right ≡ None) →
      IsMeeting H lefts rights to_left to_right meeting
  meeting_up (Met c) over_left over_right to_left to_right h apart p q = h
  meeting_up (Apart left right) over_left over_right to_left to_right h apart p q = absurd (apart left right refl)
  meeting_up Lost over_left over_right to_left to_right h apart p q = elim h [ inl l ↦ inl (p l) | inr r ↦ inr (q r) ]
