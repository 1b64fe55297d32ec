-- The hashes of a membership proof lead to a root from each leaf hash, or from none.
use Rattle.std.proofs.Common.{inl, inr, ◌≡◌, true, ℕ, zero, suc, ◌+◌, ◌-◌, ◌^◌, List, [], ◌∷◌, Option, Some, None, refl, sym, ap, ◌∙◌}
use Rattle.std.specs.Prelude.{IfSome}
use Rattle.std.specs.Option.{is_some}
use Rattle.std.proofs.lemmas.Bool.{cases_lt, false≢true}
use Rattle.std.proofs.lemmas.Option.{none-some}
use Rattle.audit_tree.specs.Subtree.{depth}
use Rattle.audit_proof.specs.declared.commitment.Commitment.{Commitment}
use Rattle.audit_proof.specs.Climb.{Climbed, Steps, climb, one_value, up_alone, up_with, whole}
use Rattle.audit_proof.specs.Acceptance.{AcceptsLeaf, LeadsUp}
use Rattle.audit_proof.proofs.ClimbLemmas.{climb-none, climb-alone, climb-right, climb-left}

-- the hashes that a climb leaves over
abbrev left_by : {V : Type 0} → Climbed V → Option (List (List ℕ))
left_by None = None
left_by (Some (value, rest)) = Some rest

left-alone : {V : Type 0} (step : V → V) (a b : Climbed V) → left_by a ≡ left_by b → left_by (up_alone step a) ≡ left_by (up_alone step b)
left-alone step None None same = refl
left-alone step None (Some (w, s)) same = absurd (none-some s same)
left-alone step (Some (v, r)) None same = absurd (none-some r (sym same))
left-alone step (Some (v, r)) (Some (w, s)) same = same

left-with : {V : Type 0} (step : V → List ℕ → V) (a b : Climbed V) → left_by a ≡ left_by b → left_by (up_with step a) ≡ left_by (up_with step b)
left-with step None None same = refl
left-with step None (Some (w, s)) same = absurd (none-some s same)
left-with step (Some (v, r)) None same = absurd (none-some r (sym same))
left-with step (Some (v, [])) (Some (w, [])) same = refl
left-with step (Some (v, [])) (Some (w, y ∷ s)) same = absurd (cc same)
left-with step (Some (v, x ∷ r)) (Some (w, [])) same = absurd (cc same)
left-with step (Some (v, x ∷ r)) (Some (w, y ∷ s)) same = cc

-- a climb leaves the same hashes over from every value
left_alike : {V : Type 0} (steps : Steps V) (from height place count : ℕ) (v w : V) (hashes : List (List ℕ))
    → left_by (climb steps from height place count v hashes) ≡ left_by (climb steps from height place count w hashes)
left_alike steps from zero place count v w hashes =
    ap left_by (climb-none steps from place count v hashes) ∙ ap left_by (sym (climb-none steps from place count w hashes))
left_alike steps from (suc height) place count v w hashes =
    let half = 2 ^ (from + height) in
    elim (cases_lt place half) [
      | inr right ↦
          let below = left_alike steps from height (place - half) (count - half) v w hashes in
          ap left_by (climb-left steps from height place count v hashes right)
          ∙ left-with (steps.with_left (from + height)) _ _ below
          ∙ ap left_by (sym (climb-left steps from height place count w hashes right))
      | inl left ↦
          let below = left_alike steps from height place count v w hashes in
          elim (cases_lt half count) [
            | inl more ↦ ap left_by (climb-right steps from height place count v hashes left more)
                ∙ left-with (steps.with_right (from + height)) _ _ below
                ∙ ap left_by (sym (climb-right steps from height place count w hashes left more))
            | inr last ↦ ap left_by (climb-alone steps from height place count v hashes left last)
                ∙ left-alone (steps.alone (from + height)) _ _ below
                ∙ ap left_by (sym (climb-alone steps from height place count w hashes left last))
          ]
    ]

-- if one climb uses all hashes, so does every climb that leaves the same over
record IsWhole {V : Type 0} (climbed : Climbed V) : Type 0 where
  value : V
  is : whole climbed ≡ Some value

whole_alike : {V : Type 0} (a b : Climbed V) (value : V) → left_by a ≡ left_by b → whole a ≡ Some value → IsWhole b
whole_alike None b value same all = absurd (none-some value all)
whole_alike (Some (v, x ∷ r)) b value same all = absurd (none-some value all)
whole_alike (Some (v, [])) None value same all = absurd (none-some [] (sym same))
whole_alike (Some (v, [])) (Some (w, [])) value same all = record { value = w; is = refl }
whole_alike (Some (v, [])) (Some (w, y ∷ s)) value same all = absurd (cc same)

-- hashes that lead to a root from one leaf hash do so from every other
pub leads_from : (H : List ℕ → List ℕ) (commitment : Commitment) (place : ℕ) (leaf : List ℕ) (hashes : List (List ℕ)) → AcceptsLeaf H commitment place leaf hashes
    → LeadsUp H commitment.count place hashes
leads_from H commitment place leaf hashes accepted = λ other.
    let count = commitment.count in
    let alike = left_alike (one_value H) 0 (depth count) place count leaf other hashes in
    let all = whole_alike _ (climb (one_value H) 0 (depth count) place count other hashes) commitment.root alike accepted.root in
    (all.value, record { within = accepted.within; small = accepted.small; root = all.is })

abbrev with_root : Commitment → List ℕ → Commitment
with_root commitment root = record { count = commitment.count; root = root }

-- a computed root shows that the hashes lead to one
pub leads_some : (H : List ℕ → List ℕ) (commitment : Commitment) (place : ℕ) (leaf : List ℕ) (hashes : List (List ℕ)) (found : Option (List ℕ))
    → IfSome found (λ root. AcceptsLeaf H (with_root commitment root) place leaf hashes) → is_some found ≡ true → LeadsUp H commitment.count place hashes
leads_some H commitment place leaf hashes None accepted some = absurd (false≢true some)
leads_some H commitment place leaf hashes (Some root) accepted some = leads_from H (with_root commitment root) place leaf hashes accepted

-- hashes that lead to a root give a computed root
pub leads_only : (H : List ℕ → List ℕ) (commitment : Commitment) (place : ℕ) (leaf : List ℕ) (hashes : List (List ℕ)) (found : Option (List ℕ))
    → ((root : List ℕ) → AcceptsLeaf H (with_root commitment root) place leaf hashes → found ≡ Some root) → LeadsUp H commitment.count place hashes → is_some found ≡ true
leads_only H commitment place leaf hashes found only leads = let there = leads leaf in ap is_some (only there.0 there.1)
