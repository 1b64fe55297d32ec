-- One layer of a climb.
use Rattle.std.proofs.Common.{◌≡◌, ℕ, suc, ◌+◌, ◌-◌, ◌^◌, ◌<◌, ◌≤◌, List, Some, None, refl, ap, ◌∙◌, inl, inr}
use Rattle.std.proofs.lemmas.Bool.{cases_lt}
use Rattle.audit_tree.proofs.Choices.{cond-le, cond-gt, cond-lt, cond-ge}
use Rattle.audit_proof.specs.Climb.{Steps, climb, up_alone, up_with}

module _ {V : Type 0} (steps : Steps V) (from : ℕ) where
  pub climb-none : (place count : ℕ) (value : V) (hashes : List (List ℕ)) →
      climb steps from 0 place count value hashes ≡ Some (value, hashes)
  unfolding climb
  climb-none place count value hashes = refl

  -- through the left half of a node whose right half has no leaves
  pub climb-alone : (height place count : ℕ) (value : V) (hashes : List (List ℕ)) →
      place < 2 ^ (from + height) → count ≤ 2 ^ (from + height) →
      climb steps from (suc height) place count value hashes
      ≡ up_alone (steps.alone (from + height)) (climb steps from height place count value hashes)
  unfolding climb
  climb-alone height place count value hashes h last =
      cond-lt place (2 ^ (from + height)) _ _ h ∙ cond-le count (2 ^ (from + height)) _ _ last

  -- through the left half of a node with leaves in both halves
  pub climb-right : (height place count : ℕ) (value : V) (hashes : List (List ℕ)) →
      place < 2 ^ (from + height) → 2 ^ (from + height) < count →
      climb steps from (suc height) place count value hashes
      ≡ up_with (steps.with_right (from + height)) (climb steps from height place count value hashes)
  unfolding climb
  climb-right height place count value hashes h more =
      cond-lt place (2 ^ (from + height)) _ _ h ∙ cond-gt count (2 ^ (from + height)) _ _ more

  -- through the right half
  pub climb-left : (height place count : ℕ) (value : V) (hashes : List (List ℕ)) →
      2 ^ (from + height) ≤ place →
      climb steps from (suc height) place count value hashes
      ≡ up_with (steps.with_left (from + height))
      (climb steps from height (place - 2 ^ (from + height)) (count - 2 ^ (from + height)) value hashes)
  unfolding climb
  climb-left height place count value hashes h = cond-ge place (2 ^ (from + height)) _ _ h

  -- if nothing is reached in the left half, nothing is reached above it
  pub climb-lost : (height place count : ℕ) (value : V) (hashes : List (List ℕ)) →
      place < 2 ^ (from + height) → climb steps from height place count value hashes ≡ None →
      climb steps from (suc height) place count value hashes ≡ None
  climb-lost height place count value hashes h lost = elim (cases_lt (2 ^ (from + height)) count) [
    | inl more ↦ climb-right height place count value hashes h more ∙ ap (up_with (steps.with_right (from + height))) lost
    | inr last ↦ climb-alone height place count value hashes h last ∙ ap (up_alone (steps.alone (from + height))) lost
  ]
