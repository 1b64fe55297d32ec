-- Rounds one after another.
use Rattle.std.proofs.Common.{◌≡◌, ◌⊎◌, inl, inr, ℕ, ◌+◌, false, List, sym, subst, add-one}
use Rattle.audit_serve_passes.specs.Streams.{CallModel}
use Rattle.audit_serve_passes.specs.Core.{CoreModel}
use Rattle.audit_serve_ready.specs.declared.next.Next.TheVariants as next
use Rattle.audit_serve_ready.specs.Door.{DoorModel}
use Rattle.audit_serve_ready.specs.Slot.{SlotData}
use Rattle.audit_serve_ready.specs.Rounds.{first_after_rounds, ServesPass, IsRound, AreRounds, EndsServing}

module _ {C D S : Type 0} (M : CoreModel C) (N : CallModel S) (E : DoorModel D S) (backlog : ℕ) where
  pub rounds_more : (rounds first : ℕ) (was mid now : D) (old between new : C) (before middle after : List (SlotData S)) → first ≡ first_after_rounds rounds → AreRounds M N E backlog rounds was mid old between before middle
      → IsRound M N E backlog next.Again first mid now between new middle after → AreRounds M N E backlog (rounds + 1) was now old new before after
  rounds_more rounds first was mid now old between new before middle after is are round =
      subst (λ (n : ℕ). AreRounds M N E backlog n was now old new before after) (sym (add-one rounds))
      (mid, between, middle, are, subst (λ (n : ℕ). IsRound M N E backlog next.Again n mid now between new middle after) is round)

  pub ends_after : (rounds first : ℕ) (was now : D) (old new : C) (before after : List (SlotData S)) → first ≡ first_after_rounds rounds
      → (IsRound M N E backlog next.Stop first was now old new before after ⊎ ServesPass M N E backlog false first was now old new before after) → EndsServing M N E backlog rounds was now old new before after
  ends_after rounds first was now old new before after is (inl round) =
      inl (subst (λ (n : ℕ). IsRound M N E backlog next.Stop n was now old new before after) is round)
  ends_after rounds first was now old new before after is (inr pass) =
      inr (inl (subst (λ (n : ℕ). ServesPass M N E backlog false n was now old new before after) is pass))
