-- The client of one place, as long as it stays.
use Rattle.std.proofs.Common.{◌≡◌, ℕ, ◌<◌, None, List, [], ◌∷◌, length, set, sym, ap, subst, ◌∙◌, arith}
use Rattle.std.proofs.lemmas.List.{length-set, get_or-set_same, get_or-set_other}
use Rattle.audit_serve_passes.specs.Streams.{CallModel}
use Rattle.audit_serve_passes.specs.Core.{CoreModel}
use Rattle.audit_serve_ready.specs.declared.newcomer.Newcomer.{Newcomer}
use Rattle.audit_serve_ready.specs.Slot.{SlotData, vacant, serving}
use Rattle.audit_serve_ready.specs.Places.{slot_at, IsServedAt}
use Rattle.audit_serve_ready.specs.Clients.{ClientChange, a_pass, a_coming, a_refusal, a_going, next_first, AreChanges}
use Rattle.audit_serve_ready.specs.Stays.{steps_in, taken_in, calls_in, StaysAt}
use Rattle.audit_serve_ready.proofs.Accounts.{served_elsewhere, served_then}

module _ {C S : Type 0} (M : CoreModel C) (N : CallModel S) (backlog : ℕ) where
  abbrev Stayed : ℕ → List (ClientChange S) → SlotData S → SlotData S → Type 0
  Stayed k changes before after = IsServedAt N k (steps_in changes) [] (taken_in k changes) (calls_in k changes) before after

  -- a change at another place
  set_elsewhere : (k j : ℕ) (changes : List (ClientChange S)) (before between after : List (SlotData S)) (slot : SlotData S) → (k ≡ j → ⊥) → between ≡ set before j slot → k < length before
      → (k < length between → Stayed k changes (slot_at k between) (slot_at k after)) → Stayed k changes (slot_at k before) (slot_at k after)
  set_elsewhere k j changes before between after slot apart place within later =
      subst (λ (now : SlotData S). Stayed k changes now (slot_at k after)) (ap (slot_at k) place ∙ get_or-set_other before j k slot vacant apart)
      (later (omega (arith, within, ap length place, length-set before j slot)))

  stayed : (first k : ℕ) (changes : List (ClientChange S)) (old new : C) (before after : List (SlotData S)) → AreChanges M N backlog first changes old new before after → StaysAt k changes → k < length before → Stayed k changes (slot_at k before) (slot_at k after)
  stayed first k [] old new before after are stays within =
      subst (λ (slots : List (SlotData S)). IsServedAt N k [] [] [] [] (slot_at k before) (slot_at k slots)) (sym are.1) (served_elsewhere N k [] (slot_at k before) tt)
  stayed first k (a_pass steps taken calls ∷ changes) old new before after are stays within =
      served_then N k steps (steps_in changes) [] (taken k) (taken_in k changes) (calls k) (calls_in k changes) (slot_at k before) (slot_at k are.1) (slot_at k after) (are.2.served.at k within)
      (stayed (next_first first) k changes are.0 new are.1 after are.3 stays (omega (arith, within, are.2.served.count)))
  stayed first k (a_coming j client ∷ changes) old new before after are stays within =
      set_elsewhere k j changes before are.1 after (serving client.stream [] [] None) stays.0 are.2.place within (stayed first k changes are.0 new are.1 after are.3 stays.1)
  stayed first k (a_refusal j client ∷ changes) old new before after are stays within =
      subst (λ (slots : List (SlotData S)). Stayed k changes (slot_at k slots) (slot_at k after)) are.2.places (stayed first k changes are.0 new are.1 after are.3 stays (omega (arith, within, ap length are.2.places)))
  stayed first k (a_going j ∷ changes) old new before after are stays within =
      set_elsewhere k j changes before are.1 after vacant stays.0 are.2.place within (stayed first k changes are.0 new are.1 after are.3 stays.1)

  pub stayed_from_coming : (first k : ℕ) (client : Newcomer S) (changes : List (ClientChange S)) (old new : C) (before after : List (SlotData S)) → AreChanges M N backlog first (a_coming k client ∷ changes) old new before after → StaysAt k changes
      → Stayed k changes (serving client.stream [] [] None) (slot_at k after)
  stayed_from_coming first k client changes old new before after are stays =
      subst (λ (now : SlotData S). Stayed k changes now (slot_at k after)) (ap (slot_at k) are.2.place ∙ get_or-set_same before k (serving client.stream [] [] None) vacant are.2.within)
      (stayed first k changes are.0 new are.1 after are.3 stays (omega (arith, are.2.within, ap length are.2.place, length-set before k (serving client.stream [] [] None))))
