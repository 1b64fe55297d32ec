-- What is done at one place after another, and what the door is told of it.
use Rattle.std.proofs.Common.{◌≡◌, inl, inr, ◌∙◌, ℕ, zero, suc, ◌+◌, ◌<◌, cond, eqb, List, [], ◌∷◌, ◌++◌, length, set, refl, sym, ap, subst, arith, add-one}
use Rattle.std.proofs.lemmas.Bool.{cases_eq, eq-eqb, ne_eqb, cond-true, cond-false}
use Rattle.std.proofs.lemmas.List.{length-set, get_or-set_same, get_or-set_other}
use Rattle.audit_serve_passes.specs.Streams.{CallModel}
use Rattle.audit_serve_passes.specs.Core.{CoreModel}
use Rattle.audit_serve_ready.specs.Door.{DoorCall, DoorModel, joined_below}
use Rattle.audit_serve_ready.specs.Slot.{SlotData, vacant, client_of}
use Rattle.audit_serve_ready.specs.Places.{slot_at}
use Rattle.audit_serve_ready.specs.Clients.{ClientChange, first_after_all, AreChanges, ServesClients}
use Rattle.audit_serve_ready.specs.Rounds.{AreAskings, AsksDoor, IsJudgedByDoor, IsLetGo, IsLetIn, IsOfferAnswered, nobody, let_in, turned_away, JudgesClients, ChangesPlaces}
use Rattle.audit_serve_ready.proofs.Changes.{changes_then, first_after-append}

-- one more of what there is for each number
abbrev pub with_one : {A : Type 0} → ℕ → List A → (ℕ → List A) → ℕ → List A
with_one k these each j = cond (eqb j k) these (each j)

pub one_here : {A : Type 0} (k : ℕ) (these : List A) (each : ℕ → List A) → with_one k these each k ≡ these
one_here k these each = cond-true (eqb k k) these (each k) (eq-eqb k k refl)

pub one_there : {A : Type 0} (k j : ℕ) (these : List A) (each : ℕ → List A) → (j ≡ k → ⊥) → with_one k these each j ≡ each j
one_there k j these each apart = cond-false (eqb j k) these (each j) (ne_eqb j k apart)

joined_same : {A : Type 0} (count : ℕ) (each other : ℕ → List A) → ((j : ℕ) → j < count → each j ≡ other j) → joined_below count each ≡ joined_below count other
joined_same zero each other same = refl
joined_same (suc k) each other same =
    ap (λ front. front ++ each k) (joined_same k each other (λ j below. same j (omega (arith, below))))
    ∙ ap (λ last. joined_below k other ++ last) (same k (omega arith))

pub joined_more : {A : Type 0} (k : ℕ) (these : List A) (each : ℕ → List A) → joined_below (k + 1) (with_one k these each) ≡ joined_below k each ++ these
joined_more k these each =
    ap (λ n. joined_below n (with_one k these each)) (add-one k)
    ∙ ap (λ front. front ++ with_one k these each k) (joined_same k (with_one k these each) each (λ j below. one_there k j these each (λ same. omega (arith, below, same))))
    ∙ ap (λ last. joined_below k each ++ last) (one_here k these each)

are_askings : {S : Type 0} (calls later : List (DoorCall S)) → AreAskings calls → AreAskings later → AreAskings (calls ++ later)
are_askings [] later first second = second
are_askings (call ∷ calls) later first second = (first.0, are_askings calls later first.1 second)

module _ {D S : Type 0} (E : DoorModel D S) where
  pub asks_none : (door : D) → AsksDoor E door door
  asks_none door = record { told = []; are = tt; did = E.nothing_called door }

  pub asks_then : (was mid now : D) → AsksDoor E was mid → AsksDoor E mid now → AsksDoor E was now
  asks_then was mid now first second = record { told = first.told ++ second.told; are = are_askings first.told second.told first.are second.are; did = E.more_called was mid now first.told second.told first.did second.did }

  pub judged_none : (door : D) (slots : List (SlotData S)) → JudgesClients E 0 door door slots slots
  judged_none door slots = record {
    same = refl;
    told = λ k. [];
    did = E.nothing_called door;
    at = λ k below. absurd (omega (arith, below));
    others = λ k above. refl;
  }

  -- the door was told these, and the place is as it says now
  pub judged_more : (k : ℕ) (was mid now : D) (before between : List (SlotData S)) (at : SlotData S) (told : List (DoorCall S)) → k < length before → JudgesClients E k was mid before between → E.DidCalls mid now told
      → IsJudgedByDoor k (client_of (slot_at k before)) told (slot_at k before) at → JudgesClients E (k + 1) was now before (set between k at)
  judged_more k was mid now before between at told within first did here = record {
    same = length-set between k at ∙ first.same;
    told = with_one k told first.told;
    did = subst (E.DidCalls was now) (sym (joined_more k told first.told)) (E.more_called was mid now (joined_below k first.told) told first.did did);
    at = λ j below. elim (cases_eq j k) [
      | inl same ↦ subst (λ (i : ℕ). IsJudgedByDoor i (client_of (slot_at i before)) (with_one k told first.told i) (slot_at i before) (slot_at i (set between k at))) (sym same)
          (subst (λ (now : SlotData S). IsJudgedByDoor k (client_of (slot_at k before)) (with_one k told first.told k) (slot_at k before) now) (sym (get_or-set_same between k at vacant (omega (arith, within, first.same))))
          (subst (λ (calls : List (DoorCall S)). IsJudgedByDoor k (client_of (slot_at k before)) calls (slot_at k before) at) (sym (one_here k told first.told)) here))
      | inr apart ↦
          subst (λ (now : SlotData S). IsJudgedByDoor j (client_of (slot_at j before)) (with_one k told first.told j) (slot_at j before) now) (sym (get_or-set_other between k j at vacant apart))
          (subst (λ (calls : List (DoorCall S)). IsJudgedByDoor j (client_of (slot_at j before)) calls (slot_at j before) (slot_at j between)) (sym (one_there k j told first.told apart)) (first.at j (omega (arith, below, apart))))
    ];
    others = λ j above. get_or-set_other between k j at vacant (λ same. omega (arith, above, same)) ∙ first.others j (omega (arith, above));
  }

  -- the place wasn't touched
  pub judged_same : (k : ℕ) (was mid now : D) (before between : List (SlotData S)) (told : List (DoorCall S)) → JudgesClients E k was mid before between → E.DidCalls mid now told
      → IsJudgedByDoor k (client_of (slot_at k before)) told (slot_at k before) (slot_at k before) → JudgesClients E (k + 1) was now before between
  judged_same k was mid now before between told first did here = record {
    same = first.same;
    told = with_one k told first.told;
    did = subst (E.DidCalls was now) (sym (joined_more k told first.told)) (E.more_called was mid now (joined_below k first.told) told first.did did);
    at = λ j below. elim (cases_eq j k) [
      | inl same ↦ subst (λ (i : ℕ). IsJudgedByDoor i (client_of (slot_at i before)) (with_one k told first.told i) (slot_at i before) (slot_at i between)) (sym same)
          (subst (λ (now : SlotData S). IsJudgedByDoor k (client_of (slot_at k before)) (with_one k told first.told k) (slot_at k before) now) (sym (first.others k (omega arith)))
          (subst (λ (calls : List (DoorCall S)). IsJudgedByDoor k (client_of (slot_at k before)) calls (slot_at k before) (slot_at k before)) (sym (one_here k told first.told)) here))
      | inr apart ↦
          subst (λ (calls : List (DoorCall S)). IsJudgedByDoor j (client_of (slot_at j before)) calls (slot_at j before) (slot_at j between)) (sym (one_there k j told first.told apart)) (first.at j (omega (arith, below, apart)))
    ];
    others = λ j above. first.others j (omega (arith, above));
  }

answered_turns : {S : Type 0} (k first : ℕ) (told : List (DoorCall S)) (changes : List (ClientChange S)) → IsOfferAnswered k told changes → first_after_all first changes ≡ first
answered_turns k first told changes nobody = refl
answered_turns k first told changes (let_in client) = refl
answered_turns k first told changes (turned_away client) = refl

module _ {C S : Type 0} (M : CoreModel C) where
  -- the first turn goes on in passes alone
  pub gone_turns : (k first : ℕ) (core : C) (slot : SlotData S) (told : List (DoorCall S)) (changes : List (ClientChange S)) → IsLetGo M k core slot told changes → first_after_all first changes ≡ first
  gone_turns k first core slot told changes (inl none) = ap (first_after_all first) none.2
  gone_turns k first core slot told changes (inr gone) = ap (first_after_all first) gone.4

  pub come_turns : (k first : ℕ) (core : C) (slot : SlotData S) (told : List (DoorCall S)) (changes : List (ClientChange S)) → IsLetIn M k core slot told changes → first_after_all first changes ≡ first
  come_turns k first core slot told changes (inl none) = ap (first_after_all first) none.2
  come_turns k first core slot told changes (inr (free, answered)) = answered_turns k first told changes answered

module _ {C D S : Type 0} (M : CoreModel C) (N : CallModel S) (E : DoorModel D S) (backlog : ℕ) (At : ℕ → C → SlotData S → List (DoorCall S) → List (ClientChange S) → Type 0)
    (turns : (k first : ℕ) (core : C) (slot : SlotData S) (told : List (DoorCall S)) (changes : List (ClientChange S)) → At k core slot told changes → first_after_all first changes ≡ first) where
  pub joined_turns : (count first : ℕ) (core : C) (slots : List (SlotData S)) (told : ℕ → List (DoorCall S)) (changes : ℕ → List (ClientChange S)) → ((k : ℕ) → k < count → At k core (slot_at k slots) (told k) (changes k))
      → first_after_all first (joined_below count changes) ≡ first
  joined_turns zero first core slots told changes at = refl
  joined_turns (suc k) first core slots told changes at =
      first_after-append first (joined_below k changes) (changes k)
      ∙ ap (λ (n : ℕ). first_after_all n (changes k)) (joined_turns k first core slots told changes (λ j below. at j (omega (arith, below))))
      ∙ turns k first core (slot_at k slots) (told k) (changes k) (at k (omega arith))

  unfoldable pub changed_none : (first : ℕ) (door : D) (core : C) (slots : List (SlotData S)) → ChangesPlaces M N E backlog At 0 first door door core core slots slots
  changed_none first door core slots = record {
    told = λ k. [];
    changes = λ k. [];
    did = E.nothing_called door;
    are = (refl, refl);
    at = λ k below. absurd (omega (arith, below));
  }

  unfoldable pub changed_more : (k first : ℕ) (was mid now : D) (old between new : C) (before middle after : List (SlotData S)) (told : List (DoorCall S)) (changes : List (ClientChange S)) → ChangesPlaces M N E backlog At k first was mid old between before middle
      → E.DidCalls mid now told → AreChanges M N backlog first changes between new middle after → At k old (slot_at k before) told changes → ChangesPlaces M N E backlog At (k + 1) first was now old new before after
  changed_more k first was mid now old between new before middle after told changes done did are here = record {
    told = with_one k told done.told;
    changes = with_one k changes done.changes;
    did = subst (E.DidCalls was now) (sym (joined_more k told done.told)) (E.more_called was mid now (joined_below k done.told) told done.did did);
    are = subst (λ (all : List (ClientChange S)). AreChanges M N backlog first all old new before after) (sym (joined_more k changes done.changes))
        (changes_then M N backlog first old between new before middle after (joined_below k done.changes) changes done.are
        (subst (λ (n : ℕ). AreChanges M N backlog n changes between new middle after) (sym (joined_turns k first old before done.told done.changes done.at)) are));
    at = λ j below. elim (cases_eq j k) [
      | inl same ↦ subst (λ (i : ℕ). At i old (slot_at i before) (with_one k told done.told i) (with_one k changes done.changes i)) (sym same)
          (subst (λ (calls : List (DoorCall S)). At k old (slot_at k before) calls (with_one k changes done.changes k)) (sym (one_here k told done.told))
          (subst (λ (all : List (ClientChange S)). At k old (slot_at k before) told all) (sym (one_here k changes done.changes)) here))
      | inr apart ↦
          subst (λ (calls : List (DoorCall S)). At j old (slot_at j before) calls (with_one k changes done.changes j)) (sym (one_there k j told done.told apart))
          (subst (λ (all : List (ClientChange S)). At j old (slot_at j before) (done.told j) all) (sym (one_there k j changes done.changes apart)) (done.at j (omega (arith, below, apart))))
    ];
  }

  -- these changes, with what the door was told left out
  pub changed_serves : (count first : ℕ) (was now : D) (old new : C) (before after : List (SlotData S)) → ChangesPlaces M N E backlog At count first was now old new before after → ServesClients M N backlog first first old new before after
  changed_serves count first was now old new before after done = record {
    changes = joined_below count done.changes;
    are = done.are;
    turns = joined_turns count first old before done.told done.changes done.at;
  }
