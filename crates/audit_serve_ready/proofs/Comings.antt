-- Each place that is free is offered, one after another.
use Rattle.std.proofs.Common.{◌≡◌, ◌≢◌, ◌⊎◌, inl, inr, ◌∙◌, ℕ, ◌+◌, ◌<◌, ◌≤◌, Bool, true, false, not, ◌&&◌, ◌||◌, List, [], ◌∷◌, refl, sym, ap, arith, true≢false}
use Rattle.std.proofs.lemmas.Bool.{cases_eq}
use Rattle.audit_serve_passes.specs.Streams.{CallModel}
use Rattle.audit_serve_passes.specs.Core.{CoreModel}
use Rattle.audit_serve_ready.specs.Door.{DoorCall, DoorModel}
use Rattle.audit_serve_ready.specs.Slot.{SlotData, has_client}
use Rattle.audit_serve_ready.specs.Places.{slot_at}
use Rattle.audit_serve_ready.specs.declared.newcomer.Newcomer.{Newcomer}
use Rattle.audit_serve_ready.specs.Clients.{ClientChange, a_refusal, AreChanges}
use Rattle.audit_serve_ready.specs.Rounds.{is_free, IsLetIn, IsOfferAnswered, ChangesPlaces, HasTurnedAway}
use Rattle.audit_serve_ready.proofs.Accounts.{either_of}
use Rattle.audit_serve_ready.proofs.TurnByTurn.{neither_of}
use Rattle.audit_serve_ready.proofs.PlaceByPlace.{with_one, one_here, one_there, come_turns, changed_none, changed_more}
use Rattle.audit_serve_ready.proofs.Goings.{both_are, not_true}

-- somebody came to a place below a number
abbrev pub HasCome : {S : Type 0} → ℕ → List (SlotData S) → List (SlotData S) → Type 0
HasCome count before after = (k : ℕ) × (k < count) × (has_client (slot_at k before) ≡ false) × (has_client (slot_at k after) ≡ true)

come_changed : {S : Type 0} (count : ℕ) (before after : List (SlotData S)) → HasCome count before after → after ≡ before → ⊥
come_changed count before after come same = true≢false (sym come.3 ∙ ap (λ slots. has_client (slot_at come.0 slots)) same ∙ come.2)

come_before : {S : Type 0} (k : ℕ) (before between after : List (SlotData S)) → ((other : ℕ) → (other ≡ k → ⊥) → slot_at other after ≡ slot_at other between) → HasCome k before between → HasCome (k + 1) before after
come_before k before between after alone come = (come.0, omega (arith, come.1), come.2, ap has_client (alone come.0 (λ same. omega (arith, come.1, same))) ∙ come.3)

-- ---- who was turned away

away_before : {S : Type 0} (k : ℕ) (these : List (ClientChange S)) (changes : ℕ → List (ClientChange S)) → HasTurnedAway k changes → HasTurnedAway (k + 1) (with_one k these changes)
away_before k these changes away = (away.0, omega (arith, away.1), away.2, one_there k away.0 these changes (λ same. omega (arith, away.1, same)) ∙ away.3)

away_now : {S : Type 0} (k : ℕ) (these : List (ClientChange S)) (changes : ℕ → List (ClientChange S)) → HasTurnedAway (k + 1) (with_one k these changes) → HasTurnedAway k changes ⊎ ((client : Newcomer S) × (these ≡ a_refusal k client ∷ []))
away_now k these changes away = elim (cases_eq away.0 k) [
  | inl same ↦ inr (away.2, sym (one_here k these changes) ∙ sym (ap (with_one k these changes) same) ∙ away.3 ∙ ap (λ (j : ℕ). a_refusal j away.2 ∷ []) same)
  | inr apart ↦ inl (away.0, omega (arith, away.1, apart), away.2, sym (one_there k away.0 these changes apart) ∙ away.3)
]

-- that something moved at the places below a number is said exactly if somebody came or was turned away
pub record IsSaidOf {S : Type 0} (moved : Bool) (count : ℕ) (before after : List (SlotData S)) (changes : ℕ → List (ClientChange S)) : Type 0 where
  pub none : moved ≡ false → HasTurnedAway count changes → ⊥
  pub some : moved ≡ true → HasCome count before after ⊎ HasTurnedAway count changes

said_none : {S : Type 0} (slots : List (SlotData S)) → IsSaidOf false 0 slots slots (λ k. [])
said_none slots = record { none = λ still away. omega (arith, away.1); some = λ moving. absurd (true≢false (sym moving)) }

said_taken : {S : Type 0} (moved : Bool) (k : ℕ) (before between : List (SlotData S)) (changes : ℕ → List (ClientChange S)) → IsSaidOf moved k before between changes → IsSaidOf moved (k + 1) before between (with_one k [] changes)
said_taken moved k before between changes first = record {
  none = λ still away. elim (away_now k [] changes away) [
    | inl earlier ↦ first.none still earlier
    | inr now ↦ absurd (cc now.1)
  ];
  some = λ moving. elim (first.some moving) [
    | inl come ↦ inl (come_before k before between between (λ other apart. refl) come)
    | inr away ↦ inr (away_before k [] changes away)
  ];
}

said_offered : {S : Type 0} (was result : Bool) (k : ℕ) (before between after : List (SlotData S)) (these : List (ClientChange S)) (changes : ℕ → List (ClientChange S)) → has_client (slot_at k before) ≡ false
    → ((other : ℕ) → (other ≡ k → ⊥) → slot_at other after ≡ slot_at other between) → IsSaidOf was k before between changes → (result ≡ false → these ≡ [])
    → (result ≡ true → (has_client (slot_at k after) ≡ true) ⊎ ((client : Newcomer S) × (these ≡ a_refusal k client ∷ []))) → IsSaidOf (was || result) (k + 1) before after (with_one k these changes)
said_offered {S} was result k before between after these changes vacant_there alone first nobody here = record {
  none = λ still away. elim (away_now k these changes away) [
    | inl earlier ↦ first.none (neither_of was result still).0 earlier
    | inr now ↦ absurd (cc (nobody (neither_of was result still).1, now.1))
  ];
  some = λ moving. either_of was result moving earlier now;
}
  where
    earlier : was ≡ true → HasCome (k + 1) before after ⊎ HasTurnedAway (k + 1) (with_one k these changes)
    earlier moving = elim (first.some moving) [
      | inl come ↦ inl (come_before k before between after alone come)
      | inr away ↦ inr (away_before k these changes away)
    ]

    now : result ≡ true → HasCome (k + 1) before after ⊎ HasTurnedAway (k + 1) (with_one k these changes)
    now moving = elim (here moving) [
      | inl there ↦ inl (k, omega arith, vacant_there, there)
      | inr away ↦ inr (k, omega arith, away.0, one_here k these changes ∙ away.1)
    ]

module _ {C D S : Type 0} (M : CoreModel C) (N : CallModel S) (E : DoorModel D S) where
  pub free_ended : (k : ℕ) (core : C) (slot : SlotData S) → is_free M k core slot ≡ true → M.ended core [] k ≡ true
  free_ended k core slot free = (both_are (M.ended core [] k) (not (has_client slot)) free).0

  pub free_vacant : (k : ℕ) (core : C) (slot : SlotData S) → is_free M k core slot ≡ true → has_client slot ≡ false
  free_vacant k core slot free = not_true (has_client slot) (both_are (M.ended core [] k) (not (has_client slot)) free).1

  free_same : (k : ℕ) (old between : C) (slot now : SlotData S) → M.ended between [] k ≡ M.ended old [] k → now ≡ slot → is_free M k old slot ≡ is_free M k between now
  free_same k old between slot now ended same = ap (λ (b : Bool). b && not (has_client slot)) (sym ended) ∙ ap (is_free M k between) (sym same)

  -- at the places below a number; those above are as they were, and so are their sessions
  pub record Coming (moved : Bool) (count : ℕ) (was now : D) (old new : C) (before after : List (SlotData S)) : Type 0 where
    pub came : (backlog first : ℕ) → (comes : ChangesPlaces M N E backlog (IsLetIn M) count first was now old new before after) × IsSaidOf moved count before after comes.changes
    pub ended : (k : ℕ) → count ≤ k → M.ended new [] k ≡ M.ended old [] k
    pub others : (k : ℕ) → count ≤ k → slot_at k after ≡ slot_at k before

  pub coming_none : (core : C) (door : D) (slots : List (SlotData S)) → Coming false 0 door door core core slots slots
  unfolding changed_none
  coming_none core door slots = record {
    came = λ backlog first. (changed_none M N E backlog (IsLetIn M) (come_turns M) first door core slots, said_none slots);
    ended = λ k above. refl;
    others = λ k above. refl;
  }

  pub coming_taken : (moved : Bool) (k : ℕ) (was now : D) (old new : C) (before after : List (SlotData S)) → Coming moved k was now old new before after → is_free M k new (slot_at k after) ≡ false → Coming moved (k + 1) was now old new before after
  unfolding changed_more
  coming_taken moved k was now old new before after first taken = record {
    came = λ backlog turn. let earlier = first.came backlog turn in (
      changed_more M N E backlog (IsLetIn M) (come_turns M) k turn was now now old new new before after after [] [] earlier.0 (E.nothing_called now) (refl, refl)
          (inl (free_same k old new (slot_at k before) (slot_at k after) (first.ended k (omega arith)) (first.others k (omega arith)) ∙ taken, refl, refl)),
      said_taken moved k before after earlier.0.changes earlier.1,
    );
    ended = λ j above. first.ended j (omega (arith, above));
    others = λ j above. first.others j (omega (arith, above));
  }

  pub coming_offered : (moved result : Bool) (k : ℕ) (was mid now : D) (old between new : C) (before middle after : List (SlotData S)) (told : List (DoorCall S)) (changes : List (ClientChange S)) → Coming moved k was mid old between before middle → is_free M k between (slot_at k middle) ≡ true
      → E.DidCalls mid now told → IsOfferAnswered k told changes → ((backlog first : ℕ) → AreChanges M N backlog first changes between new middle after) → (result ≡ false → changes ≡ [])
      → (result ≡ true → (has_client (slot_at k after) ≡ true) ⊎ ((client : Newcomer S) × (changes ≡ a_refusal k client ∷ [])))
      → ((other : ℕ) → (other ≡ k → ⊥) → (M.ended new [] other ≡ M.ended between [] other) × (slot_at other after ≡ slot_at other middle)) → Coming (moved || result) (k + 1) was now old new before after
  unfolding changed_more
  coming_offered moved result k was mid now old between new before middle after told changes first free did answered are nobody somebody alone = record {
    came = λ backlog turn. let earlier = first.came backlog turn in (
      changed_more M N E backlog (IsLetIn M) (come_turns M) k turn was mid now old between new before middle after told changes earlier.0 did (are backlog turn)
          (inr (free_same k old between (slot_at k before) (slot_at k middle) (first.ended k (omega arith)) (first.others k (omega arith)) ∙ free, answered)),
      said_offered moved result k before middle after changes earlier.0.changes (sym (ap has_client (first.others k (omega arith))) ∙ free_vacant k between (slot_at k middle) free) (λ other apart. (alone other apart).1) earlier.1 nobody somebody,
    );
    ended = λ j above. (alone j (λ same. omega (arith, above, same))).0 ∙ first.ended j (omega (arith, above));
    others = λ j above. (alone j (λ same. omega (arith, above, same))).1 ∙ first.others j (omega (arith, above));
  }

  -- in the end it is as it is said of the call
  pub came_in : (moved : Bool) (count : ℕ) (was now : D) (old new : C) (before after : List (SlotData S)) → Coming moved count was now old new before after → (backlog first : ℕ)
      → (comes : ChangesPlaces M N E backlog (IsLetIn M) count first was now old new before after) × (moved ≡ false → HasTurnedAway count comes.changes → ⊥) × (moved ≡ true → (after ≢ before) ⊎ HasTurnedAway count comes.changes)
  came_in moved count was now old new before after coming backlog first = let all = coming.came backlog first in (
    all.0,
    all.1.none,
    λ moving. elim (all.1.some moving) [
      | inl come ↦ inl (come_changed count before after come)
      | inr away ↦ inr away
    ],
  )
