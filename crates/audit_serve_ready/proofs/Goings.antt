-- Whoever is done goes, from one place after another.
use Rattle.std.proofs.Common.{◌≡◌, inl, inr, ◌∙◌, ℕ, ◌+◌, ◌<◌, ◌≤◌, Bool, true, false, not, ◌&&◌, Some, List, [], ◌∷◌, length, set, refl, sym, ap, arith, true≢false}
use Rattle.std.proofs.lemmas.Bool.{cases_eq}
use Rattle.std.proofs.lemmas.List.{length-set, get_or-set_same, get_or-set_other}
use Rattle.audit_serve_passes.specs.Streams.{CallModel}
use Rattle.audit_serve_passes.specs.Core.{CoreModel}
use Rattle.audit_serve_ready.specs.Door.{DoorModel, a_parting}
use Rattle.audit_serve_ready.specs.Slot.{SlotData, vacant, serving, unheard, closing, client_of, has_client, has_bytes, has_kept, kept_of, noted_of, departure_for}
use Rattle.audit_serve_ready.specs.Places.{slot_at}
use Rattle.audit_serve_ready.specs.Clients.{a_going}
use Rattle.audit_serve_ready.specs.Rounds.{is_done, IsLetGo, ChangesPlaces}
use Rattle.audit_serve_ready.proofs.PlaceByPlace.{gone_turns, changed_none, changed_more}

pub both_are : (x y : Bool) → (x && y) ≡ true → (x ≡ true) × (y ≡ true)
both_are true y both = (refl, both)
both_are false y both = absurd (true≢false (sym both))

pub and_false : (x y : Bool) → y ≡ false → (x && y) ≡ false
and_false true y h = h
and_false false y h = refl

pub not_true : (x : Bool) → not x ≡ true → x ≡ false
not_true true h = absurd (true≢false (sym h))
not_true false h = refl

no_bytes_there : (bytes : List ℕ) → has_bytes bytes ≡ false → bytes ≡ []
no_bytes_there [] none = refl
no_bytes_there (byte ∷ bytes) none = absurd (true≢false none)

none_kept : {S : Type 0} (slot : SlotData S) → has_kept slot ≡ false → kept_of slot ≡ []
none_kept vacant none = refl
none_kept (serving client unread kept noted) none = no_bytes_there kept none
none_kept (unheard client unread noted) none = refl
none_kept (closing client unread noted) none = refl

-- somebody went from a place below a number
abbrev pub HasGone : {S : Type 0} → ℕ → List (SlotData S) → List (SlotData S) → Type 0
HasGone count before after = (k : ℕ) × (k < count) × (has_client (slot_at k before) ≡ true) × (has_client (slot_at k after) ≡ false)

pub gone_changed : {S : Type 0} (count : ℕ) (before after : List (SlotData S)) → HasGone count before after → after ≡ before → ⊥
gone_changed count before after gone same = true≢false (sym gone.2 ∙ sym (ap (λ slots. has_client (slot_at gone.0 slots)) same) ∙ gone.3)

pub gone_before : {S : Type 0} (k : ℕ) (before between : List (SlotData S)) (at : SlotData S) → HasGone k before between → HasGone (k + 1) before (set between k at)
gone_before k before between at gone = (gone.0, omega (arith, gone.1), gone.2, ap has_client (get_or-set_other between k gone.0 at vacant (λ same. omega (arith, gone.1, same))) ∙ gone.3)

pub gone_still : {S : Type 0} (k : ℕ) (before between : List (SlotData S)) → HasGone k before between → HasGone (k + 1) before between
gone_still k before between gone = (gone.0, omega (arith, gone.1), gone.2, gone.3)

pub gone_here : {S : Type 0} (k : ℕ) (before between : List (SlotData S)) (at : SlotData S) → k < length between → has_client (slot_at k before) ≡ true → at ≡ vacant → HasGone (k + 1) before (set between k at)
gone_here k before between at within there left = (k, omega arith, there, ap has_client (get_or-set_same between k at vacant within ∙ left))

module _ {C D S : Type 0} (M : CoreModel C) (N : CallModel S) (E : DoorModel D S) where
  pub done_vacant : (k : ℕ) (core : C) (slot : SlotData S) → slot ≡ vacant → is_done M k core slot ≡ false
  done_vacant k core slot is = and_false (M.ended core [] k) (has_client slot && not (has_kept slot)) (ap (λ (s : SlotData S). has_client s && not (has_kept s)) is)

  -- at the places below a number
  pub record Leaving (core : C) (count : ℕ) (was now : D) (before after : List (SlotData S)) : Type 0 where
    pub same : length after ≡ length before
    pub went : (backlog first : ℕ) → ChangesPlaces M N E backlog (IsLetGo M) count first was now core core before after
    pub none_done : (k : ℕ) → k < count → is_done M k core (slot_at k after) ≡ false
    pub others : (k : ℕ) → count ≤ k → slot_at k after ≡ slot_at k before

  pub leaving_none : (core : C) (door : D) (slots : List (SlotData S)) → Leaving core 0 door door slots slots
  leaving_none core door slots = record {
    same = refl;
    went = λ backlog first. changed_none M N E backlog (IsLetGo M) (gone_turns M) first door core slots;
    none_done = λ k below. absurd (omega (arith, below));
    others = λ k above. refl;
  }

  pub leaving_stays : (k : ℕ) (core : C) (was now : D) (before between : List (SlotData S)) → Leaving core k was now before between → is_done M k core (slot_at k between) ≡ false → Leaving core (k + 1) was now before between
  leaving_stays k core was now before between first stays = record {
    same = first.same;
    went = λ backlog turn. changed_more M N E backlog (IsLetGo M) (gone_turns M) k turn was now now core core core before between between [] [] (first.went backlog turn) (E.nothing_called now) (refl, refl)
        (inl (sym (ap (is_done M k core) (first.others k (omega arith))) ∙ stays, refl, refl));
    none_done = λ j below. elim (cases_eq j k) [
      | inl same ↦ ap (λ (i : ℕ). is_done M i core (slot_at i between)) same ∙ stays
      | inr apart ↦ first.none_done j (omega (arith, below, apart))
    ];
    others = λ j above. first.others j (omega (arith, above));
  }

  pub leaving_goes : (k : ℕ) (core : C) (was mid now : D) (client : S) (before between : List (SlotData S)) (left at : SlotData S) (cut : Bool) → k < length between → Leaving core k was mid before between → left ≡ slot_at k between → cut ≡ M.cut_off core k
      → is_done M k core (slot_at k between) ≡ true → client_of (slot_at k between) ≡ Some client → M.output core k ≡ [] → E.DidCalls mid now (a_parting k client (departure_for cut (noted_of left)) ∷ []) → at ≡ vacant → Leaving core (k + 1) was now before (set between k at)
  leaving_goes k core was mid now client before between left at cut within first same_left same_cut done is taken told gone =
      let slot = slot_at k between in
      let ended = both_are (M.ended core [] k) (has_client slot && not (has_kept slot)) done in
      let there = both_are (has_client slot) (not (has_kept slot)) ended.1 in
      let here = first.others k (omega arith) in
      record {
        same = length-set between k at ∙ first.same;
        went = λ backlog turn. changed_more M N E backlog (IsLetGo M) (gone_turns M) k turn was mid now core core core before between (set between k at) (a_parting k client (departure_for cut (noted_of left)) ∷ []) (a_going k ∷ []) (first.went backlog turn) told (
          core,
          set between k at,
          record {
            same = refl;
            ended = ended.0;
            taken = taken;
            within = within;
            had = there.0;
            written = none_kept slot (not_true (has_kept slot) there.1);
            place = ap (set between k) gone;
          },
          (refl, refl),
        )
            (inr (client, sym (ap (is_done M k core) here) ∙ done, sym (ap client_of here) ∙ is, ap (λ (b : Bool). a_parting k client (departure_for b (noted_of left)) ∷ []) same_cut ∙ ap (λ (was : SlotData S). a_parting k client (departure_for (M.cut_off core k) (noted_of was)) ∷ []) (same_left ∙ here), refl));
        none_done = λ j below. elim (cases_eq j k) [
          | inl same ↦ done_vacant j core (slot_at j (set between k at)) (ap (λ (i : ℕ). slot_at i (set between k at)) same ∙ get_or-set_same between k at vacant within ∙ gone)
          | inr apart ↦ ap (is_done M j core) (get_or-set_other between k j at vacant apart) ∙ first.none_done j (omega (arith, below, apart))
        ];
        others = λ j above. get_or-set_other between k j at vacant (λ same. omega (arith, above, same)) ∙ first.others j (omega (arith, above));
      }

  pub had_client : (k : ℕ) (core : C) (slot : SlotData S) → is_done M k core slot ≡ true → has_client slot ≡ true
  had_client k core slot done =
      (both_are (has_client slot) (not (has_kept slot)) (both_are (M.ended core [] k) (has_client slot && not (has_kept slot)) done).1).0
