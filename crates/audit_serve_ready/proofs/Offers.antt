-- What is kept is offered to the clients, one after another and again and again.
use Rattle.std.proofs.Common.{◌≡◌, inl, inr, ◌∙◌, ℕ, ◌+◌, ◌<◌, ◌≤◌, Bool, true, false, List, [], ◌∷◌, ◌++◌, length, set, get_or, refl, sym, ap, subst, arith, add-one, true≢false}
use Rattle.std.proofs.lemmas.Bool.{cases_Bool, cases_eq}
use Rattle.std.proofs.lemmas.List.{get_or-set_same, get_or-set_other}
use Rattle.audit_serve_passes.specs.Streams.{StreamCall, CallModel, calls_for, has_failed_write}
use Rattle.audit_serve_passes.specs.CallLaws.{failed-append}
use Rattle.audit_serve_passes.proofs.Calls.{calls_here, or_left, or_right}
use Rattle.audit_serve_passes.proofs.Transitions.{in_any}
use Rattle.audit_serve_ready.specs.declared.next.Next.TheVariants as next
use Rattle.audit_serve_ready.specs.Door.{DoorModel, a_pause}
use Rattle.audit_serve_ready.specs.Slot.{SlotData, vacant, serving, unheard, closing, kept_of, is_mute, is_shut, HasWriteLeaving, IsOffered, IsPushed}
use Rattle.audit_serve_ready.specs.Places.{slot_at, WritesOn, OffersKept}
use Rattle.audit_serve_ready.specs.Rounds.{OffersOn}
use Rattle.audit_serve_ready.proofs.Passes.{writes_none, writes_then, place_writes}

left_first : (rest : List ℕ) (calls later : List StreamCall) → HasWriteLeaving rest calls → HasWriteLeaving rest (calls ++ later)
left_first rest [] later left = absurd left
left_first rest (call ∷ calls) later (inl here) = inl here
left_first rest (call ∷ calls) later (inr there) = inr (left_first rest calls later there)

left_later : (rest : List ℕ) (calls later : List StreamCall) → HasWriteLeaving rest later → HasWriteLeaving rest (calls ++ later)
left_later rest [] later left = left
left_later rest (call ∷ calls) later left = inr (left_later rest calls later left)

-- a place whose client takes replies isn't shut
heard_open : {S : Type 0} (slot : SlotData S) → is_mute slot ≡ false → is_shut slot ≡ false
heard_open vacant heard = absurd (true≢false heard)
heard_open (serving client unread kept noted) heard = refl
heard_open (unheard client unread noted) heard = absurd (true≢false heard)
heard_open (closing client unread noted) heard = absurd (true≢false heard)

pub offered_first : {S : Type 0} (calls later : List StreamCall) (slot now : SlotData S) → now ≡ slot → IsOffered calls slot → IsOffered (calls ++ later) now
offered_first calls later slot now same offered =
    subst (IsOffered (calls ++ later)) (sym same) (λ kept. left_first (kept_of slot) calls later (offered kept))

pub offered_later : {S : Type 0} (calls these later : List StreamCall) (slot now : SlotData S) → now ≡ slot → later ≡ these → IsOffered these slot → IsOffered (calls ++ later) now
offered_later calls these later slot now same is offered =
    subst (λ (all : List StreamCall). IsOffered (calls ++ all) now) (sym is) (subst (IsOffered (calls ++ these)) (sym same) (λ kept. left_later (kept_of slot) calls these (offered kept)))

module _ {S : Type 0} (N : CallModel S) where
  -- to the clients of the places below a number
  pub record OffersBelow (count : ℕ) (before after : List (SlotData S)) : Type 0 where
    pub writes : WritesOn N before after
    pub offered : (k : ℕ) → k < count → IsOffered (writes.calls k) (slot_at k after)
    pub dropped : (k : ℕ) → is_mute (slot_at k before) ≡ false → is_mute (slot_at k after) ≡ true → has_failed_write (writes.calls k) ≡ true

  pub offers_none : (slots : List (SlotData S)) → OffersBelow 0 slots slots
  offers_none slots = record { writes = writes_none N slots; offered = λ k below. absurd (omega (arith, below)); dropped = λ k heard mute. absurd (true≢false (sym mute ∙ heard)) }

  -- if nothing more is to be kept, no place is shut
  only_failed : {moved : Bool} (before after : SlotData S) (pushed : IsPushed N moved [] before after) → is_mute before ≡ false → is_mute after ≡ true → has_failed_write pushed.calls ≡ true
  only_failed before after pushed heard mute = elim (pushed.dropped heard mute) [
    | inl failed ↦ failed
    | inr shut ↦ absurd ((pushed.closed (heard_open before heard) shut).1 refl)
  ]

  pub offers_more : {moved : Bool} (k : ℕ) (before between : List (SlotData S)) (at after : SlotData S) → k < length between → OffersBelow k before between → IsPushed N moved [] (get_or between k at) after → OffersBelow (k + 1) before (set between k after)
  unfolding writes_then place_writes
  offers_more {moved} k before between at after within first pushed = record {
    writes = writes_then N before between (set between k after) first.writes (place_writes N k between (get_or between k at) after within (in_any between k vacant at within) pushed);
    offered = λ j below. elim (cases_eq j k) [
      | inl same ↦ offered_later (first.writes.calls j) pushed.calls (calls_for k pushed.calls j) after (slot_at j (set between k after)) (ap (λ (i : ℕ). slot_at i (set between k after)) same ∙ get_or-set_same between k after vacant within)
          (ap (calls_for k pushed.calls) same ∙ calls_here k pushed.calls) pushed.offered
      | inr apart ↦ offered_first (first.writes.calls j) (calls_for k pushed.calls j) (slot_at j between) (slot_at j (set between k after)) (get_or-set_other between k j after vacant apart) (first.offered j (omega (arith, below, apart)))
    ];
    dropped = λ j heard mute. failed-append (first.writes.calls j) (calls_for k pushed.calls j) ∙ elim (cases_Bool (is_mute (slot_at j between))) [
      | inl e ↦ or_left (has_failed_write (first.writes.calls j)) (has_failed_write (calls_for k pushed.calls j)) (first.dropped j heard e)
      | inr e ↦ or_right (has_failed_write (first.writes.calls j)) (has_failed_write (calls_for k pushed.calls j)) (elim (cases_eq j k) [
        | inl same ↦ ap (λ (i : ℕ). has_failed_write (calls_for k pushed.calls i)) same ∙ ap has_failed_write (calls_here k pushed.calls)
            ∙ only_failed {moved = moved} (get_or between k at) after pushed (ap is_mute (sym (in_any between k vacant at within)) ∙ sym (ap (λ (i : ℕ). is_mute (slot_at i between)) same) ∙ e)
            (sym (ap is_mute (ap (λ (i : ℕ). slot_at i (set between k after)) same ∙ get_or-set_same between k after vacant within)) ∙ mute)
        | inr apart ↦ absurd (true≢false (sym mute ∙ ap is_mute (get_or-set_other between k j after vacant apart) ∙ e))
      ])
    ];
  }

  pub offers_all : (before after : List (SlotData S)) (count : ℕ) → length before ≤ count → OffersBelow count before after → OffersKept N before after
  offers_all before after count most offers = record { writes = offers.writes; offered = λ k within. offers.offered k (omega (arith, most, within)); dropped = offers.dropped }

module _ {D S : Type 0} (N : CallModel S) (E : DoorModel D S) where
  pub offers_on : (times : ℕ) (was mid now : D) (moved : Bool) (before between after : List (SlotData S)) → OffersOn N E times was mid before between → OffersKept N between after → E.DidCalls mid now (a_pause moved next.Again ∷ [])
      → OffersOn N E (times + 1) was now before after
  offers_on times was mid now moved before between after on offers paused =
      subst (λ (n : ℕ). OffersOn N E n was now before after) (sym (add-one times)) (mid, between, moved, on, offers, paused)
