-- Calls that a gate doesn't pass on.
use Rattle.std.proofs.Common.{◌≡◌, ⊎_elim, ℕ, ◌+◌, ◌^◌, ◌<◌, ◌≤◌, Err, refl, sym, ◌∙◌, ap, subst, arith}
use Rattle.std.proofs.lemmas.Bool.{cases_lt}
use Rattle.audit_disk_model.specs.Image.{Sector}
use Rattle.audit_disk_model.specs.View.{View, last_count}
use Rattle.audit_disk_model.specs.Calls.{HasRisen, Ticks, IsRead, IsWrite, IsSync}
use Rattle.audit_disk.specs.Shifted.{inner_moment}
use Rattle.audit_disk.specs.ShiftedView.{shifted}
use Rattle.audit_disk.specs.Gate.{gate_view, MayShut, IsBelowEnd, Misses}
use Rattle.audit_disk.specs.declared.gate.Gate.{Gate}
use Rattle.audit_disk_model.specs.declared.fault.DeviceFault.{DeviceFault}
use Rattle.audit_disk_model.specs.declared.sectors.Sectors as sectors
use Rattle.audit_disk.proofs.ShiftedCalls.{read_missed, write_missed, sync_missed, missed_more}

module _ {D : Type 0} {g : sectors.Ghosts D} (old new : Gate D g) (unseen : new.inner ≡ old.inner)
    (risen : HasRisen old.refused new.refused) (more : old.refused ≤ new.refused) (fault : DeviceFault) where
  abbrev clock : ℕ
  clock = (g.view old.inner).clock

  risen_in_all : HasRisen ((g.view old.inner).failures + old.refused) ((g.view old.inner).failures + new.refused)
  risen_in_all = omega arith

  -- what holds of the inner device before the call holds of it afterwards
  at_inner : (P : View → Type 0) → ((in_step : new.place ≤ clock) (fits : clock + new.missed < 2 ^ 64) → P (shifted (g.view old.inner) new.place new.missed new.refused in_step fits)) → P (gate_view new)
  at_inner P here =
      subst (λ (inner : D). (in_step : new.place ≤ (g.view inner).clock) (fits : (g.view inner).clock + new.missed < 2 ^ 64) → P (shifted (g.view inner) new.place new.missed new.refused in_step fits)) (sym unseen) here new.in_step new.fits

  module _ (place : new.place ≡ old.place) (missed : new.missed ≡ old.missed) where
    same_moment : (moment : ℕ) → moment ≤ clock + old.missed → inner_moment new.place new.missed moment ≡ inner_moment old.place old.missed moment
    same_moment moment le = omega arith

    -- a read, or a call at the end of the clock
    pub read_refused : (at : ℕ) (into : Sector) → IsRead (gate_view old) (gate_view new) at into (Err fault)
    read_refused at into =
        at_inner (λ view. IsRead (gate_view old) view at into (Err fault))
        (λ in_step fits. read_missed (g.view old.inner) old.place new.place old.missed new.missed old.refused new.refused old.in_step in_step old.fits fits same_moment (omega arith) more risen_in_all at into (Err fault) refl missed)

    module _ (end : last_count ≤ clock + old.missed) where
      stopped : Ticks (clock + old.missed) (clock + new.missed)
      stopped = record { before_end = λ lt. absurd (omega arith); at_end = λ le. omega arith }

      pub write_at_end : (at : ℕ) (bytes : Sector) → IsWrite (gate_view old) (gate_view new) at bytes (Err fault)
      write_at_end at bytes =
          at_inner (λ view. IsWrite (gate_view old) view at bytes (Err fault))
          (λ in_step fits. write_missed (g.view old.inner) old.place new.place old.missed new.missed old.refused new.refused old.in_step in_step old.fits fits same_moment (omega arith) more risen_in_all stopped at bytes (Err fault) refl)

      pub sync_at_end : IsSync (gate_view old) (gate_view new) (Err fault)
      sync_at_end =
          at_inner (λ view. IsSync (gate_view old) view (Err fault))
          (λ in_step fits. sync_missed (g.view old.inner) old.place new.place old.missed new.missed old.refused new.refused old.in_step in_step old.fits fits same_moment (omega arith) more risen_in_all stopped (Err fault) refl)

  module _ (misses : Misses old new) (may : MayShut old) where
    later : old.missed ≤ new.missed
    later = ⊎_elim (λ (below : IsBelowEnd old). let next = misses.missed below in omega arith) (λ (end : last_count ≤ clock + old.missed). let same = misses.at_end end in omega arith) (cases_lt (clock + old.missed) last_count)

    missed_moment : (moment : ℕ) → moment ≤ clock + old.missed → inner_moment new.place new.missed moment ≡ inner_moment old.place old.missed moment
    missed_moment moment le =
        ⊎_elim
        (λ (below : IsBelowEnd old).
        ap (λ (place : ℕ). inner_moment place new.missed moment) (misses.place below)
        ∙ ap (λ (missed : ℕ). inner_moment clock missed moment) (misses.missed below)
        ∙ missed_more old.place old.missed clock moment may le)
        (λ (end : last_count ≤ clock + old.missed).
        ap (λ (place : ℕ). inner_moment place new.missed moment) (misses.at_end_place end)
        ∙ ap (λ (missed : ℕ). inner_moment old.place missed moment) (misses.at_end end))
        (cases_lt (clock + old.missed) last_count)

    counted : Ticks (clock + old.missed) (clock + new.missed)
    counted = record { before_end = λ below. omega (arith, misses.missed below); at_end = λ end. omega (arith, misses.at_end end) }

    pub write_shut : (at : ℕ) (bytes : Sector) → IsWrite (gate_view old) (gate_view new) at bytes (Err fault)
    write_shut at bytes =
        at_inner (λ view. IsWrite (gate_view old) view at bytes (Err fault))
        (λ in_step fits. write_missed (g.view old.inner) old.place new.place old.missed new.missed old.refused new.refused old.in_step in_step old.fits fits missed_moment later more risen_in_all counted at bytes (Err fault) refl)

    pub sync_shut : IsSync (gate_view old) (gate_view new) (Err fault)
    sync_shut =
        at_inner (λ view. IsSync (gate_view old) view (Err fault))
        (λ in_step fits. sync_missed (g.view old.inner) old.place new.place old.missed new.missed old.refused new.refused old.in_step in_step old.fits fits missed_moment later more risen_in_all counted (Err fault) refl)
