-- A device behind a gate.
use Rattle.std.specs.Prelude.{◌≡◌, ◌+◌, ◌<◌, ◌≤◌}
use Rattle.audit_disk_model.specs.View.{View, last_count}
use Rattle.audit_disk.specs.Shifted.{MayMiss}
use Rattle.audit_disk.specs.ShiftedView.{shifted}
use Rattle.audit_disk.specs.declared.gate.Gate.{Gate}
use Rattle.audit_disk_model.specs.declared.sectors.Sectors as sectors

module _ {D : Type 0} {g : sectors.Ghosts D} where
  abbrev pub gate_view : Gate D g → View
  gate_view gate = shifted (g.view gate.inner) gate.place gate.missed gate.refused gate.in_step gate.fits

  -- the gate may miss the next call
  abbrev pub MayShut : Gate D g → Type 0
  MayShut gate = MayMiss gate.place gate.missed (g.view gate.inner).clock

  -- its clock isn't at its end
  abbrev pub IsBelowEnd : Gate D g → Type 0
  IsBelowEnd gate = (g.view gate.inner).clock + gate.missed < last_count

  -- one more call was missed, unless the clock is at its end
  pub record Misses (old new : Gate D g) : Type 0 where
    pub missed : IsBelowEnd old → new.missed ≡ old.missed + 1
    pub place : IsBelowEnd old → new.place ≡ (g.view old.inner).clock
    pub at_end : last_count ≤ (g.view old.inner).clock + old.missed → new.missed ≡ old.missed
    pub at_end_place : last_count ≤ (g.view old.inner).clock + old.missed → new.place ≡ old.place
