-- Sectors that are read ahead.
use Rattle.std.specs.Prelude.{◌≡◌, ℕ, ◌+◌, ◌*◌, ◌<◌}
use Rattle.audit_base.specs.declared.limits.TheConstants.{SECTOR_SIZE}

-- the sector at this offset is number `place` of the row, which starts at `start` and holds `held` sectors
pub record StandsAt (start held offset place : ℕ) : Type 0 where
  pub read : place < held
  pub there : offset ≡ start + SECTOR_SIZE * place
