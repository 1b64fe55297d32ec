-- The front of a device that is to be formatted.
use Rattle.std.specs.Prelude.{◌≡◌, ◌<◌, ℕ}
use Rattle.audit_base.specs.Bytes.{zeros}
use Rattle.audit_base.specs.declared.limits.TheConstants.{SECTOR_SIZE}
use Rattle.audit_disk_model.specs.View.{View}
use Rattle.audit_disk_model.specs.Image.{sector_at}

-- the first sectors, as far as the device has them, are zeros
abbrev pub IsBlankUpTo : View → ℕ → Type 0
IsBlankUpTo view count = (at : ℕ) → at < count → at < view.size → sector_at view.content at ≡ zeros SECTOR_SIZE
