-- The view of a device that fails once.
use Rattle.std.specs.Prelude.{ℕ, Option}
use Rattle.audit_disk_model.specs.View.{View}
use Rattle.audit_disk.specs.Gate.{gate_view}
use Rattle.audit_disk.specs.declared.fail_once.FailOnce.{FailOnce}
use Rattle.audit_disk_model.specs.declared.sectors.Sectors as sectors

module _ {D : Type 0} {g : sectors.Ghosts D} where
  -- the device inside it
  abbrev pub fail_once_inner : FailOnce D g → D
  fail_once_inner disk = disk.gate.inner

  -- everything that is known of it as a device
  abbrev pub fail_once_view : FailOnce D g → View
  fail_once_view disk = gate_view disk.gate

  -- how many calls pass before the one that fails, or None once it was made
  abbrev pub calls_before : FailOnce D g → Option ℕ
  calls_before disk = disk.left
