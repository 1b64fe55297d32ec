-- The view of a fuse.
use Rattle.std.specs.Prelude.{ℕ, Bool, nat_lt}
use Rattle.audit_disk_model.specs.View.{View}
use Rattle.audit_disk.specs.Gate.{gate_view}
use Rattle.audit_disk.specs.declared.fuse.Fuse.{Fuse}
use Rattle.audit_disk_model.specs.declared.sectors.Sectors as sectors

module _ {D : Type 0} {g : sectors.Ghosts D} where
  -- the device inside it
  abbrev pub fuse_inner : Fuse D g → D
  fuse_inner fuse = fuse.gate.inner

  -- everything that is known of it as a device
  abbrev pub fuse_view : Fuse D g → View
  fuse_view fuse = gate_view fuse.gate

  -- how many more writes and syncs pass
  abbrev pub calls_left : Fuse D g → ℕ
  calls_left fuse = fuse.left

  -- at least one more call passes
  abbrev pub is_intact : Fuse D g → Bool
  is_intact fuse = nat_lt 0 (calls_left fuse)
