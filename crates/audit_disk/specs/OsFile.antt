-- A file of the operating system, whose bytes are unknown to contracts.
use Rattle.std.specs.Prelude.{ℕ}
use Rattle.audit_disk.specs.File.{FileView}
use Rattle.audit_disk.specs.Positioned.{counted_file, unknown_positioned}
use Rattle.audit_disk.specs.declared.os_file.OsFile.{OsFile}
use Rattle.audit_disk.specs.declared.positioned_file.PositionedFile as files

-- The file isn't known to be honest, so clauses about honest files hold only if honesty is assumed.
abbrev pub unknown_file : ℕ → FileView
unknown_file failures = counted_file unknown_positioned failures

module _ {F : Type 0} {g : files.Ghosts F} where
  -- everything that is known of it
  abbrev pub os_file_view : OsFile F g → FileView
  os_file_view it = counted_file (g.positioned it.file) it.failures

  -- the file below, whose failed calls are counted
  abbrev pub file_below : OsFile F g → F
  file_below it = it.file
