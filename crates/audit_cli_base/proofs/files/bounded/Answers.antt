use Rattle.std.proofs.Common.{arith}
use Rattle.audit_disk.specs.FileDisk.{file_disk_view}
use Rattle.audit_cli_base.proofs.OpenedStore.{front_shows}
use Rattle.audit_cli_base.proofs.files.bounded.Goals as goal

pub returns-then-size-gt-MAX_SECTORS : goal.returns-then-size-gt-MAX_SECTORS
returns-then-size-gt-MAX_SECTORS g c file shows =
    front_shows (g.F.PositionedFile.positioned file) (file_disk_view c.with_sectors.result) (file_disk_view c.args.disk) _ c.with_sectors.ensures.front (omega (arith, c.if-size-gt-MAX_SECTORS.true, c.size.ensures)) shows
