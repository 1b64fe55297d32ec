use Rattle.audit_disk.specs.FileDisk.{file_disk_view}
use Rattle.audit_cli_base.proofs.Blank.{still_blank}
use Rattle.audit_cli_base.proofs.OpenedStore.{still_device_at}
use Rattle.audit_cli_base.proofs.files.device_in_place.Goals as goal

pub returns-clause-at : goal.returns-clause-at
returns-clause-at g c =
    still_device_at g.F.File.SystemFile.facts g.F.File.PositionedFile.positioned c.args.file.now file_disk_view c.free_device.result c.in_ok-content.ensures.at c.free_device.ensures.reads

pub returns-clause-blank : goal.returns-clause-blank
returns-clause-blank g c = λ kept. still_blank _ file_disk_view _ c.free_device.result (c.free_device.ensures.blank kept) c.free_device.ensures.reads
