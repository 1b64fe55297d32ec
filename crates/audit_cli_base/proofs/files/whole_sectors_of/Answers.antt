use Rattle.audit_disk.specs.FileDisk.{file_disk_view}
use Rattle.audit_cli_base.proofs.OpenedStore.{read_device_at}
use Rattle.audit_cli_base.proofs.files.whole_sectors_of.Goals as goal

pub returns-clause-at : goal.returns-clause-at
returns-clause-at g c = λ path opened.
    read_device_at g.F.SystemFile.facts g.F.PositionedFile.positioned path c.args.file opened c.in_ok-lock_to_read.ensures c.in_ok-over_front.ensures.front (λ opened. file_disk_view opened.content) c.identified.result c.identified.ensures.front
