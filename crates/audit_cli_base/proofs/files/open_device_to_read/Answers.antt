use Rattle.audit_disk.specs.FileDisk.{file_disk_view}
use Rattle.audit_cli_base.proofs.OpenedStore.{read_device_at}
use Rattle.audit_cli_base.proofs.files.open_device_to_read.Goals as goal

pub returns-clause-at : goal.returns-clause-at
returns-clause-at g c =
    let whole = c.in_ok-open_read_only.ensures.opened in
    read_device_at g.F.File.SystemFile.facts g.F.File.PositionedFile.positioned c.args.file.now whole.file whole.opened.0 whole.opened.1 whole.front (λ opened. file_disk_view opened.content) c.identified.result c.identified.ensures.front
