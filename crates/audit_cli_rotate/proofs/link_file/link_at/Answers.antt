use Rattle.std.proofs.Common.{◌⊎◌}
use Rattle.audit_cli_rotate.proofs.PreparedStores.{unread_from}
use Rattle.audit_cli_rotate.proofs.link_file.link_at.Goals as goal

pub returns-clause-fault : goal.returns-clause-fault
returns-clause-fault g c = unread_from g.F.File.SystemFile.facts _ (g.F.SystemFiles.failed c.args.rt.now ⊎ g.F.FileNames.unnamed c.args.rt.now) c.args.path.now c.in_ok-file.file c.link_in_file.result c.in_ok-file.ensures.opened c.link_in_file.ensures.fault
