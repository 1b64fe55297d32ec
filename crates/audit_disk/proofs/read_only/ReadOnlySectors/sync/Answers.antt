use Rattle.audit_disk.proofs.ReadOnlyCalls.{sync_is}
use Rattle.audit_disk.proofs.read_only.ReadOnlySectors.sync.Goals as goal

pub returns-clause-sync : goal.returns-clause-sync
returns-clause-sync g c = sync_is (g.S.SectorSource.source c.args.self.now.source.now) c.args.self.now.log c.note.new.self c.note.result c.note.ensures.ok c.note.ensures.err
