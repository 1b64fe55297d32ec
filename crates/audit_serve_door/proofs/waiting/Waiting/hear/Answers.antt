use Rattle.std.proofs.Common.{[], refl, rules}
use Rattle.audit_serve_door.proofs.Waiters.{hears_reader, hears_other, passes_silent_same}
use Rattle.audit_serve_door.proofs.waiting.Waiting.hear.Goals as goal

pub returns-in_default-clause-passes : goal.returns-in_default-clause-passes
returns-in_default-clause-passes g c = ([], passes_silent_same c.args.self.now _ (search rules) refl refl, refl)

pub returns-then-only_reads-clause-passes : goal.returns-then-only_reads-clause-passes
returns-then-only_reads-clause-passes g c = hears_reader c.args.number c.in-Some.arrival c.put.result c.args.self.now _ (search rules) (search rules) (search rules) c.put.ensures refl

pub returns-else-only_reads-clause-passes : goal.returns-else-only_reads-clause-passes
returns-else-only_reads-clause-passes g c = hears_other c.args.number c.in-Some.arrival c.put-else-only_reads.result c.args.self.now _ (search rules) (search rules) (search rules) refl c.put-else-only_reads.ensures
