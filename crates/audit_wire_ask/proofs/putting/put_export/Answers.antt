use Rattle.std.proofs.Common.{inr, refl}
use Rattle.audit_wire_ask.proofs.PutFiles.{puts_export}
use Rattle.audit_wire_ask.proofs.OutputFailures.{writer_broke}
use Rattle.audit_wire_ask.proofs.putting.put_export.Goals as goal

pub returns-in-Ok-put-clause-only : goal.returns-in-Ok-put-clause-only
returns-in-Ok-put-clause-only g c = puts_export _ g.O.Draft.Write.contents _ _ _ _ _ _ _ _ _ _ _ c.in-Ok.ensures.empty c.in-Ok-export_entries.ensures.done c.in-Ok.ensures.kept (inr c.in-Ok-put.ensures.done)

pub returns-in-Err-put-clause-only : goal.returns-in-Err-put-clause-only
returns-in-Err-put-clause-only g c = puts_export _ g.O.Draft.Write.contents _ _ _ _ _ _ _ _ _ _ _ c.in-Ok.ensures.empty c.in-Ok-export_entries.ensures.done c.in-Ok.ensures.kept c.in-Err-put.ensures.part

pub returns-in-Err-put-clause-fault : goal.returns-in-Err-put-clause-fault
returns-in-Err-put-clause-fault g c = let all = c.in-Ok-export_entries.ensures.done in inr (_, (all.0, all.1, refl))

pub returns-in-Err-export_entries-clause-broken : goal.returns-in-Err-export_entries-clause-broken
returns-in-Err-export_entries-clause-broken g c = writer_broke g.O.Draft.FallibleWrite.failed c.export_entries.new.writer _ c.in-Err-export_entries.ensures.broken
