use Rattle.std.proofs.Common.{◌∙◌}
use Rattle.audit_disk.proofs.FreshDisks.{current_fresh, fresh, fresh_held}
use Rattle.audit_disk.proofs.mem_disk.MemDisk.with_content.Goals as goal

pub invariant_of-result-clause-current : goal.invariant_of-result-clause-current
invariant_of-result-clause-current c =
    let same = c.in_ok-start.ensures.items ∙ c.deref.ensures.value in
    current_fresh c.in_ok-start.start.items c.args.content.items c.new.result same c.new.ensures.calls

pub returns-clause-fresh : goal.returns-clause-fresh
returns-clause-fresh c =
    let same = c.in_ok-start.ensures.items ∙ c.deref.ensures.value in
    fresh c.in_ok-start.start.items c.args.content.items c.new.result _ _ same c.new.ensures.calls c.new.ensures.clock c.new.ensures.failures

pub returns-clause-held : goal.returns-clause-held
returns-clause-held c =
    let same = c.in_ok-start.ensures.items ∙ c.deref.ensures.value in
    fresh_held c.in_ok-start.start.items c.args.content.items c.new.result same c.new.ensures.calls
