use Rattle.std.proofs.Common.{List, map, length, ap, sym, ◌∙◌, arith}
use Rattle.std.proofs.lemmas.List.{with_items_is}
use Rattle.audit_disk.specs.Held.{settled}
use Rattle.audit_disk.specs.Contents.{content_after}
use Rattle.audit_disk.specs.declared.block.Block.{Block}
use Rattle.audit_disk.proofs.Contents.{newest_of-settled, length-content_after, content_more}
use Rattle.audit_disk.proofs.replay.content_of_calls.Goals as goal

pub loop-call-init : goal.loop-call-init
loop-call-init c = c.in_ok-blocks.ensures.items ∙ sym (newest_of-settled c.args.start.now)

pub loop-call-preserved : goal.loop-call-preserved
loop-call-preserved c =
    let effect = c.call-item.result.effect in
    let taken = c.put.ensures ∙ ap (λ (blocks : List Block). content_after effect blocks) c.deref_mut.ensures.value in
    let size = ap length c.put.ensures ∙ length-content_after effect c.deref_mut.result.now ∙ c.deref_mut.ensures.len in
    with_items_is c.loop-call.blocks c.put.new.blocks size
    ∙ taken
    ∙ content_more c.args.calls.now (map settled c.args.start.now) c.loop-call.blocks.items c.loop-call.call-index c.call-item.result (omega arith) c.call-item.is c.loop-call.invariant
