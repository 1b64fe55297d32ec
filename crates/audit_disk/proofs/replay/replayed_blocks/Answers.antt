use Rattle.std.proofs.Common.{◌≡◌, ◌+◌, List, map, take, length, ap, sym, ◌∙◌, subst, arith}
use Rattle.std.proofs.lemmas.List.{take_all, with_items_is}
use Rattle.std.proofs.lemmas.Result.{IfOk-weaker}
use Rattle.audit_disk.specs.Held.{settled, bytes_of_blocks}
use Rattle.audit_disk.specs.Memory.{after_calls}
use Rattle.audit_disk.specs.Progress.{AreProgress, landed_of, after_effect}
use Rattle.audit_disk.specs.declared.call.Call.{Call}
use Rattle.audit_disk.specs.declared.progress.Progress.{Progress}
use Rattle.audit_disk.proofs.Replays.{progress_more, length-after_effect, landed-crashed}
use Rattle.audit_disk.proofs.replay.replayed_blocks.Goals as goal

pub loop-call-preserved : goal.loop-call-preserved
loop-call-preserved c =
    let effect = c.call-item.result.effect in
    let held = after_calls (take (c.loop-call.call-index + 1) c.args.calls.now) (map settled c.args.start.now) in
    let more = progress_more c.args.calls.now (map settled c.args.start.now) c.args.pick.now c.loop-call.progress.items c.loop-call.call-index c.call-item.result (omega arith) c.loop-call.invariant in
    let here = subst (λ (call : Call). AreProgress held c.args.pick.now (after_effect call.effect c.loop-call.progress.items)) (sym c.call-item.is) more in
    let taken = c.apply.ensures ∙ ap (λ (all : List Progress). after_effect effect all) c.deref_mut.ensures.value in
    let size = ap length c.apply.ensures ∙ length-after_effect effect c.deref_mut.result.now ∙ c.deref_mut.ensures.len in
    subst (λ (all : List Progress). AreProgress held c.args.pick.now all) (sym (with_items_is c.loop-call.progress c.apply.new.progress size ∙ taken)) here

pub returns : goal.returns
returns c =
    let all : take c.loop-call.call-index c.args.calls.now ≡ c.args.calls.now = take_all c.loop-call.call-index c.args.calls.now (omega arith) in
    let are = subst (λ (calls : List Call). AreProgress (after_calls calls (map settled c.args.start.now)) c.args.pick.now c.loop-call.progress.items) all c.loop-call.invariant in
    IfOk-weaker c.landed_blocks.result _ _ (λ blocks is. ap bytes_of_blocks is ∙ ap (λ (p : List Progress). bytes_of_blocks (landed_of p)) c.deref.ensures.value ∙ landed-crashed (after_calls c.args.calls.now (map settled c.args.start.now)) c.args.pick.now c.loop-call.progress.items are) c.landed_blocks.ensures
