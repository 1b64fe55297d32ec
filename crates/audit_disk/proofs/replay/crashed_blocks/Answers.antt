use Rattle.std.proofs.Common.{List, map, length, ap, ◌∙◌, arith}
use Rattle.std.proofs.lemmas.Result.{IfOk-weaker}
use Rattle.std.proofs.lemmas.Slice.{between_to_end}
use Rattle.audit_disk.specs.Held.{settled, crashed}
use Rattle.audit_disk.specs.Memory.{after_calls}
use Rattle.audit_disk.specs.declared.call.Call.{Call}
use Rattle.audit_disk.proofs.Contents.{crashed_later}
use Rattle.audit_disk.proofs.replay.crashed_blocks.Goals as goal

pub returns : goal.returns
returns c =
    let calls = c.args.calls.now in
    let synced = c.synced_calls-synced.result in
    let later = between_to_end calls synced (length calls) (omega arith) in
    let content = c.deref.ensures.value ∙ c.in_ok-content.ensures in
    IfOk-weaker c.replayed_blocks.result _ _
    (λ blocks is.
    is
    ∙ ap (λ (rest : List Call). crashed (after_calls rest (map settled c.deref.result.now)) c.args.pick.now) later
    ∙ crashed_later calls c.args.start.now c.deref.result.now synced c.args.pick.now c.synced_calls-synced.ensures.synced content)
    c.replayed_blocks.ensures
