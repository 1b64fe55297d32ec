use Rattle.std.proofs.Common.{◌++◌, ◌∷◌, [], List, Option, take, sym, ap, ◌∙◌, subst}
use Rattle.std.proofs.lemmas.List.{take_more}
use Rattle.audit_disk.specs.ReadOnly.{IsLastWritten}
use Rattle.audit_disk.specs.declared.block.Block.{Block}
use Rattle.audit_disk.specs.declared.call.Call.{Call}
use Rattle.audit_disk.proofs.ReadOnlyCalls.{written_here, written_elsewhere, synced_only}
use Rattle.audit_disk.proofs.last_written.last_written.Goals as goal
use Rattle.audit_disk.proofs.last_written.last_written.Goals.{in-Write+then-place-at, in-Write+else-place-at, in_default}

pub loop-call-preserved : goal.loop-call-preserved
loop-call-preserved c =
    let calls = c.args.calls.now in
    let i = c.loop-call.call-index in
    let call = c.call-item.result in
    let before = take i calls in
    let taken = sym (take_more calls i call c.loop-call-test.true ∙ ap (λ (one : Call). before ++ one ∷ []) (sym c.call-item.is)) in
    subst (λ (all : List Call). IsLastWritten all c.args.at c.match-call.found) taken
    (elim c.match-call.branch [
      | in-Write+then-place-at w ↦ subst (λ (found : Option Block). IsLastWritten (before ++ call ∷ []) c.args.at found) (sym w.found-is) (written_here before c.args.at c.loop-call.found c.loop-call.invariant call w.in-Write.place w.in-Write.block w.in-Write.is w.if-place-at.true)
      | in-Write+else-place-at w ↦ subst (λ (found : Option Block). IsLastWritten (before ++ call ∷ []) c.args.at found) (sym w.found-is) (written_elsewhere before c.args.at c.loop-call.found c.loop-call.invariant call w.in-Write.place w.in-Write.block w.in-Write.is w.if-place-at.false)
      | in_default w ↦ subst (λ (found : Option Block). IsLastWritten (before ++ call ∷ []) c.args.at found) (sym w.found-is) (synced_only before c.args.at c.loop-call.found c.loop-call.invariant call w.in_default.is)
    ])
