use Rattle.std.proofs.Common.{◌≡◌, ℕ, List, [], ◌∷◌, false, sym, subst, rules}
use Rattle.audit_serve_passes.specs.Streams.{write_call}
use Rattle.audit_serve_passes.specs.Transition.{SessionTransition, IsOutputTaken}
use Rattle.audit_serve_passes.proofs.Turns.{if_err, failed_turn, failed_stopped, dropped_turn, written_turn}
use Rattle.audit_serve_passes.proofs.writing.write_turn.Goals.{then-is_closed-via-then-is_closed, then-is_closed-via-else-is_closed+then-is_ok}
use Rattle.audit_serve_passes.proofs.writing.write_turn.Goals as goal

pub returns-clause-done : goal.returns-clause-done
returns-clause-done g c =
    let M = g.C.SessionCore.model in
    let N = g.S.SessionStream.model in
    let output = c.take_output-output.result.items in
    let before = c.args.stream.now in
    let after = c.write_all.new.self in
    let now : N.closed before ≡ false = search rules in
    let write : N.calls.DidCalls before after (write_call c.write_all.result output ∷ []) =
    subst (λ (bytes : List ℕ). N.calls.DidCalls before after (write_call c.write_all.result bytes ∷ [])) c.deref.ensures.value c.write_all.ensures in
    failed_turn M N c.args.session output c.args.core.now c.take_output-output.new.self c.end.new.self before after c.write_all.result c.end.result (λ ok. search (rules, ok)) now write
    c.take_output-output.ensures.did c.take_output-output.ensures.others c.take_output-output.ensures.empty c.take_output-output.ensures.waiting c.end.ensures.did c.end.ensures.quiet

pub returns-clause-stopped : goal.returns-clause-stopped
returns-clause-stopped g c =
    let M = g.C.SessionCore.model in
    let N = g.S.SessionStream.model in
    let output = c.take_output-output.result.items in
    let before = c.args.stream.now in
    let after = c.write_all.new.self in
    let now : N.closed before ≡ false = search rules in
    let write : N.calls.DidCalls before after (write_call c.write_all.result output ∷ []) =
    subst (λ (bytes : List ℕ). N.calls.DidCalls before after (write_call c.write_all.result bytes ∷ [])) c.deref.ensures.value c.write_all.ensures in
    if_err c.end.result
    (failed_stopped M N c.args.session output c.args.core.now c.take_output-output.new.self c.end.new.self before after c.write_all.result (λ ok. search (rules, ok)) now write
    c.take_output-output.ensures.did c.end.ensures.reaches)

pub returns-then-is_closed-clause-done : goal.returns-then-is_closed-clause-done
returns-then-is_closed-clause-done g c =
    let M = g.C.SessionCore.model in
    let N = g.S.SessionStream.model in
    let old = c.args.core.now in
    let new = c.take_output-output.new.self in
    let output = c.take_output-output.result.items in
    let before = c.args.stream.now in
    let taken = c.take_output-output.ensures in
    elim c.then-is_closed.branch [
      | then-is_closed-via-then-is_closed w ↦
          subst (λ stream. SessionTransition M N c.args.session old new before stream (IsOutputTaken M c.args.session old new)) (sym w.stream-is)
          (dropped_turn M N c.args.session output old new before (search (rules, w)) taken.did taken.others taken.empty taken.waiting)
      | then-is_closed-via-else-is_closed+then-is_ok w ↦
          let after = w.write_all.new.self in
          subst (λ stream. SessionTransition M N c.args.session old new before stream (IsOutputTaken M c.args.session old new)) (sym w.stream-is)
          (written_turn M N c.args.session output old new before after w.write_all.result (search (rules, w)) (search (rules, w))
          (subst (λ (bytes : List ℕ). N.calls.DidCalls before after (write_call w.write_all.result bytes ∷ [])) w.deref.ensures.value w.write_all.ensures) taken.did taken.others taken.empty taken.waiting)
    ]
