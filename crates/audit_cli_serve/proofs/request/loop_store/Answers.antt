use Rattle.std.proofs.Common.{◌⊎◌, inl, inr, rules}
use Rattle.audit_cli_serve.specs.Carried.{failed_calls}
use Rattle.audit_cli_serve.proofs.Carried.{after_all, bad_by_input, failed_after, input_failed, loop_stopped_after, output_failed, reached_by, removed_by}
use Rattle.audit_cli_serve.proofs.request.loop_store.Goals as goal

-- the fault of a call before there was a connection, or of one that was made
loop_failed : {A B C : Type 0} → A ⊎ B → (A ⊎ C) ⊎ B
loop_failed (inl failed) = inl (inl failed)
loop_failed (inr connects) = inr connects

pub returns-clause-looped : goal.returns-clause-looped
returns-clause-looped g c =
    after_all _ c.is_replaced.result c.loop_bound-store.result.1 c.unless_replaced-served.result c.after_removing-ended.result
    (search rules) c.unless_replaced-served.ensures.replaced c.unless_replaced-served.ensures.served c.after_removing-ended.ensures.done

pub returns-clause-connected : goal.returns-clause-connected
returns-clause-connected g c =
    after_all _ c.is_replaced.result c.loop_bound-store.result.1 c.unless_replaced-served.result c.after_removing-ended.result
    c.loop_bound-store.ensures.connected c.unless_replaced-served.ensures.replaced c.unless_replaced-served.ensures.served c.after_removing-ended.ensures.done

pub returns-clause-stopped : goal.returns-clause-stopped
returns-clause-stopped g c =
    loop_stopped_after (failed_calls (g.F.SystemSockets.call_failed c.args.rt.now) g.F.File.SystemFile.facts g.R.TriedRead.unread g.W.TriedWrite.unwritten) _ c.is_replaced.result _ _ _ _ c.args.store c.loop_bound-store.result.0 c.loop_bound-store.result.1 c.unless_replaced-served.result c.after_removing-ended.result
    c.is_replaced.ensures.bytes c.loop_bound-store.ensures.stopped (reached_by _ _ _ _ c.loop_bound-store.ensures.reached (search rules)) (λ number is. bad_by_input number _ _ _ _ _ _ (c.loop_bound-store.ensures.bad number is) (search rules))
    (λ line. input_failed g.R.TriedRead.unread c.loop_bound-store.new.reader.input.now (c.loop_bound-store.ensures.unread line)) (λ in_place line. output_failed g.W.TriedWrite.unwritten c.loop_bound-store.new.output (c.loop_bound-store.ensures.unwritten line) (c.is_replaced.ensures.stays in_place)) c.unless_replaced-served.ensures.replaced c.unless_replaced-served.ensures.served c.after_removing-ended.ensures.stopped
    (λ file. elim (c.after_removing-ended.ensures.removed file) [
      | inl watched ↦ loop_failed (failed_after _ c.is_replaced.result c.loop_bound-store.result.1 c.unless_replaced-served.result c.loop_bound-store.ensures.failed c.unless_replaced-served.ensures.replaced c.unless_replaced-served.ensures.served watched)
      | inr removed ↦ inl (inl (removed_by _ c.remove.result c.remove.ensures.failed removed))
    ])
