use Rattle.std.proofs.Common.{◌≡◌, ◌≤◌, true, false, Some, ltb, length, [], ◌∷◌, take, drop, sym, ap, subst, ◌∙◌, rules}
use Rattle.audit_serve_passes.specs.Streams.{a_write, a_failed_write}
use Rattle.audit_serve_ready.specs.declared.note.Note.TheVariants.{WriteFailed}
use Rattle.audit_serve_ready.specs.Slot.{slot_data, has_kept, is_mute, is_no_client, HasCalled, IsPushed}
use Rattle.audit_serve_ready.specs.declared.reception.Reception.TheVariants as reception
use Rattle.audit_serve_ready.proofs.Sending.{kept_heard, no_count, some_count, push_none, push_ok, push_err}
use Rattle.audit_serve_ready.proofs.slot.Slot.push.Goals as goal

pub returns-then-not-has_kept : goal.returns-then-not-has_kept
returns-then-not-has_kept g c =
    let none : has_kept c.args.self.now ≡ false = search rules in
    push_none g.S.ReadyStream.calls c.args.self.now none

pub returns-in-Ok : goal.returns-in-Ok
returns-in-Ok g c =
    let N = g.S.ReadyStream.calls in
    let moved = ltb 0 c.in-Ok.count in
    let inside = c.self.inside in
    let after = c.write_some.new.client in
    subst (λ slot. IsPushed N moved [] slot (slot_data after inside.unread c.remove.new.self inside.reception inside.noted)) c.self.view_is
    (subst (λ kept. IsPushed N moved [] (slot_data inside.client inside.unread inside.kept inside.reception inside.noted) (slot_data after inside.unread kept inside.reception inside.noted)) (sym c.remove.ensures)
    (push_ok N moved inside.client after inside.reception inside.unread inside.kept inside.noted c.in-Ok.count (ap is_mute c.self.view_is ∙ kept_heard c.args.self.now (search rules))
    (subst (λ bytes. is_no_client inside.client ≡ false → HasCalled N inside.client after (a_write (take c.in-Ok.count bytes) (drop c.in-Ok.count bytes) ∷ [])) c.as_slice.ensures c.in-Ok.ensures.did) (no_count c.in-Ok.count) (some_count c.in-Ok.count) (subst (λ bytes. c.in-Ok.count ≤ length bytes) c.as_slice.ensures c.in-Ok.ensures.within)))

pub returns-in-Err : goal.returns-in-Err
returns-in-Err g c =
    let N = g.S.ReadyStream.calls in
    let inside = c.self.inside in
    let after = c.write_some.new.client in
    subst (λ slot. IsPushed N true [] slot (slot_data after inside.unread c.clear.new.self reception.Drops (Some WriteFailed))) c.self.view_is
    (push_err N inside.client after inside.reception inside.unread inside.kept c.clear.new.self inside.noted (ap is_mute c.self.view_is ∙ kept_heard c.args.self.now (search rules))
    (subst (λ bytes. is_no_client inside.client ≡ false → HasCalled N inside.client after (a_failed_write bytes ∷ [])) c.as_slice.ensures c.in-Err.ensures.did))
