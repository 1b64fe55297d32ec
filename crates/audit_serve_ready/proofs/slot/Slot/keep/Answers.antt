use Rattle.std.proofs.Common.{◌≡◌, true, [], sym, ap, subst, ◌∙◌, rules}
use Rattle.audit_serve_ready.specs.declared.note.Note.TheVariants.{Memory}
use Rattle.audit_serve_ready.specs.Slot.{slot_data, is_mute, closed, unread_of, IsAccounted}
use Rattle.audit_serve_ready.proofs.Accounts.{nothing_kept}
use Rattle.audit_serve_ready.proofs.Sending.{mute_drops, mute_closed, unread_closed, closed_accounted}
use Rattle.audit_serve_ready.proofs.slot.Slot.keep.Goals as goal

pub returns-then-is_err-clause-accounted : goal.returns-then-is_err-clause-accounted
returns-then-is_err-clause-accounted g c =
    let N = g.S.ReadyStream.calls in
    let new = c.close.new.self in
    let old = c.args.self.now in
    let inside = c.self.inside in
    let kept : c.append.new.self ≡ inside.kept = search rules in
    let is : new ≡ closed Memory old = c.close.ensures ∙ ap (closed Memory) (ap (λ bytes. slot_data inside.client inside.unread bytes inside.reception inside.noted) kept ∙ c.self.view_is) in
    let mute : is_mute new ≡ true = ap is_mute is ∙ mute_closed Memory old in
    mute_drops N c.args.bytes.items old new mute (subst (IsAccounted N [] [] old) (sym is) (closed_accounted N Memory old)) (nothing_kept new mute)

pub returns-then-is_err-clause-unread : goal.returns-then-is_err-clause-unread
returns-then-is_err-clause-unread g c =
    let inside = c.self.inside in
    let kept : c.append.new.self ≡ inside.kept = search rules in
    let is : c.close.new.self ≡ closed Memory c.args.self.now = c.close.ensures ∙ ap (closed Memory) (ap (λ bytes. slot_data inside.client inside.unread bytes inside.reception inside.noted) kept ∙ c.self.view_is) in
    ap unread_of is ∙ unread_closed Memory c.args.self.now
