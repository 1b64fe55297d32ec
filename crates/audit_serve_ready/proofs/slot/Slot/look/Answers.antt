use Rattle.std.proofs.Common.{◌≡◌, ◌≢◌, ◌∙◌, ◌<◌, false, Some, Ok, [], ◌∷◌, sym, ap, subst, refl, rules}
use Rattle.audit_serve_ready.specs.Ready.{ready_read_call, IsReadInto}
use Rattle.audit_serve_ready.specs.declared.note.Note.TheVariants.{Finished, ReadFailed}
use Rattle.audit_serve_ready.specs.Slot.{slot_data, or_noted, noted_after_call, is_shut, unread_of, HasLooked}
use Rattle.audit_serve_ready.specs.Places.{has_last_read}
use Rattle.audit_serve_ready.proofs.Looking.{stays, reads, last_of, nothing_of, some_of, open_unread, unread_data, noting_data, noted_still, noted_at_end, noted_failed}
use Rattle.audit_serve_ready.proofs.slot.Slot.look.Goals as goal

pub returns-then-not-is_empty-clause-looked : goal.returns-then-not-is_empty-clause-looked
returns-then-not-is_empty-clause-looked g c =
    let i = c.self.inside in
    let waits : i.unread ≢ [] = search rules in
    let some : unread_of c.args.self.now ≢ [] = λ none. waits (sym (open_unread i.client i.reception i.unread i.kept i.noted (ap is_shut c.self.view_is ∙ c.requires)) ∙ ap unread_of c.self.view_is ∙ none) in
    ([], stays g.S.ReadyStream.calls c.args.self.now some, refl)

pub returns-in-None-clause-looked : goal.returns-in-None-clause-looked
returns-in-None-clause-looked g c =
    let N = g.S.ReadyStream.calls in
    let i = c.self.inside in
    let none : i.unread ≡ [] = search rules in
    let given = c.read_some.result in
    let bytes = c.read_some.new.unread in
    let after = c.read_some.new.client in
    let calls = ready_read_call given bytes ∷ [] in
    let looked = subst (λ slot. HasLooked N slot (slot_data after bytes i.kept i.reception i.noted) calls) c.self.view_is
    (reads N i.client after i.reception i.unread bytes i.kept i.noted i.noted given (ap (λ r. noted_after_call (ready_read_call r bytes) i.noted) c.in-None.is) (ap is_shut c.self.view_is ∙ c.requires) none c.read_some.ensures.into c.read_some.ensures.did) in
    (calls, looked, (ap (λ r. has_last_read (ready_read_call r bytes ∷ [])) c.in-None.is, unread_data after i.reception bytes i.kept i.noted (subst (λ r. IsReadInto r bytes) c.in-None.is c.read_some.ensures.into)))

pub returns-in-Some-Ok-clause-looked : goal.returns-in-Some-Ok-clause-looked
returns-in-Some-Ok-clause-looked g c =
    let N = g.S.ReadyStream.calls in
    let i = c.self.inside in
    let none : i.unread ≡ [] = search rules in
    let given = c.read_some.result in
    let bytes = c.read_some.new.unread in
    let after = c.read_some.new.client in
    let calls = ready_read_call given bytes ∷ [] in
    let is : given ≡ Some (Ok c.in-Some-Ok.count) = search rules in
    let some : 0 < c.in-Some-Ok.count = search rules in
    let going : has_last_read calls ≡ false = ap (λ r. has_last_read (ready_read_call r bytes ∷ [])) is ∙ some_of c.in-Some-Ok.count bytes some (subst (λ r. IsReadInto r bytes) is c.read_some.ensures.into) in
    let looked = subst (λ slot. HasLooked N slot (slot_data after bytes i.kept i.reception i.noted) calls) c.self.view_is
    (reads N i.client after i.reception i.unread bytes i.kept i.noted i.noted given (noted_still (ready_read_call given bytes) i.noted going) (ap is_shut c.self.view_is ∙ c.requires) none c.read_some.ensures.into c.read_some.ensures.did) in
    (calls, looked, going)

pub returns-in-Some-Ok-2-clause-looked : goal.returns-in-Some-Ok-2-clause-looked
returns-in-Some-Ok-2-clause-looked g c =
    let N = g.S.ReadyStream.calls in
    let i = c.self.inside in
    let none : i.unread ≡ [] = search rules in
    let given = c.read_some.result in
    let bytes = c.read_some.new.unread in
    let after = c.read_some.new.client in
    let calls = ready_read_call given bytes ∷ [] in
    let is : given ≡ Some (Ok c.in-Some-Ok.count) = search rules in
    let zero : c.in-Some-Ok.count ≡ 0 = search rules in
    let noted = or_noted i.noted Finished in
    let looked = subst (λ slot. HasLooked N slot (slot_data after bytes i.kept i.reception noted) calls) c.self.view_is
    (reads N i.client after i.reception i.unread bytes i.kept i.noted noted given (noted_at_end given c.in-Some-Ok.count bytes i.noted is zero) (ap is_shut c.self.view_is ∙ c.requires) none c.read_some.ensures.into c.read_some.ensures.did) in
    let new : c.note.new.self ≡ slot_data after bytes i.kept i.reception noted = c.note.ensures ∙ noting_data Finished after i.reception bytes i.kept i.noted in (
      calls,
      subst (λ slot. HasLooked N c.args.self.now slot calls) (sym new) looked,
      (last_of given bytes c.read_some.ensures.into (λ count is. search (rules, is, zero)) (λ is. search (rules, is)), ap unread_of new ∙ unread_data after i.reception bytes i.kept noted (nothing_of given bytes c.read_some.ensures.into (λ count is. search (rules, is, zero)))),
    )

pub returns-in-Some-Err-clause-looked : goal.returns-in-Some-Err-clause-looked
returns-in-Some-Err-clause-looked g c =
    let N = g.S.ReadyStream.calls in
    let i = c.self.inside in
    let none : i.unread ≡ [] = search rules in
    let given = c.read_some.result in
    let bytes = c.read_some.new.unread in
    let after = c.read_some.new.client in
    let calls = ready_read_call given bytes ∷ [] in
    let noted = or_noted i.noted ReadFailed in
    let looked = subst (λ slot. HasLooked N slot (slot_data after bytes i.kept i.reception noted) calls) c.self.view_is
    (reads N i.client after i.reception i.unread bytes i.kept i.noted noted given (search (rules, noted_failed given)) (ap is_shut c.self.view_is ∙ c.requires) none c.read_some.ensures.into c.read_some.ensures.did) in
    let new : c.note-in-Some-Err.new.self ≡ slot_data after bytes i.kept i.reception noted = c.note-in-Some-Err.ensures ∙ noting_data ReadFailed after i.reception bytes i.kept i.noted in (
      calls,
      subst (λ slot. HasLooked N c.args.self.now slot calls) (sym new) looked,
      (last_of given bytes c.read_some.ensures.into (λ count is. search (rules, is)) (λ is. search (rules, is)), ap unread_of new ∙ unread_data after i.reception bytes i.kept noted (nothing_of given bytes c.read_some.ensures.into (λ count is. search (rules, is)))),
    )
