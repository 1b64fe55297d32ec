use Rattle.std.proofs.Common.{◌∙◌, [], sym, ap, append-nil, ◌++◌}
use Rattle.audit_note.specs.NoteText.{note_text}
use Rattle.audit_note.proofs.note.is_text_of.Goals as goal

pub returns-in-Some : goal.returns-in-Some
returns-in-Some c =
    let note = note_text c.args.note.name.now c.args.note.commitment in (
      λ empty. (rw c.in-Some.is at c.after_note.ensures.found) ∙ ap (λ t. note ++ t) (c.is_none.ensures.0 empty) ∙ append-nil note,
      λ is. c.is_none.ensures.1 (rw c.in-Some.is at (c.after_note.ensures.only [] (is ∙ sym (append-nil note)))),
    )

pub returns-in-None : goal.returns-in-None
returns-in-None c =
    let note = note_text c.args.note.name.now c.args.note.commitment in (
      λ impossible. absurd (let h = impossible in cc),
      λ is. absurd (rw c.in-None.is at (c.after_note.ensures.only [] (is ∙ sym (append-nil note)))),
    )
