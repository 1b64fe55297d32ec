use Rattle.std.proofs.Common.{◌∙◌, ◌++◌, ◌∷◌, [], sym, ap}
use Rattle.std.proofs.lemmas.List.{append_cancel_left}
use Rattle.audit_text.proofs.FieldLines.{line_split}
use Rattle.audit_text.proofs.fields.after_line.Goals as goal

pub returns-in_err-after_word-clause-only : goal.returns-in_err-after_word-clause-only
returns-in_err-after_word-clause-only c = λ rest is.
    absurd ((rw c.in_err-after_word.was at c.after.ensures) _ (is ∙ line_split c.args.word.now c.args.value.now rest))

pub returns-in_err-after_space-clause-only : goal.returns-in_err-after_space-clause-only
returns-in_err-after_space-clause-only c = λ rest is.
    let one = append_cancel_left c.args.word.now _ _ (sym (rw c.in_ok-after_word.was at c.after.ensures) ∙ is ∙ line_split c.args.word.now c.args.value.now rest) in
    absurd ((rw c.in_err-after_space.was at c.after-2.ensures) _ one)

pub returns-in_err-after_value-clause-only : goal.returns-in_err-after_value-clause-only
returns-in_err-after_value-clause-only c = λ rest is.
    let one = append_cancel_left c.args.word.now _ _ (sym (rw c.in_ok-after_word.was at c.after.ensures) ∙ is ∙ line_split c.args.word.now c.args.value.now rest) in
    let two = append_cancel_left (32 ∷ []) _ _ (sym (rw c.in_ok-after_space.was at c.after-2.ensures) ∙ one) in
    absurd ((rw c.in_err-after_value.was at c.after-3.ensures) _ two)

pub returns-in_err-rest-clause-only : goal.returns-in_err-rest-clause-only
returns-in_err-rest-clause-only c = λ rest is.
    let one = append_cancel_left c.args.word.now _ _ (sym (rw c.in_ok-after_word.was at c.after.ensures) ∙ is ∙ line_split c.args.word.now c.args.value.now rest) in
    let two = append_cancel_left (32 ∷ []) _ _ (sym (rw c.in_ok-after_space.was at c.after-2.ensures) ∙ one) in
    let three = append_cancel_left c.args.value.now _ _ (sym (rw c.in_ok-after_value.was at c.after-3.ensures) ∙ two) in
    absurd ((rw c.in_err-rest.was at c.after-4.ensures) _ three)

pub returns-clause-found : goal.returns-clause-found
returns-clause-found c =
    let word = c.args.word.now in
    let value = c.args.value.now in
    (rw c.in_ok-after_word.was at c.after.ensures)
    ∙ ap (λ t. word ++ t) ((rw c.in_ok-after_space.was at c.after-2.ensures)
    ∙ ap (λ t. 32 ∷ t) ((rw c.in_ok-after_value.was at c.after-3.ensures)
    ∙ ap (λ t. value ++ t) (rw c.in_ok-rest.was at c.after-4.ensures)))
    ∙ sym (line_split word value c.in_ok-rest.rest.now)

pub returns-clause-only : goal.returns-clause-only
returns-clause-only c = λ rest is.
    let one = append_cancel_left c.args.word.now _ _ (sym (rw c.in_ok-after_word.was at c.after.ensures) ∙ is ∙ line_split c.args.word.now c.args.value.now rest) in
    let two = append_cancel_left (32 ∷ []) _ _ (sym (rw c.in_ok-after_space.was at c.after-2.ensures) ∙ one) in
    let three = append_cancel_left c.args.value.now _ _ (sym (rw c.in_ok-after_value.was at c.after-3.ensures) ∙ two) in
    append_cancel_left (10 ∷ []) _ _ (sym (rw c.in_ok-rest.was at c.after-4.ensures) ∙ three)
