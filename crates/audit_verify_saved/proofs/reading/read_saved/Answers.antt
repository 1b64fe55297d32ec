use Rattle.std.proofs.Common.{◌∙◌, ◌++◌, sym, ap, subst}
use Rattle.std.proofs.lemmas.Bool.{iff_false}
use Rattle.audit_verify.specs.State.{IsFitting}
use Rattle.audit_verify.specs.StateText.{state_lines}
use Rattle.audit_verify.proofs.Marks.{rest_of, text_split}
use Rattle.audit_verify_saved.specs.Saved.{shown, mark_lines}
use Rattle.audit_verify_saved.proofs.Parts.{front_of, digest_line, text_of, rest_split, Finds, found_in, front_before, joined}
use Rattle.audit_verify_saved.proofs.reading.read_saved.Goals as goal

pub returns-in_err-saved : goal.returns-in_err-saved
returns-in_err-saved c = rw c.from_residual.ensures (λ state newest sound text.
    rw c.in_err-saved.was at (c.parse.ensures state (rest_of state newest) sound.state_is (text ∙ text_split state newest)))

pub returns-then-not-is_fitting : goal.returns-then-not-is_fitting
returns-then-not-is_fitting c = λ state newest sound text.
    let spelt = text ∙ text_split state newest in
    let same = rw c.in_ok-saved.was at (c.parse.ensures state (rest_of state newest) sound.state_is spelt) in
    iff_false c.is_fitting.ensures c.if-not-is_fitting.true (subst IsFitting (sym same) sound.state_is.fits)

pub returns-in_err-after_lines : goal.returns-in_err-after_lines
returns-in_err-after_lines c = rw c.from_residual-in_err-after_lines.ensures (λ state newest sound text.
    let spelt = text ∙ text_split state newest in
    let same = rw c.in_ok-saved.was at (c.parse.ensures state (rest_of state newest) sound.state_is spelt) in
    rw c.in_err-after_lines.was at (c.after_state.ensures.only (rest_of state newest) (spelt ∙ ap (λ s. state_lines s ++ rest_of state newest) (sym same))))

pub returns-in_err-rest : goal.returns-in_err-rest
returns-in_err-rest c = rw c.from_residual-in_err-rest.ensures (λ state newest sound text.
    let spelt = text ∙ text_split state newest in
    let same = rw c.in_ok-saved.was at (c.parse.ensures state (rest_of state newest) sound.state_is spelt) in
    let lines = rw c.in_ok-after_lines.was at (c.after_state.ensures.only (rest_of state newest) (spelt ∙ ap (λ s. state_lines s ++ rest_of state newest) (sym same))) in
    let finds : Finds c.in_ok-after_lines.after_lines.now c.newest_in-newest.result = record { none = c.newest_in-newest.ensures.none; some = c.newest_in-newest.ensures.some } in
    let mark = found_in state newest sound.newest_is c.in_ok-after_lines.after_lines.now c.newest_in-newest.result finds lines in
    let goes_on = lines ∙ rest_split state newest ∙ ap (λ m. mark_lines m ++ digest_line (front_of state newest)) (sym mark) in
    rw c.in_err-rest.was at (c.after_newest.ensures.only _ goes_on))

pub returns-then-not-ends_with_digest : goal.returns-then-not-ends_with_digest
returns-then-not-ends_with_digest c = λ state newest sound text.
    let spelt = text ∙ text_split state newest in
    let same = rw c.in_ok-saved.was at (c.parse.ensures state (rest_of state newest) sound.state_is spelt) in
    let lines = rw c.in_ok-after_lines.was at (c.after_state.ensures.only (rest_of state newest) (spelt ∙ ap (λ s. state_lines s ++ rest_of state newest) (sym same))) in
    let finds : Finds c.in_ok-after_lines.after_lines.now c.newest_in-newest.result = record { none = c.newest_in-newest.ensures.none; some = c.newest_in-newest.ensures.some } in
    let mark = found_in state newest sound.newest_is c.in_ok-after_lines.after_lines.now c.newest_in-newest.result finds lines in
    let goes_on = lines ∙ rest_split state newest ∙ ap (λ m. mark_lines m ++ digest_line (front_of state newest)) (sym mark) in
    let rest = rw c.in_ok-rest.was at (c.after_newest.ensures.only _ goes_on) in
    let whole = text ∙ text_of state newest ∙ ap (λ t. front_of state newest ++ t) (sym rest) in
    let front = front_before c.args.text.now (front_of state newest) c.in_ok-rest.rest.now whole in
    iff_false c.ends_with_digest.ensures c.if-not-ends_with_digest.true (rest ∙ ap digest_line (sym front))

pub returns : goal.returns
returns c =
    let state = shown c.in_ok-saved.saved in
    let newest = c.newest_in-newest.result in
    let all = joined c.args.text.now (state_lines state) (mark_lines newest) c.in_ok-after_lines.after_lines.now c.in_ok-rest.rest.now
    (rw c.in_ok-after_lines.was at c.after_state.ensures.found) (rw c.in_ok-rest.was at c.after_newest.ensures.found) in
    let front = front_before c.args.text.now (front_of state newest) c.in_ok-rest.rest.now all in
    let last = c.ends_with_digest.ensures.0 c.if-not-ends_with_digest.false ∙ ap digest_line front in
    record {
      newest = newest;
      fits = c.is_fitting.ensures.0 c.if-not-is_fitting.false;
      text_is = all ∙ ap (λ t. front_of state newest ++ t) last ∙ sym (text_of state newest);
    }
