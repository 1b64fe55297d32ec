use Rattle.std.proofs.Common.{◌∙◌, ◌++◌, sym, ap}
use Rattle.std.specs.Prelude.{codes}
use Rattle.audit_text.specs.Fields.{field_line}
use Rattle.audit_verify_saved.proofs.Parts.{mark_split}
use Rattle.audit_verify_saved.proofs.mark.after_mark.Goals as goal

pub returns-in_err-after_count-clause-only : goal.returns-in_err-after_count-clause-only
returns-in_err-after_count-clause-only c = λ rest is.
    let split = mark_split c.args.newest c.decimal_of-count.result.now c.digits_of-root.result rest c.decimal_of-count.ensures c.digits_of-root.ensures in
    absurd (rw c.in_err-after_count.was at (c.after_line.ensures.only _ (is ∙ split)))

pub returns-in_err-rest-clause-only : goal.returns-in_err-rest-clause-only
returns-in_err-rest-clause-only c = λ rest is.
    let split = mark_split c.args.newest c.decimal_of-count.result.now c.digits_of-root.result rest c.decimal_of-count.ensures c.digits_of-root.ensures in
    let at0 = rw c.in_ok-after_count.was at (c.after_line.ensures.only _ (is ∙ split)) in
    absurd (rw c.in_err-rest.was at (c.after_line-2.ensures.only _ at0))

pub returns-clause-only : goal.returns-clause-only
returns-clause-only c = λ rest is.
    let split = mark_split c.args.newest c.decimal_of-count.result.now c.digits_of-root.result rest c.decimal_of-count.ensures c.digits_of-root.ensures in
    let at0 = rw c.in_ok-after_count.was at (c.after_line.ensures.only _ (is ∙ split)) in
    rw c.in_ok-rest.was at (c.after_line-2.ensures.only _ at0)

pub returns-clause-found : goal.returns-clause-found
returns-clause-found c =
    let split = mark_split c.args.newest c.decimal_of-count.result.now c.digits_of-root.result c.in_ok-rest.rest.now c.decimal_of-count.ensures c.digits_of-root.ensures in
    (rw c.in_ok-after_count.was at c.after_line.ensures.found)
    ∙ ap (λ t. field_line (codes "newest") c.decimal_of-count.result.now ++ t) (rw c.in_ok-rest.was at c.after_line-2.ensures.found)
    ∙ sym split
