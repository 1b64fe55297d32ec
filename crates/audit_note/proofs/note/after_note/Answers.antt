use Rattle.std.proofs.Common.{◌∙◌, ◌++◌, sym, ap}
use Rattle.std.specs.Prelude.{codes}
use Rattle.audit_text.specs.Fields.{field_line}
use Rattle.audit_note.proofs.LineParts.{note_split}
use Rattle.audit_note.proofs.note.after_note.Goals as goal

pub returns-in_err-after_version-clause-only : goal.returns-in_err-after_version-clause-only
returns-in_err-after_version-clause-only c = λ rest is.
    let all = is ∙ note_split c.args.note.name.now c.decimal_of-count.result.now c.digits_of-root.result rest c.args.note.commitment c.decimal_of-count.ensures c.digits_of-root.ensures in
    absurd (rw c.in_err-after_version.was at (c.after_line.ensures.only _ all))

pub returns-in_err-after_name-clause-only : goal.returns-in_err-after_name-clause-only
returns-in_err-after_name-clause-only c = λ rest is.
    let all = is ∙ note_split c.args.note.name.now c.decimal_of-count.result.now c.digits_of-root.result rest c.args.note.commitment c.decimal_of-count.ensures c.digits_of-root.ensures in
    let one = rw c.in_ok-after_version.was at (c.after_line.ensures.only _ all) in
    absurd (rw c.in_err-after_name.was at (c.after_line-2.ensures.only _ one))

pub returns-in_err-after_count-clause-only : goal.returns-in_err-after_count-clause-only
returns-in_err-after_count-clause-only c = λ rest is.
    let all = is ∙ note_split c.args.note.name.now c.decimal_of-count.result.now c.digits_of-root.result rest c.args.note.commitment c.decimal_of-count.ensures c.digits_of-root.ensures in
    let one = rw c.in_ok-after_version.was at (c.after_line.ensures.only _ all) in
    let two = rw c.in_ok-after_name.was at (c.after_line-2.ensures.only _ one) in
    absurd (rw c.in_err-after_count.was at (c.after_line-3.ensures.only _ two))

pub returns-in_err-rest-clause-only : goal.returns-in_err-rest-clause-only
returns-in_err-rest-clause-only c = λ rest is.
    let all = is ∙ note_split c.args.note.name.now c.decimal_of-count.result.now c.digits_of-root.result rest c.args.note.commitment c.decimal_of-count.ensures c.digits_of-root.ensures in
    let one = rw c.in_ok-after_version.was at (c.after_line.ensures.only _ all) in
    let two = rw c.in_ok-after_name.was at (c.after_line-2.ensures.only _ one) in
    let three = rw c.in_ok-after_count.was at (c.after_line-3.ensures.only _ two) in
    absurd (rw c.in_err-rest.was at (c.after_line-4.ensures.only _ three))

pub returns-clause-found : goal.returns-clause-found
returns-clause-found c =
    let name = c.args.note.name.now in
    let count = c.decimal_of-count.result.now in
    let root = c.digits_of-root.result in
    (rw c.in_ok-after_version.was at c.after_line.ensures.found)
    ∙ ap (λ t. field_line (codes "audit-note") (codes "1") ++ t) ((rw c.in_ok-after_name.was at c.after_line-2.ensures.found)
    ∙ ap (λ t. field_line (codes "name") name ++ t) ((rw c.in_ok-after_count.was at c.after_line-3.ensures.found)
    ∙ ap (λ t. field_line (codes "count") count ++ t) (rw c.in_ok-rest.was at c.after_line-4.ensures.found)))
    ∙ sym (note_split name count root c.in_ok-rest.rest.now c.args.note.commitment c.decimal_of-count.ensures c.digits_of-root.ensures)

pub returns-clause-only : goal.returns-clause-only
returns-clause-only c = λ rest is.
    let all = is ∙ note_split c.args.note.name.now c.decimal_of-count.result.now c.digits_of-root.result rest c.args.note.commitment c.decimal_of-count.ensures c.digits_of-root.ensures in
    let one = rw c.in_ok-after_version.was at (c.after_line.ensures.only _ all) in
    let two = rw c.in_ok-after_name.was at (c.after_line-2.ensures.only _ one) in
    let three = rw c.in_ok-after_count.was at (c.after_line-3.ensures.only _ two) in
    rw c.in_ok-rest.was at (c.after_line-4.ensures.only _ three)
