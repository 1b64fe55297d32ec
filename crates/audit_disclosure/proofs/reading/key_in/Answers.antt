use Rattle.std.proofs.Common.{◌≡◌, ◌∙◌, sym, arith}
use Rattle.std.proofs.lemmas.Option.{none-some}
use Rattle.audit_text.proofs.FieldLines.{same_number, same_some}
use Rattle.audit_disclosure.proofs.KeyLines.{key_read, same_key}
use Rattle.audit_disclosure.proofs.reading.key_in.Goals as goal
use Rattle.audit_disclosure.proofs.reading.key_in.Goals.{then-index-least-via-then-index-least, then-index-least-via-else-index-least+then-index-ge-INDEX_LIMIT}

pub returns-in_err-index-clause-only : goal.returns-in_err-index-clause-only
returns-in_err-index-clause-only c = λ one rest later is starts.
    let read = key_read c.args.text.now one rest _ c.split_at_first.result.1.now _ _ _ is starts c.split_at_first.ensures.before c.split_at_first.ensures.after c.split_at_first-2.ensures.after c.split_at_first-3.ensures.before c.split_at_first-3.ensures.after in
    absurd (none-some one.index (sym c.in_err-index.was ∙ c.number_in_text.ensures ∙ read.index_is))

pub returns-in_err-key-clause-only : goal.returns-in_err-key-clause-only
returns-in_err-key-clause-only c = λ one rest later is starts.
    let read = key_read c.args.text.now one rest _ c.split_at_first.result.1.now _ _ _ is starts c.split_at_first.ensures.before c.split_at_first.ensures.after c.split_at_first-2.ensures.after c.split_at_first-3.ensures.before c.split_at_first-3.ensures.after in
    absurd (none-some one.key (sym c.in_err-key.was ∙ c.hash_in.ensures ∙ read.key_is))

pub returns-then-index-least-clause-only : goal.returns-then-index-least-clause-only
returns-then-index-least-clause-only c = λ one rest later is starts.
    let read = key_read c.args.text.now one rest _ c.split_at_first.result.1.now _ _ _ is starts c.split_at_first.ensures.before c.split_at_first.ensures.after c.split_at_first-2.ensures.after c.split_at_first-3.ensures.before c.split_at_first-3.ensures.after in
    let same : c.in_ok-index.index ≡ one.index = same_number _ one.index (sym c.in_ok-index.was ∙ c.number_in_text.ensures ∙ read.index_is) in
    elim c.then-index-least.branch [
      | then-index-least-via-then-index-least w ↦ omega (arith, w.if-index-least.true, same, later)
      | then-index-least-via-else-index-least+then-index-ge-INDEX_LIMIT w ↦ omega (arith, w.if-index-ge-INDEX_LIMIT.true, same, is.index)
    ]

pub returns-clause-only : goal.returns-clause-only
returns-clause-only c = λ one rest later is starts.
    let read = key_read c.args.text.now one rest _ c.split_at_first.result.1.now _ _ _ is starts c.split_at_first.ensures.before c.split_at_first.ensures.after c.split_at_first-2.ensures.after c.split_at_first-3.ensures.before c.split_at_first-3.ensures.after in (
      same_key one _ _ (same_number _ one.index (sym c.in_ok-index.was ∙ c.number_in_text.ensures ∙ read.index_is))
          (same_some _ one.key (sym c.in_ok-key.was ∙ c.hash_in.ensures ∙ read.key_is)),
      read.rest_is,
    )
