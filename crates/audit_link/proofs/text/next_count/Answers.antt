use Rattle.std.proofs.Common.{◌≡◌, ◌∙◌, ◌<◌, ◌^◌, ℕ, sym, ap, arith}
use Rattle.std.proofs.lemmas.Option.{none-some}
use Rattle.audit_text.specs.Number.{number_in_text}
use Rattle.audit_link.specs.declared.kind_count.KindCount.{KindCount}
use Rattle.audit_link.specs.Counts.{IsCount}
use Rattle.audit_link.proofs.Lines.{line_read, some_same, counted_is}
use Rattle.audit_link.proofs.text.next_count.Goals as goal

below_word : (counted : KindCount) (number : ℕ) → IsCount counted → number ≡ counted.kind → number < 2 ^ 32
below_word counted number is same = omega (arith, is.kind, same)

pub returns-in_err-number_in_text-clause-read : goal.returns-in_err-number_in_text-clause-read
returns-in_err-number_in_text-clause-read c = λ counted more is text_is.
    let line = line_read c.args.text.now counted more c.split_line.result.0.now c.split_line.result.1.now is text_is c.split_line.ensures.first c.split_line.ensures.after in
    absurd (none-some counted.kind (sym c.in_err-number_in_text.was ∙ c.number_in_text.ensures ∙ ap number_in_text c.split_at_first.ensures.before ∙ line.kind_is))

pub returns-in_err-kind-clause-read : goal.returns-in_err-kind-clause-read
returns-in_err-kind-clause-read c = λ counted more is text_is.
    let line = line_read c.args.text.now counted more c.split_line.result.0.now c.split_line.result.1.now is text_is c.split_line.ensures.first c.split_line.ensures.after in
    let same = some_same _ counted.kind (sym c.in_ok-number_in_text.was ∙ c.number_in_text.ensures ∙ ap number_in_text c.split_at_first.ensures.before ∙ line.kind_is) in
    absurd (none-some _ (sym c.in_err-kind.was ∙ c.kind_of.ensures (below_word counted _ is same)))

pub returns-in_err-count-clause-read : goal.returns-in_err-count-clause-read
returns-in_err-count-clause-read c = λ counted more is text_is.
    let line = line_read c.args.text.now counted more c.split_line.result.0.now c.split_line.result.1.now is text_is c.split_line.ensures.first c.split_line.ensures.after in
    absurd (none-some counted.count (sym c.in_err-count.was ∙ c.number_in_text-2.ensures ∙ ap number_in_text c.split_at_first.ensures.after ∙ line.count_is))

pub returns-clause-read : goal.returns-clause-read
returns-clause-read c = λ counted more is text_is.
    let line = line_read c.args.text.now counted more c.split_line.result.0.now c.split_line.result.1.now is text_is c.split_line.ensures.first c.split_line.ensures.after in
    let number = some_same _ counted.kind (sym c.in_ok-number_in_text.was ∙ c.number_in_text.ensures ∙ ap number_in_text c.split_at_first.ensures.before ∙ line.kind_is) in
    let kind = some_same _ _ (sym c.in_ok-kind.was ∙ c.kind_of.ensures (below_word counted _ is number)) in
    let count = some_same _ counted.count (sym c.in_ok-count.was ∙ c.number_in_text-2.ensures ∙ ap number_in_text c.split_at_first.ensures.after ∙ line.count_is) in
    (counted_is _ _ counted (kind ∙ number) count, line.rest_is)
