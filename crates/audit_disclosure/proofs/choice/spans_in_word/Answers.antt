use Rattle.std.proofs.Common.{◌∙◌, map, sym, ap}
use Rattle.std.proofs.lemmas.List.{take_all}
use Rattle.audit_disclosure.specs.Choosing.{span_in_word}
use Rattle.audit_disclosure.proofs.SpanWords.{no_spans, parts_in_word}
use Rattle.audit_disclosure.proofs.choice.spans_in_word.Goals as goal

pub returns-in_default-clause-none : goal.returns-in_default-clause-none
returns-in_default-clause-none c = λ is spans are.
    no_spans (λ part. span_in_word part.now) c.deref-part-items.result.now c.loop-part.part-index _ spans c.loop-part-test.true (sym c.span_in_word.ensures ∙ c.in_default.is)
    (parts_in_word c.deref-part-items.result.now c.in_ok-parts.parts.items c.args.word.now c.deref-part-items.ensures.value c.in_ok-parts.ensures ∙ are)

pub returns-clause-spans : goal.returns-clause-spans
returns-clause-spans c =
    sym (parts_in_word c.deref-part-items.result.now c.in_ok-parts.parts.items c.args.word.now c.deref-part-items.ensures.value c.in_ok-parts.ensures)
    ∙ ap (map (λ part. span_in_word part.now)) (sym (take_all c.loop-part.part-index c.deref-part-items.result.now c.loop-part-test.false)) ∙ c.loop-part.invariant
