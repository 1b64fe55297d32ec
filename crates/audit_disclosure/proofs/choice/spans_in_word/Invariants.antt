use Rattle.std.proofs.Common.{◌≡◌, Some, map, take}
use Rattle.audit_disclosure.specs.declared.choice.Span.{Span}
use Rattle.audit_disclosure.specs.Choosing.{span_in_word}
use Rattle.audit_disclosure.proofs.choice.spans_in_word.Given as goal

-- the parts so far have these spans
abbrev pub invariant-loop-part : goal.invariant-loop-part
invariant-loop-part l = map (λ part. span_in_word part.now) (take l.part-index l.part-items) ≡ map (λ (span : Span). Some span) l.spans.items
