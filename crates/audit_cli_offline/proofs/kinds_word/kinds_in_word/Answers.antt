use Rattle.std.proofs.Common.{◌∙◌, map, sym, ap}
use Rattle.std.proofs.lemmas.List.{take_all}
use Rattle.audit_cli_offline.specs.KindsWord.{any_kind_in_word}
use Rattle.audit_cli_offline.proofs.KindWords.{no_kinds, parts_in_word}
use Rattle.audit_cli_offline.proofs.kinds_word.kinds_in_word.Goals as goal

pub returns-in_default-clause-none : goal.returns-in_default-clause-none
returns-in_default-clause-none c = λ is kinds are.
    no_kinds (λ part. any_kind_in_word part.now) c.deref-part-items.result.now c.loop-part.part-index _ kinds c.loop-part-test.true (sym c.any_kind_in_word.ensures ∙ c.in_default.is)
    (parts_in_word c.deref-part-items.result.now c.in_ok-parts.parts.items c.args.word.now c.deref-part-items.ensures.value c.in_ok-parts.ensures ∙ are)

pub returns-clause-kinds : goal.returns-clause-kinds
returns-clause-kinds c =
    sym (parts_in_word c.deref-part-items.result.now c.in_ok-parts.parts.items c.args.word.now c.deref-part-items.ensures.value c.in_ok-parts.ensures)
    ∙ ap (map (λ part. any_kind_in_word part.now)) (sym (take_all c.loop-part.part-index c.deref-part-items.result.now c.loop-part-test.false)) ∙ c.loop-part.invariant
