use Rattle.std.specs.Prelude.{codes, nat_eq}
use Rattle.std.specs.List.{starts_with}
use Rattle.std.proofs.Common.{inl, inr, ◌++◌, sym, ap, ◌∙◌}
use Rattle.std.proofs.lemmas.Bool.{true≢false}
use Rattle.audit_disclosure.specs.DisclosureText.{disclosed_lines}
use Rattle.audit_disclosure.proofs.StartLines.{lines_are, keys_have_no_count, later_has_count, first_start_is}
use Rattle.audit_disclosure.proofs.reading.start_in.Goals as goal

pub returns-then-starts_with-clause-only : goal.returns-then-starts_with-clause-only
returns-then-starts_with-clause-only c = λ start keys sound is. elim (lines_are start) [
  | inl none ↦ absurd (true≢false (sym c.if-starts_with.true ∙ c.starts_with.ensures.value
      ∙ ap (λ t. starts_with nat_eq t (codes "count ")) (is ∙ ap (λ l. l ++ disclosed_lines keys) none.1) ∙ keys_have_no_count keys))
  | inr later ↦ c.later_start.ensures.only start (disclosed_lines keys) sound (is ∙ ap (λ l. l ++ disclosed_lines keys) later)
]

pub returns-clause-only : goal.returns-clause-only
returns-clause-only c = λ start keys sound is. elim (lines_are start) [
  | inl none ↦ (c.first_start.ensures.first ∙ sym (first_start_is start sound none.0), is ∙ ap (λ l. l ++ disclosed_lines keys) none.1)
  | inr later ↦ absurd (true≢false (sym (c.starts_with.ensures.value
      ∙ ap (λ t. starts_with nat_eq t (codes "count ")) (is ∙ ap (λ l. l ++ disclosed_lines keys) later) ∙ later_has_count start (disclosed_lines keys)) ∙ c.if-starts_with.false))
]
