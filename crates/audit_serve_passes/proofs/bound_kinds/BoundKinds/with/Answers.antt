use Rattle.std.proofs.Common.{rules, arith, ◌≡◌, refl, ◌∙◌, sym, ap, subst, ℕ, ◌<◌, ◌+◌, ◌==◌, ◌||◌, Bool, true, false, Option, Some, None, List, length, slice_index_or, nat_eq}
use Rattle.std.specs.List.{list_any, filter}
use Rattle.std.specs.Option.{is_some, option_eq}
use Rattle.audit_serve_passes.proofs.Bound.{any_set, unlike_free, count_set, count_less, front_grows, front_counted}
use Rattle.audit_serve_passes.proofs.bound_kinds.BoundKinds.with.Goals as goal

pub loop-free-init : goal.loop-free-init
loop-free-init c = (refl, search rules, refl)

pub returns-then-is_none-clause-added : goal.returns-then-is_none-clause-added
returns-then-is_none-clause-added c other =
    let same = c.loop-free.invariant.0 in
    let is_other : Option ℕ → Bool = λ place. option_eq nat_eq place (Some other) in
    any_set is_other c.loop-free.kinds c.loop-free.free None (Some c.args.kind) (subst (λ (n : ℕ). c.loop-free.free < n) (sym (ap length same ∙ c.loop-free.invariant.1)) c.loop-free-test.true) (unlike_free _ other c.if-is_none.ensures)
    ∙ ap (λ (kinds : List (Option ℕ)). (c.args.kind == other) || list_any is_other kinds) same

pub returns-then-is_none-clause-counted : goal.returns-then-is_none-clause-counted
returns-then-is_none-clause-counted c =
    let same = c.loop-free.invariant.0 in
    count_set c.loop-free.kinds c.loop-free.free c.args.kind (subst (λ (n : ℕ). c.loop-free.free < n) (sym (ap length same ∙ c.loop-free.invariant.1)) c.loop-free-test.true) c.if-is_none.ensures
    ∙ ap (λ (kinds : List (Option ℕ)). 1 + length (filter is_some kinds)) same

pub returns-then-is_none-clause-full : goal.returns-then-is_none-clause-full
returns-then-is_none-clause-full c =
    let same = c.loop-free.invariant.0 in
    let long = c.loop-free.invariant.1 in
    let free : is_some (slice_index_or c.args.self.kinds c.loop-free.free None) ≡ false = subst (λ (kinds : List (Option ℕ)). is_some (slice_index_or kinds c.loop-free.free None) ≡ false) same c.if-is_none.ensures in
    let less = count_less c.args.self.kinds c.loop-free.free (subst (λ (n : ℕ). c.loop-free.free < n) (sym long) c.loop-free-test.true) free in
    ((λ never. cc never), λ full. absurd (omega (arith, less, long, full)))

pub loop-free-preserved : goal.loop-free-preserved
loop-free-preserved c =
    let same = c.loop-free.invariant.0 in (
      same,
      c.loop-free.invariant.1,
      front_grows c.args.self.kinds c.loop-free.free (subst (λ (n : ℕ). c.loop-free.free < n) (sym c.loop-free.invariant.1) c.loop-free-test.true) c.loop-free.invariant.2
          (subst (λ (kinds : List (Option ℕ)). is_some (slice_index_or kinds c.loop-free.free None) ≡ true) same c.if-is_none.ensures),
    )

pub returns-clause-full : goal.returns-clause-full
returns-clause-full c =
    let long = c.loop-free.invariant.1 in
    let past = c.loop-free-test.false in
    ((λ _. front_counted c.args.self.kinds c.loop-free.free (omega (arith, long, past)) c.loop-free.invariant.2 ∙ long), λ _. refl)
