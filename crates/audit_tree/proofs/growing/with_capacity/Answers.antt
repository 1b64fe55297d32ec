use Rattle.std.proofs.Common.{◌≡◌, [], length, take, sym, ap, ◌∙◌, arith}
use Rattle.std.proofs.lemmas.List.{append-nil}
use Rattle.std.proofs.Math.Seq.{take-length}
use Rattle.audit_tree.specs.Frontier.{FrontierData}
use Rattle.audit_tree.specs.Continued.{frontier_after}
use Rattle.audit_tree.proofs.ContinuedTrees.{frontier_further}
use Rattle.audit_tree.proofs.growing.with_capacity.Goals as goal

pub returns-then-held-eq-MOST_WAITING-clause-after : goal.returns-then-held-eq-MOST_WAITING-clause-after
returns-then-held-eq-MOST_WAITING-clause-after c =
    let f = c.args.frontier.now in
    let leaves = c.args.waiting.now in
    let whole : length leaves ≡ c.args.held = omega (arith, c.told-waiting, c.if-held-eq-MOST_WAITING.true) in
    ap (λ (g : FrontierData). frontier_after g []) c.push_sixteen.ensures
    ∙ frontier_further f leaves []
    ∙ ap (frontier_after f) (append-nil leaves ∙ sym (take-length leaves) ∙ ap (λ n. take n leaves) whole)

pub returns-else-held-eq-MOST_WAITING-clause-after : goal.returns-else-held-eq-MOST_WAITING-clause-after
returns-else-held-eq-MOST_WAITING-clause-after c =
    let f = c.args.frontier.now in
    let leaves = take c.args.held c.args.waiting.now in
    ap (λ (g : FrontierData). frontier_after g []) c.push_each.ensures
    ∙ frontier_further f leaves []
    ∙ ap (frontier_after f) (append-nil leaves)
