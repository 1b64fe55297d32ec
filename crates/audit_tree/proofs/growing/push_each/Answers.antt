use Rattle.std.proofs.Common.{◌≡◌, ◌+◌, suc, List, ℕ, [], ◌∷◌, get_or, take, sym, ap, ◌∙◌, arith}
use Rattle.std.proofs.Math.Seq.{take-suc}
use Rattle.audit_tree.specs.Frontier.{FrontierData}
use Rattle.audit_tree.specs.Continued.{frontier_after}
use Rattle.audit_tree.proofs.ContinuedTrees.{after_none, frontier_further}
use Rattle.audit_tree.proofs.growing.push_each.Goals as goal

pub loop-leaf-init : goal.loop-leaf-init
loop-leaf-init c = sym (after_none c.args.frontier.now c.hashes.ensures.sized)

pub loop-leaf-preserved : goal.loop-leaf-preserved
loop-leaf-preserved c =
    let f = c.args.frontier.now in
    let leaves = c.args.leaves.now in
    let i = c.loop-leaf.leaf-index in
    let next : suc i ≡ i + 1 = omega arith in
    c.push.ensures.after
    ∙ ap (λ (g : FrontierData). frontier_after g (get_or leaves i [] ∷ [])) c.loop-leaf.invariant
    ∙ frontier_further f (take i leaves) (get_or leaves i [] ∷ [])
    ∙ ap (frontier_after f) (sym (take-suc leaves i [] c.loop-leaf-test.true) ∙ ap (λ k. take k leaves) next)
