use Rattle.std.proofs.Common.{◌≡◌, ◌+◌, ◌-◌, ◌*◌, List, ℕ, take, drop, take-add, sym, ap, ◌∙◌, arith}
use Rattle.audit_tree.specs.Frontier.{FrontierData}
use Rattle.audit_tree.specs.Continued.{frontier_after}
use Rattle.audit_tree.proofs.ContinuedTrees.{after_none, frontier_further}
use Rattle.audit_tree.proofs.growing.push_sixteen.Goals as goal

pub loop-i-init : goal.loop-i-init
loop-i-init c = sym (after_none c.args.frontier.now c.hashes.ensures.sized)

pub loop-i-preserved : goal.loop-i-preserved
loop-i-preserved c =
    let f = c.args.frontier.now in
    let leaves = c.args.leaves.now in
    let i = c.loop-i.i in
    let next : 4 * i + 4 ≡ 4 * (i + 1) = omega arith in
    let four = take 4 (drop (4 * i) leaves) in
    let size : 4 * i + 4 - 4 * i ≡ 4 = omega arith in
    c.push_four.ensures.after
    ∙ ap (λ n. frontier_after c.loop-i.frontier (take n (drop (4 * i) leaves))) size
    ∙ ap (λ (g : FrontierData). frontier_after g four) c.loop-i.invariant
    ∙ frontier_further f (take (4 * i) leaves) four
    ∙ ap (frontier_after f) (sym (take-add (4 * i) 4 leaves) ∙ ap (λ k. take k leaves) next)
