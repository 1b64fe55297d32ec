use Rattle.std.proofs.Common.{rules, ◌+◌, ◌-◌, ◌*◌, ◌%◌, ◌^◌, [], ◌∷◌, drop, sym, ap, ◌∙◌, arith}
use Rattle.sha2.specs.Sha256.{sha256}
use Rattle.audit_tree.specs.Subtree.{subtree_hash, node_at}
use Rattle.std.proofs.lemmas.Nat.{one_shl}
use Rattle.audit_tree.proofs.SubtreeLemmas.{node_at-full}
use Rattle.audit_tree.proofs.PathLemmas.{aligned_right}
use Rattle.audit_tree.proofs.PathLemmas.{start_of, start_of-le, start_of-right, fitting_start, aligned_start, sibling_at-left, sibling_at-none, sibling_at-right}
use Rattle.audit_tree.proofs.paths.sibling_of.Goals as goal

pub returns-then-place-eq1 : goal.returns-then-place-eq1
returns-then-place-eq1 c =
    let leaves = c.args.frozen.now.leaves in
    let width = one_shl c.args.layer 64 (omega (arith, c.requires.layer)) in
    let start = fitting_start c.args.leaf c.args.layer (search rules) in
    let begun = start_of-le c.args.leaf c.args.layer in
    let left = start_of-right c.args.leaf c.args.layer c.if-place-eq1.true in
    ap (λ h. h ∷ [])
    (c.node.ensures
    ∙ ap (λ n. subtree_hash sha256 c.args.layer (drop (n - 1 * 2 ^ c.args.layer % 2 ^ 64) leaves)) start
    ∙ ap (λ n. subtree_hash sha256 c.args.layer (drop (start_of c.args.leaf c.args.layer - n) leaves)) width
    ∙ sym (node_at-full sha256 c.args.layer (start_of c.args.leaf c.args.layer - 2 ^ c.args.layer) c.args.count leaves
    (omega (arith, c.requires.leaf)) c.requires.known))
    ∙ sym (sibling_at-left sha256 leaves c.args.count c.args.leaf c.args.layer c.if-place-eq1.true)

pub returns-then-count-start : goal.returns-then-count-start
returns-then-count-start c =
    let width = one_shl c.args.layer 64 (omega (arith, c.requires.layer)) in
    let start = fitting_start c.args.leaf c.args.layer (search rules) in
    sym (sibling_at-none sha256 c.args.frozen.now.leaves c.args.count c.args.leaf c.args.layer c.if-place-eq1.false
    (omega (arith, start, width)))

pub node_of-requires-clause-aligned : goal.node_of-requires-clause-aligned
node_of-requires-clause-aligned c =
    let width = one_shl c.args.layer 64 (omega (arith, c.requires.layer)) in
    let start = fitting_start c.args.leaf c.args.layer (search rules) in
    rw (start, width) (aligned_right (start_of c.args.leaf c.args.layer) c.args.layer (aligned_start c.args.leaf c.args.layer))

pub returns : goal.returns
returns c =
    let leaves = c.args.frozen.now.leaves in
    let width = one_shl c.args.layer 64 (omega (arith, c.requires.layer)) in
    let start = fitting_start c.args.leaf c.args.layer (search rules) in
    ap (λ h. h ∷ [])
    (c.node_of.ensures
    ∙ ap (λ n. node_at sha256 leaves c.args.count (n + 1 * 2 ^ c.args.layer % 2 ^ 64) c.args.layer) start
    ∙ ap (λ n. node_at sha256 leaves c.args.count (start_of c.args.leaf c.args.layer + n) c.args.layer) width)
    ∙ sym (sibling_at-right sha256 leaves c.args.count c.args.leaf c.args.layer c.if-place-eq1.false
    (omega (arith, start, width)))
