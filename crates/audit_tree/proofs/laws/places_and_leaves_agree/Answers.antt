use Rattle.std.proofs.Common.{◌≡◌, length, take, sym, ap, ◌∙◌, arith, zero-add}
use Rattle.std.proofs.lemmas.List.{length-take-le}
use Rattle.audit_tree.specs.Subtree.{subtree_hash, depth}
use Rattle.audit_tree.specs.Paths.{path}
use Rattle.audit_tree.proofs.Depth.{depth-room}
use Rattle.audit_tree.proofs.OlderNode.{older_node, increment_at-path}
use Rattle.audit_tree.proofs.PathLemmas.{siblings_at-whole}
use Rattle.audit_tree.proofs.SubtreeLemmas.{node_at-subtree_hash, root_of-some}
use Rattle.audit_tree.proofs.laws.places_and_leaves_agree.Goals as goal

pub returns-clause-node : goal.returns-clause-node
returns-clause-node c = λ H leaves count start layer begun known. node_at-subtree_hash H layer start count leaves begun known

pub returns-clause-root : goal.returns-clause-root
returns-clause-root c = λ H leaves count some known.
    let long : length (take count leaves) ≡ count = length-take-le count leaves known in
    root_of-some H (take count leaves) (omega arith)
    ∙ ap (λ n. subtree_hash H (depth n) (take count leaves)) long
    ∙ sym (node_at-subtree_hash H (depth count) 0 count leaves some known)

pub returns-clause-membership : goal.returns-clause-membership
returns-clause-membership c = λ H leaves count place within known.
    siblings_at-whole H 0 (depth count) place count leaves within known (rw zero-add (depth-room count))
    ∙ ap (λ n. path H 0 (depth n) place (take count leaves)) (sym (length-take-le count leaves known))

pub returns-clause-increment : goal.returns-clause-increment
returns-clause-increment c = λ H leaves older newer some order known small.
    increment_at-path H older newer leaves some order known (older_node older newer some order small)
