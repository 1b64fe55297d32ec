use Rattle.std.proofs.Common.{◌∙◌, ap}
use Rattle.audit_tree.specs.Subtree.{leaf_hash_of}
use Rattle.audit_link.proofs.TwoEntries.{commitment_of_two}
use Rattle.audit_link.proofs.checking.next_commitment.Goals as goal

pub returns : goal.returns
returns c =
    commitment_of_two c.args.link.now.first.entry.items c.args.link.now.second.entry.items _ _ _ c.pair_hash.ensures
    (c.leaf_hash.ensures ∙ ap leaf_hash_of c.deref.ensures.value) (c.leaf_hash-2.ensures ∙ ap leaf_hash_of c.deref-2.ensures.value)
