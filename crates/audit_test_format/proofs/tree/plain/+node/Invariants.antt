use Rattle.audit_test_format.proofs.tree.plain.+node.Given as goal

abbrev pub decreases-node : goal.decreases-node
decreases-node l = l.width
