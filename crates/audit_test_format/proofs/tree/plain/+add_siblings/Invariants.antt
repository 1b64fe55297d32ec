use Rattle.audit_test_format.proofs.tree.plain.+add_siblings.Given as goal

abbrev pub decreases-add_siblings : goal.decreases-add_siblings
decreases-add_siblings g l = l.width
