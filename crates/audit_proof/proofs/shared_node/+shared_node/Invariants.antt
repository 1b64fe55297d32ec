use Rattle.audit_proof.proofs.shared_node.+shared_node.Given as goal

abbrev pub decreases-shared_node : goal.decreases-shared_node
decreases-shared_node g l = l.way.height
