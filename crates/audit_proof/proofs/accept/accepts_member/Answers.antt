use Rattle.audit_proof.proofs.MadeMembership.{made_membership}
use Rattle.audit_proof.proofs.accept.accepts_member.Goals as goal

pub returns-clause-made : goal.returns-clause-made
returns-clause-made c = λ leaves made.
    c.accepts_leaf.ensures.1 (rw c.leaf_hash.ensures (made_membership leaves c.args.commitment.now c.args.index c.args.entry.now c.args.hashes.now made))
