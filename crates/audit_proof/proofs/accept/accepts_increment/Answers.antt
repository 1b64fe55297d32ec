use Rattle.audit_proof.proofs.MadeIncrement.{made_increment}
use Rattle.audit_proof.proofs.accept.accepts_increment.Goals as goal

pub returns-clause-made : goal.returns-clause-made
returns-clause-made c = λ leaves made.
    c.accepts_versions.ensures.1 (made_increment leaves c.args.older.now c.args.newer.now c.args.hashes.now made)
