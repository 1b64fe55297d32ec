use Rattle.std.proofs.Common.{◌≡◌, All, length, subst, arith}
use Rattle.audit_base.specs.declared.limits.TheConstants.{HASH_LEN}
use Rattle.audit_proof.specs.ProofBytes.{increment_in}
use Rattle.audit_proof.proofs.ReadBytes.{increment_of-increment_bytes}
use Rattle.audit_proof.proofs.codec.write_increment.Goals as goal

pub returns-clause-read : goal.returns-clause-read
returns-clause-read c = increment_of-increment_bytes (increment_in c.args.proof.now) (record {
  older = c.write_proof.ensures.first;
  newer = c.write_proof.ensures.second;
  few = omega (arith, c.requires, c.args.proof.now.hashes.ok.0);
  hashes = subst (All (λ hash. length hash ≡ HASH_LEN)) c.deref.ensures.value c.write_proof.ensures.whole;
})
