use Rattle.std.proofs.Common.{◌≡◌, All, length, subst, arith}
use Rattle.audit_base.specs.declared.limits.TheConstants.{HASH_LEN}
use Rattle.audit_proof.specs.ProofBytes.{member_in}
use Rattle.audit_proof.proofs.ReadBytes.{member_of-member_bytes}
use Rattle.audit_proof.proofs.codec.write_member.Goals as goal

pub returns-clause-read : goal.returns-clause-read
returns-clause-read c = member_of-member_bytes (member_in c.args.proof.now) (record {
  index = c.write_proof.ensures.first;
  count = c.write_proof.ensures.second;
  few = omega (arith, c.requires.few, c.args.proof.now.hashes.ok.0);
  hashes = subst (All (λ hash. length hash ≡ HASH_LEN)) c.deref.ensures.value c.write_proof.ensures.whole;
  entry = omega (arith, c.requires.short, c.args.proof.now.entry.ok.0);
})
