-- What each commitment is that a program holds.
use Rattle.std.specs.Prelude.{◌≡◌, ℕ, ◌<◌, ◌^◌, List, length}
use Rattle.audit_base.specs.Bytes.{AreBytes}
use Rattle.audit_base.specs.declared.limits.TheConstants.{HASH_LEN}
use Rattle.audit_proof.specs.declared.commitment.Commitment.{Commitment}

pub record IsHash (hash : List ℕ) : Type 0 where
  pub long : length hash ≡ HASH_LEN
  pub bytes : AreBytes hash

-- a commitment has a number of eight bytes, and a hash
pub record IsSoundCommitment (commitment : Commitment) : Type 0 where
  pub count : commitment.count < 2 ^ 64
  pub root : IsHash commitment.root
