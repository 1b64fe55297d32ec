-- Bytes as rows of hashes.
use Rattle.std.proofs.Common.{◌≡◌, ℕ, zero, suc, ◌≤◌, List, ◌∷◌, take, drop, refl, ap, arith}
use Rattle.std.specs.Simd.{first_chunks}
use Rattle.audit_base.specs.declared.limits.TheConstants.{HASH_LEN}
use Rattle.audit_base.specs.Hashes.{first_hashes}

pub first_rows : (number rows : ℕ) (bytes : List ℕ) → number ≤ rows → take number (first_chunks HASH_LEN rows bytes) ≡ first_hashes number bytes
unfolding first_hashes
first_rows zero rows bytes few = refl
first_rows (suc number) zero bytes few = absurd (omega (arith, few))
first_rows (suc number) (suc rows) bytes few = ap (λ rest. take HASH_LEN bytes ∷ rest) (first_rows number rows (drop HASH_LEN bytes) (omega (arith, few)))
