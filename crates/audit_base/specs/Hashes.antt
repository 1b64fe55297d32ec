-- Lists of digests, and their concatenation as bytes.
use Rattle.std.specs.Prelude.{◌≡◌, ℕ, zero, suc, List, [], ◌∷◌, All, length, take, drop}
use Rattle.audit_base.specs.declared.limits.TheConstants.{HASH_LEN}

-- each list has the length of a digest
abbrev pub AreHashes : List (List ℕ) → Type 0
AreHashes hashes = All (λ hash. length hash ≡ HASH_LEN) hashes

-- the first n digests of these bytes
unfoldable pub first_hashes : ℕ → List ℕ → List (List ℕ)
first_hashes zero bytes = []
first_hashes (suc n) bytes = take HASH_LEN bytes ∷ first_hashes n (drop HASH_LEN bytes)
