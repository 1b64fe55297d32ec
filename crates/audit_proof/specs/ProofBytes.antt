-- The bytes of proofs: a mark, two numbers of 8 big-endian bytes, the number of hashes in one byte, the hashes and, in
-- a membership proof, the entry. The layout is this project's own.
use Rattle.std.specs.Prelude.{ℕ, ◌+◌, ◌*◌, ◌^◌, ◌<◌, ◌≤◌, nat_lt, nat_le, ◌==◌, ◌&&◌, List, [], ◌∷◌, ◌++◌, Option, None}
use Rattle.std.specs.Prelude.{Some, length, drop, slice_index, if◌then◌else◌}
use Rattle.std.specs.List.{concat}
use Rattle.std.specs.Int.{w64, to_be_bytes}
use Rattle.audit_proof.specs.declared.bytes.Head.{Head}
use Rattle.audit_base.specs.Bytes.{number_at}
use Rattle.audit_base.specs.Hashes.{AreHashes, first_hashes}
use Rattle.audit_base.specs.declared.limits.TheConstants.{HASH_LEN, MAX_MEMBER_HASHES, MAX_INCREMENT_HASHES, MAX_ENTRY}
use Rattle.audit_proof.specs.declared.bytes.TheConstants.{MEMBER_MARK, INCREMENT_MARK, HEAD_LEN}
use Rattle.audit_proof.specs.declared.member_proof.MemberProof.{MemberProof}
use Rattle.audit_proof.specs.declared.increment_proof.IncrementProof.{IncrementProof}

-- the content of a membership proof
pub record Member : Type 0 where
  pub index : ℕ
  pub count : ℕ
  pub hashes : List (List ℕ)
  pub entry : List ℕ

-- the content of an incremental proof
pub record Increment : Type 0 where
  pub older : ℕ
  pub newer : ℕ
  pub hashes : List (List ℕ)

abbrev pub member_in : MemberProof → Member
member_in p = record { index = p.index; count = p.count; hashes = p.hashes.items; entry = p.entry.items }

abbrev pub increment_in : IncrementProof → Increment
increment_in p = record { older = p.older; newer = p.newer; hashes = p.hashes.items }

-- what can be encoded: numbers of 8 bytes, whole hashes, and both parts within their limits
pub record IsMember (p : Member) : Type 0 where
  pub index : p.index < 2 ^ 64
  pub count : p.count < 2 ^ 64
  pub few : length p.hashes ≤ MAX_MEMBER_HASHES
  pub hashes : AreHashes p.hashes
  pub entry : length p.entry ≤ MAX_ENTRY

pub record IsIncrement (p : Increment) : Type 0 where
  pub older : p.older < 2 ^ 64
  pub newer : p.newer < 2 ^ 64
  pub few : length p.hashes ≤ MAX_INCREMENT_HASHES
  pub hashes : AreHashes p.hashes

-- a number as 8 big-endian bytes, and the number in the 8 bytes at a place
unfoldable pub number_bytes : ℕ → List ℕ
number_bytes n = to_be_bytes w64 n

unfoldable pub number_in : List ℕ → ℕ → ℕ
number_in bytes at = number_at w64 at bytes

-- the bytes of a mark, two numbers, hashes and what follows them
unfoldable pub proof_bytes : ℕ → ℕ → ℕ → List (List ℕ) → List ℕ → List ℕ
proof_bytes mark first second hashes after =
    mark ∷ (number_bytes first ++ (number_bytes second ++ (length hashes ∷ (concat hashes ++ after))))

abbrev pub member_bytes : Member → List ℕ
member_bytes p = proof_bytes MEMBER_MARK p.index p.count p.hashes p.entry

abbrev pub increment_bytes : Increment → List ℕ
increment_bytes p = proof_bytes INCREMENT_MARK p.older p.newer p.hashes []

-- the two numbers and the number of hashes, if the bytes are long enough and begin with the mark
unfoldable pub head_of : ℕ → List ℕ → Option Head
head_of mark bytes =
    if nat_lt (length bytes) HEAD_LEN then None
    else (if slice_index bytes 0 == mark
    then Some (record { first = number_in bytes 1; second = number_in bytes 9; number = slice_index bytes 17 })
    else None)

-- a membership proof read from its head and from the bytes after it
abbrev pub member_from : List ℕ → Option Head → Option Member
member_from body None = None
member_from body (Some head) =
    if nat_le head.number MAX_MEMBER_HASHES && nat_le (HASH_LEN * head.number) (length body)
    && nat_le (length body) (HASH_LEN * head.number + MAX_ENTRY)
    then Some (record {
      index = head.first;
      count = head.second;
      hashes = first_hashes head.number body;
      entry = drop (HASH_LEN * head.number) body;
    })
    else None

abbrev pub member_of : List ℕ → Option Member
member_of bytes = member_from (drop HEAD_LEN bytes) (head_of MEMBER_MARK bytes)

abbrev pub increment_from : List ℕ → Option Head → Option Increment
increment_from body None = None
increment_from body (Some head) =
    if nat_le head.number MAX_INCREMENT_HASHES && (length body == HASH_LEN * head.number)
    then Some (record { older = head.first; newer = head.second; hashes = first_hashes head.number body })
    else None

abbrev pub increment_of : List ℕ → Option Increment
increment_of bytes = increment_from (drop HEAD_LEN bytes) (head_of INCREMENT_MARK bytes)
