-- Bytes are read as a proof if and only if they are the encoding of that proof.
use Rattle.std.proofs.Common.{◌≡◌, ◌↔◌, ℕ, zero, suc, ◌+◌, ◌*◌, ◌^◌, ◌<◌, ◌≤◌, List, [], ◌++◌, Option, None, Some, length, drop, get_or, refl, sym, ap, ◌∙◌, subst, arith, inl, inr, length-drop, length-take}
use Rattle.std.specs.List.{concat}
use Rattle.std.proofs.lemmas.Bool.{cases_lt, cases_eq, le-leb, lt-leb, eq-eqb, ne_eqb}
use Rattle.std.proofs.lemmas.List.{drop_all}
use Rattle.audit_base.specs.Bytes.{AreBytes}
use Rattle.audit_proof.specs.declared.bytes.Head.{Head}
use Rattle.audit_base.specs.declared.limits.TheConstants.{HASH_LEN, MAX_MEMBER_HASHES, MAX_INCREMENT_HASHES, MAX_ENTRY}
use Rattle.audit_proof.specs.declared.bytes.TheConstants.{MEMBER_MARK, INCREMENT_MARK, HEAD_LEN}
use Rattle.audit_base.specs.Hashes.{first_hashes}
use Rattle.audit_proof.specs.ProofBytes.{Member, Increment, IsMember, IsIncrement, number_in, head_of, member_bytes, member_from, member_of, increment_bytes, increment_from, increment_of}
use Rattle.audit_base.proofs.HashRows.{length-first_hashes, concat-first_hashes}
use Rattle.audit_proof.proofs.ReadBytes.{member_of-member_bytes, increment_of-increment_bytes, small_number, head_parts, bytes_from_head}

-- a number of 8 bytes is below 2^64
number_fits : (bytes : List ℕ) (at : ℕ) → AreBytes bytes → number_in bytes at < 2 ^ 64
unfolding number_in
number_fits bytes at small =
    let byte = small_number bytes at small in
    omega (arith, byte 0, byte 1, byte 2, byte 3, byte 4, byte 5, byte 6, byte 7)

-- hashes read from enough bytes have their full length
first_hashes-whole : (n : ℕ) (bytes : List ℕ) → HASH_LEN * n ≤ length bytes → (k : ℕ) (d : List ℕ) → k < length (first_hashes n bytes) → length (get_or (first_hashes n bytes) k d) ≡ HASH_LEN
unfolding first_hashes
first_hashes-whole zero bytes le k d lt = absurd (omega arith)
first_hashes-whole (suc n) bytes le zero d lt = omega (arith, length-take HASH_LEN bytes)
first_hashes-whole (suc n) bytes le (suc k) d lt = first_hashes-whole n (drop HASH_LEN bytes) (omega (arith, length-drop HASH_LEN bytes)) k d (omega arith)

member_from_head : (bytes : List ℕ) (p : Member) (head : Option Head) → AreBytes bytes → head_of MEMBER_MARK bytes ≡ head → member_from (drop HEAD_LEN bytes) head ≡ Some p
    → IsMember p × (bytes ≡ member_bytes p)
member_from_head bytes p None small is e = absurd (cc)
member_from_head bytes p (Some head) small is e =
    let body = drop HEAD_LEN bytes in
    let long = HASH_LEN * head.number in
    elim (cases_lt MAX_MEMBER_HASHES head.number) [
      | inl over ↦ absurd (let none = rw (lt-leb head.number MAX_MEMBER_HASHES over) at e in cc)
      | inr few ↦ elim (cases_lt (length body) long) [
        | inl short ↦ absurd (let none = rw (le-leb head.number MAX_MEMBER_HASHES few, lt-leb long (length body) short) at e in cc)
        | inr enough ↦ elim (cases_lt (long + MAX_ENTRY) (length body)) [
          | inl past ↦
              absurd (let none = rw (le-leb head.number MAX_MEMBER_HASHES few, le-leb long (length body) enough, lt-leb (length body) (long + MAX_ENTRY) past) at e in cc)
          | inr within ↦
              let same = rw (le-leb head.number MAX_MEMBER_HASHES few, le-leb long (length body) enough, le-leb (length body) (long + MAX_ENTRY) within) at e in
              let read : Member = record { index = head.first; count = head.second; hashes = first_hashes head.number body; entry = drop long body } in
              let is_read : read ≡ p = cc in
              let parts = head_parts MEMBER_MARK bytes head is in
              let fits : IsMember read = record {
                index = omega (arith, parts.first, number_fits bytes 1 small);
                count = omega (arith, parts.second, number_fits bytes 9 small);
                few = omega (arith, few, length-first_hashes head.number body);
                hashes = first_hashes-whole head.number body enough;
                entry = omega (arith, length-drop long body, within);
              } in
              subst (λ (m : Member). IsMember m × (bytes ≡ member_bytes m)) is_read (
                fits,
                bytes_from_head MEMBER_MARK bytes head (first_hashes head.number body) (drop long body) is small (length-first_hashes head.number body) (concat-first_hashes head.number body),
              )
        ]
      ]
    ]

pub member_reading : (bytes : List ℕ) (p : Member) → AreBytes bytes → (member_of bytes ≡ Some p) ↔ (IsMember p × (bytes ≡ member_bytes p))
member_reading bytes p small = (
  λ e. member_from_head bytes p (head_of MEMBER_MARK bytes) small refl e,
  λ is. ap member_of is.1 ∙ member_of-member_bytes p is.0,
)

increment_from_head : (bytes : List ℕ) (p : Increment) (head : Option Head) → AreBytes bytes → head_of INCREMENT_MARK bytes ≡ head → increment_from (drop HEAD_LEN bytes) head ≡ Some p
    → IsIncrement p × (bytes ≡ increment_bytes p)
increment_from_head bytes p None small is e = absurd (cc)
increment_from_head bytes p (Some head) small is e =
    let body = drop HEAD_LEN bytes in
    let long = HASH_LEN * head.number in
    elim (cases_lt MAX_INCREMENT_HASHES head.number) [
      | inl over ↦ absurd (let none = rw (lt-leb head.number MAX_INCREMENT_HASHES over) at e in cc)
      | inr few ↦ elim (cases_eq (length body) long) [
        | inr other ↦ absurd (let none = rw (le-leb head.number MAX_INCREMENT_HASHES few, ne_eqb (length body) long other) at e in cc)
        | inl exact ↦
            let same = rw (le-leb head.number MAX_INCREMENT_HASHES few, eq-eqb (length body) long exact) at e in
            let read : Increment = record { older = head.first; newer = head.second; hashes = first_hashes head.number body } in
            let is_read : read ≡ p = cc in
            let parts = head_parts INCREMENT_MARK bytes head is in
            let none : drop long body ≡ [] = drop_all long body (omega arith) in
            let fits : IsIncrement read = record {
              older = omega (arith, parts.first, number_fits bytes 1 small);
              newer = omega (arith, parts.second, number_fits bytes 9 small);
              few = omega (arith, few, length-first_hashes head.number body);
              hashes = first_hashes-whole head.number body (omega arith);
            } in
            subst (λ (m : Increment). IsIncrement m × (bytes ≡ increment_bytes m)) is_read (
              fits,
              bytes_from_head INCREMENT_MARK bytes head (first_hashes head.number body) [] is small (length-first_hashes head.number body)
                  (ap (λ (bs : List ℕ). concat (first_hashes head.number body) ++ bs) (sym none) ∙ concat-first_hashes head.number body),
            )
      ]
    ]

pub increment_reading : (bytes : List ℕ) (p : Increment) → AreBytes bytes → (increment_of bytes ≡ Some p) ↔ (IsIncrement p × (bytes ≡ increment_bytes p))
increment_reading bytes p small = (
  λ e. increment_from_head bytes p (head_of INCREMENT_MARK bytes) small refl e,
  λ is. ap increment_of is.1 ∙ increment_of-increment_bytes p is.0,
)
