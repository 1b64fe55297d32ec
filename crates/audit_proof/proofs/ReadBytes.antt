-- Decoding returns what was encoded, and what was decoded is the only proof with these bytes.
use Rattle.std.proofs.Common.{◌≡◌, ℕ, ◌+◌, ◌*◌, ◌<◌, ◌≤◌, List, [], ◌∷◌, ◌++◌, Option, Some, length, take, drop, get_or, sym, ap, ◌∙◌, arith, inl, inr, length-drop, length-take}
use Rattle.std.specs.List.{concat}
use Rattle.std.proofs.lemmas.Bool.{cases_lt, cases_eq, lt-ltb, le-ltb, eq-eqb, ne_eqb, le-leb}
use Rattle.std.proofs.lemmas.List.{take-append-drop, drop-drop, drop_more, get_or-take, get_or-drop, get_or_past}
use Rattle.audit_proof.specs.declared.bytes.Head.{Head}
use Rattle.audit_base.specs.declared.limits.TheConstants.{HASH_LEN, MAX_MEMBER_HASHES, MAX_INCREMENT_HASHES, MAX_ENTRY}
use Rattle.audit_proof.specs.declared.bytes.TheConstants.{MEMBER_MARK, INCREMENT_MARK, HEAD_LEN}
use Rattle.audit_proof.specs.ProofBytes.{Member, Increment, IsMember, IsIncrement, number_bytes, number_in, head_of, proof_bytes, member_bytes, member_from, member_of, increment_bytes, increment_from, increment_of}
use Rattle.audit_base.proofs.HashRows.{first_hashes-concat, drop-concat, length-joined}
use Rattle.audit_proof.proofs.WrittenBytes.{number_in-of, number_bytes-number_of, drop-proof_bytes, head_of-proof_bytes}

pub member_of-member_bytes : (p : Member) → IsMember p → member_of (member_bytes p) ≡ Some p
member_of-member_bytes p fits =
    let body = concat p.hashes ++ p.entry in
    let number = length p.hashes in
    let long = length-joined p.hashes p.entry fits.hashes in
    let make : List (List ℕ) → List ℕ → Option Member = λ hs e. Some (record { index = p.index; count = p.count; hashes = hs; entry = e }) in
    ap (λ bs. member_from bs (head_of MEMBER_MARK (member_bytes p))) (drop-proof_bytes MEMBER_MARK p.index p.count p.hashes p.entry)
    ∙ ap (member_from body) (head_of-proof_bytes MEMBER_MARK p.index p.count p.hashes p.entry fits.index fits.count)
    ∙ rw (
      le-leb number MAX_MEMBER_HASHES fits.few,
      le-leb (HASH_LEN * number) (length body) (omega arith),
      le-leb (length body) (HASH_LEN * number + MAX_ENTRY) (omega (arith, fits.entry)),
    )
    (ap (λ hs. make hs (drop (HASH_LEN * number) body)) (first_hashes-concat p.hashes p.entry fits.hashes)
    ∙ ap (make p.hashes) (drop-concat p.hashes p.entry fits.hashes))

pub increment_of-increment_bytes : (p : Increment) → IsIncrement p → increment_of (increment_bytes p) ≡ Some p
increment_of-increment_bytes p fits =
    let body = concat p.hashes ++ [] in
    let number = length p.hashes in
    let long = length-joined p.hashes [] fits.hashes in
    let make : List (List ℕ) → Option Increment = λ hs. Some (record { older = p.older; newer = p.newer; hashes = hs }) in
    ap (λ bs. increment_from bs (head_of INCREMENT_MARK (increment_bytes p))) (drop-proof_bytes INCREMENT_MARK p.older p.newer p.hashes [])
    ∙ ap (increment_from body) (head_of-proof_bytes INCREMENT_MARK p.older p.newer p.hashes [] fits.older fits.newer)
    ∙ rw (le-leb number MAX_INCREMENT_HASHES fits.few, eq-eqb (length body) (HASH_LEN * number) (omega arith))
    (ap make (first_hashes-concat p.hashes [] fits.hashes))

-- what a head states about the bytes
pub record IsHead (mark : ℕ) (bytes : List ℕ) (head : Head) : Type 0 where
  pub long : HEAD_LEN ≤ length bytes
  pub marked : get_or bytes 0 0 ≡ mark
  pub first : head.first ≡ number_in bytes 1
  pub second : head.second ≡ number_in bytes 9
  pub number : head.number ≡ get_or bytes 17 0

pub head_parts : (mark : ℕ) (bytes : List ℕ) (head : Head) → head_of mark bytes ≡ Some head → IsHead mark bytes head
unfolding head_of
head_parts mark bytes head e = elim (cases_lt (length bytes) HEAD_LEN) [
  | inl short ↦ absurd (let none = rw (lt-ltb (length bytes) HEAD_LEN short) at e in cc)
  | inr long ↦ elim (cases_eq (get_or bytes 0 0) mark) [
    | inl marked ↦
        (let some = rw (le-ltb (length bytes) HEAD_LEN long, eq-eqb (get_or bytes 0 0) mark marked) at e in
        record {
          long = long;
          marked = marked;
          first = cc;
          second = cc;
          number = cc;
        })
    | inr other ↦ absurd (let none = rw (le-ltb (length bytes) HEAD_LEN long, ne_eqb (get_or bytes 0 0) mark other) at e in cc)
  ]
]

-- bytes, split at the places of a proof's fields
parts_of : (bytes : List ℕ) → HEAD_LEN ≤ length bytes →
    bytes ≡ get_or bytes 0 0 ∷ (take 8 (drop 1 bytes) ++ (take 8 (drop 9 bytes) ++ (get_or bytes 17 0 ∷ drop HEAD_LEN bytes)))
parts_of bytes long =
    let mark = get_or bytes 0 0 in
    let one = take 8 (drop 1 bytes) in
    let two = take 8 (drop 9 bytes) in
    drop_more bytes 0 0 (omega (arith, long))
    ∙ ap (λ bs. mark ∷ bs) (sym (take-append-drop 8 (drop 1 bytes)))
    ∙ ap (λ bs. mark ∷ (one ++ bs)) (drop-drop 8 1 bytes ∙ sym (take-append-drop 8 (drop 9 bytes)))
    ∙ ap (λ bs. mark ∷ (one ++ (two ++ bs))) (drop-drop 8 9 bytes ∙ drop_more bytes 17 0 (omega (arith, long)))

-- a part of bytes is bytes
pub small_number : (bytes : List ℕ) (at : ℕ) → ((i : ℕ) → get_or bytes i 0 < 256) → (i : ℕ) → get_or (take 8 (drop at bytes)) i 0 < 256
small_number bytes at small i =
    elim (cases_lt i 8) [
      | inl below ↦ omega (arith, get_or-take 8 (drop at bytes) i 0 below, get_or-drop at bytes i 0, small (at + i))
      | inr above ↦ omega (arith, get_or_past (take 8 (drop at bytes)) i 0 (omega (arith, length-take 8 (drop at bytes))))
    ]

-- 8 bytes are the encoding of the number in them
same_number : (bytes : List ℕ) (at : ℕ) → at + 8 ≤ length bytes → ((i : ℕ) → get_or bytes i 0 < 256) →
    number_bytes (number_in bytes at) ≡ take 8 (drop at bytes)
same_number bytes at long small =
    let eight = take 8 (drop at bytes) in
    ap number_bytes (number_in-of bytes at)
    ∙ number_bytes-number_of eight (omega (arith, length-take 8 (drop at bytes), length-drop at bytes))
    (small_number bytes at small)

-- bytes with this head, these hashes and this rest are the encoding of the proof
pub bytes_from_head : (mark : ℕ) (bytes : List ℕ) (head : Head) (hashes : List (List ℕ)) (after : List ℕ) →
    head_of mark bytes ≡ Some head → ((i : ℕ) → get_or bytes i 0 < 256) →
    length hashes ≡ head.number → concat hashes ++ after ≡ drop HEAD_LEN bytes →
    bytes ≡ proof_bytes mark head.first head.second hashes after
unfolding proof_bytes
bytes_from_head mark bytes head hashes after e small few rest =
    let is = head_parts mark bytes head e in
    let one : take 8 (drop 1 bytes) ≡ number_bytes head.first =
    sym (same_number bytes 1 (omega (arith, is.long)) small) ∙ ap number_bytes (sym is.first) in
    let two : take 8 (drop 9 bytes) ≡ number_bytes head.second =
    sym (same_number bytes 9 (omega (arith, is.long)) small) ∙ ap number_bytes (sym is.second) in
    let three : get_or bytes 17 0 ≡ length hashes = sym is.number ∙ sym few in
    parts_of bytes is.long
    ∙ ap (λ m. m ∷ (take 8 (drop 1 bytes) ++ (take 8 (drop 9 bytes) ++ (get_or bytes 17 0 ∷ drop HEAD_LEN bytes)))) is.marked
    ∙ ap (λ bs. mark ∷ (bs ++ (take 8 (drop 9 bytes) ++ (get_or bytes 17 0 ∷ drop HEAD_LEN bytes)))) one
    ∙ ap (λ bs. mark ∷ (number_bytes head.first ++ (bs ++ (get_or bytes 17 0 ∷ drop HEAD_LEN bytes)))) two
    ∙ ap (λ n. mark ∷ (number_bytes head.first ++ (number_bytes head.second ++ (n ∷ drop HEAD_LEN bytes)))) three
    ∙ ap (λ bs. mark ∷ (number_bytes head.first ++ (number_bytes head.second ++ (length hashes ∷ bs)))) (sym rest)
