-- The bytes of proofs, written and read.
use Rattle.std.proofs.Common.{◌≡◌, ℕ, ◌^◌, ◌<◌, ◌≤◌, List, [], ◌∷◌, ◌++◌, Option, Some, length, take, drop, get_or, refl, sym, ap, ◌∙◌, arith, length-append}
use Rattle.std.specs.List.{concat}
use Rattle.std.specs.Int.{w64, from_be_bytes}
use Rattle.std.proofs.lemmas.Bool.{le-ltb, eq-eqb}
use Rattle.std.proofs.lemmas.List.{append_assoc, append-nil, take_at, drop_at, get_or_at}
use Rattle.std.proofs.lemmas.Nat.{be_bytes_8, from_be_bytes-to_be_bytes_8}
use Rattle.audit_proof.specs.declared.bytes.Head.{Head}
use Rattle.audit_proof.specs.declared.bytes.TheConstants.{HEAD_LEN}
use Rattle.audit_proof.specs.ProofBytes.{number_bytes, number_in, head_of, proof_bytes}

-- the number in 8 bytes
unfoldable pub number_of : List ℕ → ℕ
number_of bytes = from_be_bytes w64 bytes

pub number_in-of : (bytes : List ℕ) (at : ℕ) → number_in bytes at ≡ number_of (take 8 (drop at bytes))
unfolding number_in number_of
number_in-of bytes at = refl

length-number_bytes : (n : ℕ) → length (number_bytes n) ≡ 8
unfolding number_bytes
length-number_bytes n = refl

number_of-number_bytes : (n : ℕ) → n < 2 ^ 64 → number_of (number_bytes n) ≡ n
unfolding number_bytes number_of
number_of-number_bytes n h = from_be_bytes-to_be_bytes_8 n h

pub number_bytes-number_of : (bytes : List ℕ) → length bytes ≡ 8 → ((i : ℕ) → get_or bytes i 0 < 256) →
    number_bytes (number_of bytes) ≡ bytes
unfolding number_bytes number_of
number_bytes-number_of bytes long small = be_bytes_8 bytes (from_be_bytes w64 bytes) long small refl

pub concat-push : (hashes : List (List ℕ)) (hash : List ℕ) → concat (hashes ++ hash ∷ []) ≡ concat hashes ++ hash
concat-push [] hash = append-nil hash
concat-push (x ∷ hashes) hash = ap (λ bs. x ++ bs) (concat-push hashes hash) ∙ sym (append_assoc x (concat hashes) hash)

-- the bytes before the hashes and after them
module _ (mark first second : ℕ) (hashes : List (List ℕ)) (after : List ℕ) where
  bytes-front : proof_bytes mark first second hashes after
      ≡ mark ∷ ((number_bytes first ++ number_bytes second) ++ (length hashes ∷ (concat hashes ++ after)))
  unfolding proof_bytes
  bytes-front = ap (λ bs. mark ∷ bs) (sym (append_assoc (number_bytes first) (number_bytes second) (length hashes ∷ (concat hashes ++ after))))

  front-length : length (number_bytes first ++ number_bytes second) ≡ 16
  front-length = omega (arith, length-append (number_bytes first) (number_bytes second), length-number_bytes first, length-number_bytes second)

  pub drop-proof_bytes : drop HEAD_LEN (proof_bytes mark first second hashes after) ≡ concat hashes ++ after
  drop-proof_bytes =
      let front = number_bytes first ++ number_bytes second in
      let body = concat hashes ++ after in
      ap (drop HEAD_LEN) bytes-front
      ∙ ap (drop 17) (sym (append_assoc front (length hashes ∷ []) body))
      ∙ drop_at (front ++ length hashes ∷ []) body 17 (omega (arith, length-append front (length hashes ∷ []), front-length))

  pub head_of-proof_bytes : first < 2 ^ 64 → second < 2 ^ 64 →
      head_of mark (proof_bytes mark first second hashes after)
      ≡ Some (record { first = first; second = second; number = length hashes })
  unfolding head_of
  head_of-proof_bytes h k =
      let front = number_bytes first ++ number_bytes second in
      let body = concat hashes ++ after in
      let bytes = mark ∷ (front ++ (length hashes ∷ body)) in
      let rest = number_bytes second ++ (length hashes ∷ body) in
      let long : 18 ≤ length bytes = omega (arith, length-append front (length hashes ∷ body), front-length) in
      let inner : front ++ (length hashes ∷ body) ≡ number_bytes first ++ rest =
      append_assoc (number_bytes first) (number_bytes second) (length hashes ∷ body) in
      let one : number_in bytes 1 ≡ first =
      number_in-of bytes 1
      ∙ ap (λ bs. number_of (take 8 bs)) inner
      ∙ ap number_of (take_at (number_bytes first) rest 8 (length-number_bytes first))
      ∙ number_of-number_bytes first h in
      let two : number_in bytes 9 ≡ second =
      number_in-of bytes 9
      ∙ ap (λ bs. number_of (take 8 (drop 8 bs))) inner
      ∙ ap (λ bs. number_of (take 8 bs)) (drop_at (number_bytes first) rest 8 (length-number_bytes first))
      ∙ ap number_of (take_at (number_bytes second) (length hashes ∷ body) 8 (length-number_bytes second))
      ∙ number_of-number_bytes second k in
      let three : get_or bytes 17 0 ≡ length hashes = get_or_at front (length hashes) body 0 16 front-length in
      ap (head_of mark) bytes-front
      ∙ rw (le-ltb (length bytes) HEAD_LEN long, eq-eqb mark mark refl)
      (let make : ℕ → ℕ → ℕ → Option Head = λ a b n. Some (record { first = a; second = b; number = n }) in
      ap (λ a. make a (number_in bytes 9) (get_or bytes 17 0)) one
      ∙ ap (λ b. make first b (get_or bytes 17 0)) two
      ∙ ap (make first second) three)
