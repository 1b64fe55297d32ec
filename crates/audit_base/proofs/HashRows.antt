-- Consecutive digests in bytes.
use Rattle.std.proofs.Common.{◌≡◌, ℕ, zero, suc, ◌+◌, ◌*◌, List, [], ◌∷◌, ◌++◌, length, take, drop, refl, sym, ap, ◌∙◌, arith, length-append}
use Rattle.std.specs.List.{concat, flat_map}
use Rattle.std.proofs.lemmas.List.{take-append-drop, append_assoc, drop-drop, take_at, drop_at}
use Rattle.audit_base.specs.declared.limits.TheConstants.{HASH_LEN}
use Rattle.audit_base.specs.Hashes.{AreHashes, first_hashes}

pub length-concat : (hashes : List (List ℕ)) → AreHashes hashes → length (concat hashes) ≡ HASH_LEN * length hashes
length-concat [] h = refl
length-concat (hash ∷ hashes) h =
    omega (arith, length-append hash (concat hashes), h 0 [] (omega arith), length-concat hashes (λ k d l. h (suc k) d (omega arith)))

-- the same list, mapped by the identity
pub flat_map-concat : (hashes : List (List ℕ)) → flat_map (λ (hash : List ℕ). hash) hashes ≡ concat hashes
flat_map-concat [] = refl
flat_map-concat (hash ∷ hashes) = ap (λ rest. hash ++ rest) (flat_map-concat hashes)

pub first_hashes-concat : (hashes : List (List ℕ)) (after : List ℕ) → AreHashes hashes →
    first_hashes (length hashes) (concat hashes ++ after) ≡ hashes
unfolding first_hashes
first_hashes-concat [] after h = refl
first_hashes-concat (hash ∷ hashes) after h =
    let long : length hash ≡ HASH_LEN = h 0 [] (omega arith) in
    let front = append_assoc hash (concat hashes) after in
    ap (λ bs. take HASH_LEN bs ∷ first_hashes (length hashes) (drop HASH_LEN bs)) front
    ∙ ap (λ bs. bs ∷ first_hashes (length hashes) (drop HASH_LEN (hash ++ (concat hashes ++ after)))) (take_at hash (concat hashes ++ after) HASH_LEN long)
    ∙ ap (λ bs. hash ∷ first_hashes (length hashes) bs) (drop_at hash (concat hashes ++ after) HASH_LEN long)
    ∙ ap (λ hs. hash ∷ hs) (first_hashes-concat hashes after (λ k d l. h (suc k) d (omega arith)))

pub drop-concat : (hashes : List (List ℕ)) (after : List ℕ) → AreHashes hashes →
    drop (HASH_LEN * length hashes) (concat hashes ++ after) ≡ after
drop-concat hashes after h = drop_at (concat hashes) after (HASH_LEN * length hashes) (length-concat hashes h)

pub length-joined : (hashes : List (List ℕ)) (after : List ℕ) → AreHashes hashes →
    length (concat hashes ++ after) ≡ HASH_LEN * length hashes + length after
length-joined hashes after h = omega (arith, length-append (concat hashes) after, length-concat hashes h)

pub length-first_hashes : (n : ℕ) (bytes : List ℕ) → length (first_hashes n bytes) ≡ n
unfolding first_hashes
length-first_hashes zero bytes = refl
length-first_hashes (suc n) bytes = ap suc (length-first_hashes n (drop HASH_LEN bytes))

pub concat-first_hashes : (n : ℕ) (bytes : List ℕ) → concat (first_hashes n bytes) ++ drop (HASH_LEN * n) bytes ≡ bytes
unfolding first_hashes
concat-first_hashes zero bytes = refl
concat-first_hashes (suc n) bytes =
    let next = drop HASH_LEN bytes in
    let more : HASH_LEN * suc n ≡ HASH_LEN + HASH_LEN * n = omega arith in
    append_assoc (take HASH_LEN bytes) (concat (first_hashes n next)) (drop (HASH_LEN * suc n) bytes)
    ∙ ap (λ bs. take HASH_LEN bytes ++ (concat (first_hashes n next) ++ bs))
    (ap (λ k. drop k bytes) more ∙ sym (drop-drop (HASH_LEN * n) HASH_LEN bytes))
    ∙ ap (λ bs. take HASH_LEN bytes ++ bs) (concat-first_hashes n next)
    ∙ take-append-drop HASH_LEN bytes

pub first_hashes-more : (n : ℕ) (bytes : List ℕ) →
    first_hashes (suc n) bytes ≡ first_hashes n bytes ++ take HASH_LEN (drop (HASH_LEN * n) bytes) ∷ []
unfolding first_hashes
first_hashes-more zero bytes = refl
first_hashes-more (suc n) bytes =
    let more : HASH_LEN * suc n ≡ HASH_LEN + HASH_LEN * n = omega arith in
    ap (λ hs. take HASH_LEN bytes ∷ hs) (first_hashes-more n (drop HASH_LEN bytes)
    ∙ ap (λ bs. first_hashes n (drop HASH_LEN bytes) ++ take HASH_LEN bs ∷ [])
    (drop-drop (HASH_LEN * n) HASH_LEN bytes ∙ ap (λ k. drop k bytes) (sym more)))

pub first_hashes-none : (bytes : List ℕ) → first_hashes 0 bytes ≡ []
unfolding first_hashes
first_hashes-none bytes = refl
