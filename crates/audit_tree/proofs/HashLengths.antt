-- A tree's hashes have the length of its leaf hashes.
use Rattle.std.proofs.Common.{◌≡◌, ℕ, zero, suc, ◌+◌, ◌-◌, ◌^◌, ◌<◌, ◌≤◌, List, [], ◌∷◌, ◌++◌, length, take, drop, map, refl, ap, ◌∙◌, arith, inl, inr, length-drop, length-take}
use Rattle.std.specs.Int.{w64, trailing_zeros}
use Rattle.std.proofs.lemmas.Bool.{cases_lt}
use Rattle.std.proofs.lemmas.List.{get_or-drop, get_or-take}
use Rattle.std.proofs.lemmas.List.Elements.{All-append}
use Rattle.std.proofs.lemmas.Nat.{pow_pos}
use Rattle.sha2.specs.Sha256.{sha256}
use Rattle.sha2.proofs.Facts256.{length-sha256}
use Rattle.audit_base.specs.declared.limits.TheConstants.{HASH_LEN}
use Rattle.audit_base.specs.Hashes.{AreHashes}
use Rattle.audit_tree.specs.Subtree.{leaf_hash_of, subtree_hash, node_at, root_of, depth}
use Rattle.audit_tree.specs.Paths.{path, increment_path}
use Rattle.audit_tree.proofs.SubtreeLemmas.{subtree_hash-leaf, subtree_hash-lone, subtree_hash-pair, node_at-subtree_hash, root_of-none, root_of-some}
use Rattle.audit_tree.proofs.PathLemmas.{path-none, path-lone, path-left, path-right}

abbrev IsHash : List ℕ → Type 0
IsHash hash = length hash ≡ HASH_LEN

-- a list of no hash, and of one
no_hash : AreHashes []
no_hash k d h = absurd (omega (arith, h))

one_hash : (hash : List ℕ) → length hash ≡ HASH_LEN → AreHashes (hash ∷ [])
one_hash hash e zero d h = e
one_hash hash e (suc k) d h = absurd (omega (arith, h))

-- the hashes from a place on
later_hashes : (n : ℕ) (xs : List (List ℕ)) → AreHashes xs → AreHashes (drop n xs)
later_hashes n xs h k d l = rw (get_or-drop n xs k d) (h (n + k) d (omega (arith, l, length-drop n xs)))

first_hashes : (n : ℕ) (xs : List (List ℕ)) → AreHashes xs → AreHashes (take n xs)
first_hashes n xs h k d l = rw (get_or-take n xs k d (omega (arith, l, length-take n xs))) (h k d (omega (arith, l, length-take n xs)))

pub length-subtree_hash : (layer : ℕ) (xs : List (List ℕ)) → AreHashes xs → 0 < length xs →
    length (subtree_hash sha256 layer xs) ≡ HASH_LEN
length-subtree_hash zero xs h some = ap length (subtree_hash-leaf sha256 xs) ∙ h 0 [] some
length-subtree_hash (suc layer) xs h some = elim (cases_lt (2 ^ layer) (length xs)) [
  | inl more ↦ ap length (subtree_hash-pair sha256 layer xs more)
      ∙ length-sha256 (1 ∷ (subtree_hash sha256 layer xs ++ subtree_hash sha256 layer (drop (2 ^ layer) xs)))
  | inr few ↦ ap length (subtree_hash-lone sha256 layer xs few) ∙ length-sha256 (1 ∷ (subtree_hash sha256 layer xs ++ []))
]

pub length-node_at : (leaves : List (List ℕ)) (count start layer : ℕ) → AreHashes leaves → start < count → count ≤ length leaves →
    length (node_at sha256 leaves count start layer) ≡ HASH_LEN
length-node_at leaves count start layer h begun known =
    ap length (node_at-subtree_hash sha256 layer start count leaves begun known)
    ∙ length-subtree_hash layer (drop start (take count leaves)) (later_hashes start (take count leaves) (first_hashes count leaves h))
    (omega (arith, length-drop start (take count leaves), length-take count leaves))

pub length-root_of : (xs : List (List ℕ)) → AreHashes xs → length (root_of sha256 xs) ≡ HASH_LEN
length-root_of [] h = ap length (root_of-none sha256 [] refl)
length-root_of (x ∷ xs) h =
    ap length (root_of-some sha256 (x ∷ xs) (omega arith)) ∙ length-subtree_hash (depth (length (x ∷ xs))) (x ∷ xs) h (omega arith)

pub path-hashes : (from height place : ℕ) (xs : List (List ℕ)) → AreHashes xs → place < length xs →
    AreHashes (path sha256 from height place xs)
path-hashes from zero place xs h l = rw (path-none sha256 from place xs) no_hash
path-hashes from (suc height) place xs h l =
    let half = 2 ^ (from + height) in
    elim (cases_lt place half) [
      | inl left ↦ elim (cases_lt half (length xs)) [
        | inl more ↦ rw (path-left sha256 from height place xs left more)
            (All-append IsHash (path sha256 from height place xs) (subtree_hash sha256 (from + height) (drop half xs) ∷ [])
            (path-hashes from height place xs h l)
            (one_hash _ (length-subtree_hash (from + height) (drop half xs) (later_hashes half xs h) (omega (arith, length-drop half xs)))))
        | inr few ↦ rw (path-lone sha256 from height place xs left few) (path-hashes from height place xs h l)
      ]
      | inr right ↦ rw (path-right sha256 from height place xs right)
          (All-append IsHash (path sha256 from height (place - half) (drop half xs)) (subtree_hash sha256 (from + height) xs ∷ [])
          (path-hashes from height (place - half) (drop half xs) (later_hashes half xs h) (omega (arith, length-drop half xs)))
          (one_hash _ (length-subtree_hash (from + height) xs h (omega arith))))
    ]

pub increment-hashes : (older : ℕ) (xs : List (List ℕ)) → AreHashes xs → 1 ≤ older → older ≤ length xs →
    AreHashes (increment_path sha256 xs older)
increment-hashes older xs h some order =
    let layer = trailing_zeros w64 older in
    let last = drop (older - 2 ^ layer) xs in
    let rest = path sha256 layer (depth (length xs) - layer) (older - 1) xs in
    All-append IsHash (subtree_hash sha256 layer last ∷ []) rest
    (one_hash _ (length-subtree_hash layer last (later_hashes (older - 2 ^ layer) xs h)
    (omega (arith, length-drop (older - 2 ^ layer) xs, pow_pos layer))))
    (path-hashes layer (depth (length xs) - layer) (older - 1) xs h (omega arith))

pub leaf-hashes : (texts : List (List ℕ)) → AreHashes (map leaf_hash_of texts)
leaf-hashes [] k d h = absurd (omega (arith, h))
leaf-hashes (text ∷ texts) zero d h = length-sha256 (0 ∷ text)
leaf-hashes (text ∷ texts) (suc k) d h = leaf-hashes texts k d (omega (arith, h))
