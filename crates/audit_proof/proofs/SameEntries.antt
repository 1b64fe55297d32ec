-- Texts under one commitment: equal lists, or two texts with one SHA-256.
use Rattle.std.proofs.Common.{inl, inr, ◌≡◌, ◌⊎◌, ℕ, zero, suc, ◌+◌, ◌*◌, ◌^◌, ◌<◌, ◌≤◌, List, [], ◌∷◌, ◌++◌, length, map, take, drop, get_or, refl, sym, ap, ◌∙◌, subst, arith, length-drop, append-nil}
use Rattle.std.specs.Prelude.{◌≢◌, true, nat_le}
use Rattle.std.specs.Str.{bytes_eq}
use Rattle.std.proofs.lemmas.Slice.Eq.{bytes_eq-Decides}
use Rattle.std.proofs.lemmas.Bool.{cases_Bool, true≢false, cases_lt, cond-true, cond-false, le-leb, lt-leb}
use Rattle.std.proofs.lemmas.List.{take-append-drop, take_all, length-take, length-take-le, take_at, drop_at, get_or-take, get_or-drop, length-map}
use Rattle.std.proofs.lemmas.Nat.{pow_pos}
use Rattle.std.proofs.Math.Nat.{pow-suc}
use Rattle.sha2.specs.Sha256.{sha256}
use Rattle.audit_base.specs.Hashes.{AreHashes}
use Rattle.audit_tree.specs.Subtree.{leaf_hash_of, subtree_hash, depth, root_of}
use Rattle.audit_tree.proofs.Depth.{depth-room}
use Rattle.audit_tree.proofs.HashLengths.{length-subtree_hash, leaf-hashes}
use Rattle.audit_tree.proofs.SubtreeLemmas.{subtree_hash-leaf, subtree_hash-lone, subtree_hash-pair, subtree_hash-take, root_of-some}
use Rattle.audit_proof.specs.declared.commitment.Commitment.{Commitment}
use Rattle.audit_proof.specs.Acceptance.{commitment_to}
use Rattle.audit_proof.specs.Collision.{IsCollision}
use Rattle.audit_proof.specs.TreesCollide.{node_text, NodesCollide, LeavesCollide, TreesCollide}

-- two texts are equal or not
pub same_or_other : (xs ys : List ℕ) → (xs ≡ ys) ⊎ (xs ≢ ys)
same_or_other xs ys = elim (cases_Bool (bytes_eq xs ys)) [
  | inl found ↦ inl ((bytes_eq-Decides xs ys).0 found)
  | inr found ↦ inr (λ same. true≢false (sym ((bytes_eq-Decides xs ys).1 same) ∙ found))
]

-- two texts with one hash are equal, or a collision
same_texts : (p q : List ℕ) → sha256 p ≡ sha256 q → (p ≡ q) ⊎ IsCollision sha256 p q
same_texts p q same = elim (same_or_other p q) [
  | inl equal ↦ inl equal
  | inr other ↦ inr record { different = other; same = same }
]

tail_is : (byte : ℕ) (p q : List ℕ) → byte ∷ p ≡ byte ∷ q → p ≡ q
tail_is byte p q same = ap (drop 1) same

same_halves : (p q rest others : List ℕ) → length p ≡ length q → p ++ rest ≡ q ++ others → (p ≡ q) × (rest ≡ others)
same_halves p q rest others long same = (
  sym (take_at p rest (length p) refl) ∙ ap (take (length p)) same ∙ take_at q others (length p) (sym long),
  sym (drop_at p rest (length p) refl) ∙ ap (drop (length p)) same ∙ drop_at q others (length p) (sym long),
)

all_taken : (n : ℕ) (xs : List (List ℕ)) → AreHashes xs → AreHashes (take n xs)
all_taken n xs are = λ k d lt. ap length (get_or-take n xs k d (omega (arith, lt, length-take n xs))) ∙ are k d (omega (arith, lt, length-take n xs))

all_dropped : (n : ℕ) (xs : List (List ℕ)) → AreHashes xs → AreHashes (drop n xs)
all_dropped n xs are = λ k d lt. ap length (get_or-drop n xs k d) ∙ are (n + k) d (omega (arith, lt, length-drop n xs))

one_leaf : (xs ys : List (List ℕ)) → length xs ≡ 1 → length ys ≡ 1 → get_or xs 0 [] ≡ get_or ys 0 [] → xs ≡ ys
one_leaf [] ys one also same = absurd (omega (arith, one))
one_leaf (x ∷ xs) [] one also same = absurd (omega (arith, also))
one_leaf (x ∷ []) (y ∷ []) one also same = ap (λ l. l ∷ []) same
one_leaf (x ∷ []) (y ∷ z ∷ ys) one also same = absurd (omega (arith, also))
one_leaf (x ∷ z ∷ xs) (y ∷ ys) one also same = absurd (omega (arith, one))

-- the text of a node without a right side, and of one with both
lone_text : (layer : ℕ) (xs : List (List ℕ)) → length xs ≤ 2 ^ layer → node_text layer xs ≡ 1 ∷ (subtree_hash sha256 layer xs ++ [])
lone_text layer xs lone =
    ap (λ right. 1 ∷ (subtree_hash sha256 layer xs ++ right))
    (cond-true (nat_le (length xs) (2 ^ layer)) [] (subtree_hash sha256 layer (drop (2 ^ layer) xs)) (le-leb (length xs) (2 ^ layer) lone))

pair_text : (layer : ℕ) (xs : List (List ℕ)) → 2 ^ layer < length xs
    → node_text layer xs ≡ 1 ∷ (subtree_hash sha256 layer xs ++ subtree_hash sha256 layer (drop (2 ^ layer) xs))
pair_text layer xs pair =
    ap (λ right. 1 ∷ (subtree_hash sha256 layer xs ++ right))
    (cond-false (nat_le (length xs) (2 ^ layer)) [] (subtree_hash sha256 layer (drop (2 ^ layer) xs)) (lt-leb (length xs) (2 ^ layer) pair))

-- the hash of a subtree determines its leaf hashes
same_subtree : (layer : ℕ) (xs ys : List (List ℕ)) → AreHashes xs → AreHashes ys → length xs ≡ length ys → 0 < length xs → length xs ≤ 2 ^ layer
    → subtree_hash sha256 layer xs ≡ subtree_hash sha256 layer ys → (xs ≡ ys) ⊎ NodesCollide layer xs ys
same_subtree zero xs ys are also long some few same =
    inl (one_leaf xs ys (omega (arith, some, few)) (omega (arith, some, few, long)) (sym (subtree_hash-leaf sha256 xs) ∙ same ∙ subtree_hash-leaf sha256 ys))
same_subtree (suc layer) xs ys are also long some few same =
    let w = 2 ^ layer in
    let half : 2 ^ suc layer ≡ 2 * w = omega (arith, pow-suc 2 layer) in
    let left_x = subtree_hash sha256 layer xs in
    let left_y = subtree_hash sha256 layer ys in
    elim (cases_lt w (length xs)) [
      | inr lone ↦
          let also_lone : length ys ≤ w = omega (arith, lone, long) in
          let text_x = lone_text layer xs lone in
          let text_y = lone_text layer ys also_lone in
          let texts = same_texts (node_text layer xs) (node_text layer ys)
          (ap sha256 text_x ∙ sym (subtree_hash-lone sha256 layer xs lone) ∙ same ∙ subtree_hash-lone sha256 layer ys also_lone ∙ ap sha256 (sym text_y)) in
          elim texts [
            | inr collision ↦ inr (inl collision)
            | inl equal ↦
                let ends = sym text_x ∙ equal ∙ text_y in
                let below = same_subtree layer xs ys are also long some lone (sym (append-nil left_x) ∙ tail_is 1 (left_x ++ []) (left_y ++ []) ends ∙ append-nil left_y) in
                elim below [
                  | inl is ↦ inl is
                  | inr collision ↦ inr (inr (inl (subst (NodesCollide layer (take w xs)) (sym (take_all w ys also_lone))
                      (subst (λ front. NodesCollide layer front ys) (sym (take_all w xs lone)) collision))))
                ]
          ]
      | inl pair ↦
          let right_x = subtree_hash sha256 layer (drop w xs) in
          let right_y = subtree_hash sha256 layer (drop w ys) in
          let also_pair : w < length ys = omega (arith, pair, long) in
          let text_x = pair_text layer xs pair in
          let text_y = pair_text layer ys also_pair in
          let texts = same_texts (node_text layer xs) (node_text layer ys)
          (ap sha256 text_x ∙ sym (subtree_hash-pair sha256 layer xs pair) ∙ same ∙ subtree_hash-pair sha256 layer ys also_pair ∙ ap sha256 (sym text_y)) in
          elim texts [
            | inr collision ↦ inr (inl collision)
            | inl equal ↦
                let ends = sym text_x ∙ equal ∙ text_y in
                let wide : w ≤ length xs = omega (arith, pair) in
                let also_wide : w ≤ length ys = omega (arith, pair, long) in
                let size : length left_x ≡ length left_y = length-subtree_hash layer xs are some ∙ sym (length-subtree_hash layer ys also (omega (arith, some, long))) in
                let halves = same_halves left_x left_y right_x right_y size (tail_is 1 (left_x ++ right_x) (left_y ++ right_y) ends) in
                let front_x : length (take w xs) ≡ w = length-take-le w xs wide in
                let front_y : length (take w ys) ≡ w = length-take-le w ys also_wide in
                let fronts = same_subtree layer (take w xs) (take w ys) (all_taken w xs are) (all_taken w ys also) (front_x ∙ sym front_y) (omega (arith, front_x, pow_pos layer)) (omega (arith, front_x))
                (subtree_hash-take sha256 layer w xs (omega arith) wide ∙ halves.0 ∙ sym (subtree_hash-take sha256 layer w ys (omega arith) also_wide)) in
                let backs = same_subtree layer (drop w xs) (drop w ys) (all_dropped w xs are) (all_dropped w ys also) (omega (arith, length-drop w xs, length-drop w ys, long))
                (omega (arith, length-drop w xs, pair)) (omega (arith, length-drop w xs, few, half)) halves.1 in
                elim fronts [
                  | inr collision ↦ inr (inr (inl collision))
                  | inl front ↦ elim backs [
                    | inr collision ↦ inr (inr (inr collision))
                    | inl back ↦ inl (sym (take-append-drop w xs) ∙ ap (λ part. part ++ drop w xs) front ∙ ap (λ part. take w ys ++ part) back ∙ take-append-drop w ys)
                  ]
                ]
          ]
    ]

none_is : (xs : List (List ℕ)) → length xs ≡ 0 → xs ≡ []
none_is [] none = refl
none_is (x ∷ xs) none = absurd (omega (arith, none))

-- the root determines the leaf hashes
pub same_leaves : (xs ys : List (List ℕ)) → AreHashes xs → AreHashes ys → length xs ≡ length ys → root_of sha256 xs ≡ root_of sha256 ys → (xs ≡ ys) ⊎ NodesCollide (depth (length xs)) xs ys
same_leaves xs ys are also long same = elim (cases_lt 0 (length xs)) [
  | inr none ↦ inl (none_is xs (omega (arith, none)) ∙ sym (none_is ys (omega (arith, none, long))))
  | inl some ↦ same_subtree (depth (length xs)) xs ys are also long some (depth-room (length xs))
      (sym (root_of-some sha256 xs some) ∙ same ∙ root_of-some sha256 ys (omega (arith, some, long)) ∙ ap (λ n. subtree_hash sha256 (depth n) ys) (sym long))
]

-- the leaf hashes determine the texts
same_text_list : (texts others : List (List ℕ)) → length texts ≡ length others → map leaf_hash_of texts ≡ map leaf_hash_of others → (texts ≡ others) ⊎ LeavesCollide texts others
same_text_list [] [] long same = inl refl
same_text_list [] (other ∷ others) long same = absurd (omega (arith, long))
same_text_list (text ∷ texts) [] long same = absurd (omega (arith, long))
same_text_list (text ∷ texts) (other ∷ others) long same = elim (same_texts (0 ∷ text) (0 ∷ other) (ap (λ l. get_or l 0 []) same)) [
  | inr collision ↦ inr (inl collision)
  | inl first ↦ elim (same_text_list texts others (omega (arith, long)) (ap (drop 1) same)) [
    | inr collision ↦ inr (inr collision)
    | inl rest ↦ inl (ap (λ t. t ∷ texts) (tail_is 0 text other first) ∙ ap (λ ts. other ∷ ts) rest)
  ]
]

-- the commitment determines the texts
pub same_entries : (texts others : List (List ℕ)) → commitment_to texts ≡ commitment_to others → (texts ≡ others) ⊎ TreesCollide texts others
same_entries texts others same =
    let long : length texts ≡ length others = ap (λ (c : Commitment). c.count) same in
    elim (same_leaves (map leaf_hash_of texts) (map leaf_hash_of others) (leaf-hashes texts) (leaf-hashes others)
    (length-map texts leaf_hash_of ∙ long ∙ sym (length-map others leaf_hash_of)) (ap (λ (c : Commitment). c.root) same)) [
      | inr collision ↦ inr (inl (subst (λ n. NodesCollide (depth n) (map leaf_hash_of texts) (map leaf_hash_of others)) (length-map texts leaf_hash_of) collision))
      | inl leaves ↦ elim (same_text_list texts others long leaves) [
        | inl is ↦ inl is
        | inr collision ↦ inr (inr collision)
      ]
    ]
