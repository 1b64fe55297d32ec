-- Trees that continue from a frontier.
use Rattle.std.proofs.Common.{inl, inr, ◌≡◌, ◌≢◌, ◌⊎◌, ℕ, zero, suc, ◌+◌, ◌-◌, ◌*◌, ◌/◌, ◌%◌, ◌^◌, ◌<◌, ◌≤◌, true, cond, eqb, List, [], ◌∷◌, ◌++◌, length, map, get_or, drop, refl, sym, ap, ◌∙◌, arith, length-drop, length-append}
use Rattle.std.specs.List.{range_with_len}
use Rattle.std.proofs.lemmas.Bool.{cases_lt, cases_eq, eq-eqb, ne_eqb}
use Rattle.std.proofs.lemmas.List.{get_or_append_left, get_or-append_right, get_or-drop, drop-append-le, drop-drop, same_lists}
use Rattle.std.proofs.lemmas.List.FromFn.{length-map-range_with_len, get_or-map-range_with_len, fill_by_all}
use Rattle.std.proofs.lemmas.Nat.{pow_pos}
use Rattle.std.proofs.Math.Nat.{pow-suc, zero-mod}
use Rattle.sha2.specs.Sha256.{sha256}
use Rattle.audit_base.specs.declared.limits.TheConstants.{MAX_COUNT, LAYERS}
use Rattle.audit_tree.specs.Subtree.{parent_of, subtree_hash, depth, root_of}
use Rattle.audit_tree.specs.Frontier.{FrontierData, IsFrontierOf, IsSized}
use Rattle.audit_tree.specs.Continued.{no_hash, node_after, root_after, start_at, hash_after, frontier_after, empty_frontier}
use Rattle.audit_tree.proofs.Choices.{cond-le, cond-gt}
use Rattle.audit_tree.proofs.CountOnes.{IsLeftSide, one_side, side_one, low_zero, last_one, last_start, high_one, high_zero}
use Rattle.audit_tree.proofs.Depth.{depth-room, depth-least}
use Rattle.audit_tree.proofs.PathLemmas.{aligned_below, aligned_right}
use Rattle.audit_tree.proofs.PlaceLaw.{not_higher}
use Rattle.audit_tree.proofs.PostOrderLemmas.{subtree_hash-append}
use Rattle.audit_tree.proofs.TrailingZeros.{IsLastLayer}
use Rattle.audit_tree.proofs.SubtreeLemmas.{subtree_hash-leaf, subtree_hash-lone, subtree_hash-pair, root_of-none, root_of-some}

-- the four cases of a node: known from the frontier, a new leaf, a node with one side, a node with two
pub node_within : (f : FrontierData) (leaves : List (List ℕ)) (start layer : ℕ) → start + 2 ^ layer ≤ f.count → node_after f leaves start layer ≡ get_or f.hashes layer []
unfolding node_after
node_within f leaves start zero within = cond-le (start + 1) f.count _ _ (omega (arith, within))
node_within f leaves start (suc layer) within = cond-le (start + 2 ^ suc layer) f.count _ _ within

pub node_leaf : (f : FrontierData) (leaves : List (List ℕ)) (start : ℕ) → f.count ≤ start → node_after f leaves start 0 ≡ get_or leaves (start - f.count) []
unfolding node_after
node_leaf f leaves start past = cond-gt (start + 1) f.count _ _ (omega (arith, past))

pub node_lone : (f : FrontierData) (leaves : List (List ℕ)) (start layer : ℕ) → f.count < start + 2 ^ suc layer → f.count + length leaves ≤ start + 2 ^ layer
    → node_after f leaves start (suc layer) ≡ parent_of sha256 (node_after f leaves start layer) []
unfolding node_after
node_lone f leaves start layer unfilled few =
    cond-gt (start + 2 ^ suc layer) f.count _ _ unfilled
    ∙ ap (parent_of sha256 (node_after f leaves start layer)) (cond-le (f.count + length leaves) (start + 2 ^ layer) _ _ few)

pub node_pair : (f : FrontierData) (leaves : List (List ℕ)) (start layer : ℕ) → f.count < start + 2 ^ suc layer → start + 2 ^ layer < f.count + length leaves
    → node_after f leaves start (suc layer) ≡ parent_of sha256 (node_after f leaves start layer) (node_after f leaves (start + 2 ^ layer) layer)
unfolding node_after
node_pair f leaves start layer unfilled many =
    cond-gt (start + 2 ^ suc layer) f.count _ _ unfilled
    ∙ ap (parent_of sha256 (node_after f leaves start layer)) (cond-gt (f.count + length leaves) (start + 2 ^ layer) _ _ many)

-- later leaves don't change a full node
pub node_full : (f : FrontierData) (xs ys : List (List ℕ)) (start layer : ℕ) → start + 2 ^ layer ≤ f.count + length xs → node_after f (xs ++ ys) start layer ≡ node_after f xs start layer
node_full f xs ys start zero full = elim (cases_lt start f.count) [
  | inl within ↦ node_within f (xs ++ ys) start 0 (omega (arith, within)) ∙ sym (node_within f xs start 0 (omega (arith, within)))
  | inr past ↦ node_leaf f (xs ++ ys) start past ∙ get_or_append_left xs ys [] (start - f.count) (omega (arith, full, past)) ∙ sym (node_leaf f xs start past)
]
node_full f xs ys start (suc layer) full =
    let half : 2 ^ suc layer ≡ 2 * 2 ^ layer = omega (arith, pow-suc 2 layer) in
    let some : 0 < 2 ^ layer = pow_pos layer in
    elim (cases_lt f.count (start + 2 ^ suc layer)) [
      | inr within ↦ node_within f (xs ++ ys) start (suc layer) within ∙ sym (node_within f xs start (suc layer) within)
      | inl unfilled ↦
          node_pair f (xs ++ ys) start layer unfilled (omega (arith, full, half, some, length-append xs ys))
          ∙ ap (λ l. parent_of sha256 l (node_after f (xs ++ ys) (start + 2 ^ layer) layer)) (node_full f xs ys start layer (omega (arith, full, half)))
          ∙ ap (parent_of sha256 (node_after f xs start layer)) (node_full f xs ys (start + 2 ^ layer) layer (omega (arith, full, half)))
          ∙ sym (node_pair f xs start layer unfilled (omega (arith, full, half, some)))
    ]

-- a node that is reached from the root: it isn't full, or it is the left side of one that isn't
pub record IsReached (count start layer : ℕ) : Type 0 where
  pub aligned : start % 2 ^ layer ≡ 0
  pub unfilled : (count < start + 2 ^ layer) ⊎ ((start % 2 ^ suc layer ≡ 0) × (count < start + 2 ^ suc layer))

pub reached_side : (count start layer : ℕ) → IsReached count start layer → start + 2 ^ layer ≤ count → IsLeftSide count start layer
reached_side count start layer reached full = elim reached.unfilled [
  | inl short ↦ absurd (omega (arith, short, full))
  | inr side ↦ record { aligned = side.0; full = full; short = side.1 }
]

pub reached_left : (count start layer : ℕ) → IsReached count start (suc layer) → count < start + 2 ^ suc layer → IsReached count start layer
reached_left count start layer reached unfilled = record { aligned = aligned_below start layer reached.aligned; unfilled = inr (reached.aligned, unfilled) }

pub reached_right : (count start layer : ℕ) → IsReached count start (suc layer) → count < start + 2 ^ suc layer → IsReached count (start + 2 ^ layer) layer
reached_right count start layer reached unfilled = record {
  aligned = aligned_right start layer (aligned_below start layer reached.aligned);
  unfilled = inl (omega (arith, unfilled, pow-suc 2 layer));
}

pub reached_root : (count total : ℕ) → count ≤ total → IsReached count 0 (depth total)
reached_root count total order = record {
  aligned = zero-mod (2 ^ depth total);
  unfilled = inr (zero-mod (2 ^ suc (depth total)), omega (arith, order, depth-room total, pow-suc 2 (depth total), pow_pos (depth total)));
}

-- a left side is reached, also by a lower count
pub side_reached : (count total start layer : ℕ) → count ≤ total → IsLeftSide total start layer → IsReached count start layer
side_reached count total start layer order side =
    record { aligned = aligned_below start layer side.aligned; unfilled = inr (side.aligned, omega (arith, side.short, order)) }

-- the hashes of a frontier, by layer
pub hash_at : (f : FrontierData) (leaves : List (List ℕ)) (layer : ℕ) → layer < LAYERS → get_or (frontier_after f leaves).hashes layer [] ≡ hash_after f leaves layer
hash_at f leaves layer low = get_or-map-range_with_len (hash_after f leaves) 0 LAYERS layer layer [] low (omega arith)

pub hash_one : (f : FrontierData) (leaves : List (List ℕ)) (layer : ℕ) → (f.count + length leaves) / 2 ^ layer % 2 ≡ 1 → hash_after f leaves layer ≡ node_after f leaves (start_at (f.count + length leaves) layer) layer
hash_one f leaves layer one =
    ap (λ b. cond b (node_after f leaves (start_at (f.count + length leaves) layer) layer) no_hash) (eq-eqb ((f.count + length leaves) / 2 ^ layer % 2) 1 one)

pub hash_none : (f : FrontierData) (leaves : List (List ℕ)) (layer : ℕ) → (f.count + length leaves) / 2 ^ layer % 2 ≢ 1 → hash_after f leaves layer ≡ no_hash
hash_none f leaves layer other =
    ap (λ b. cond b (node_after f leaves (start_at (f.count + length leaves) layer) layer) no_hash) (ne_eqb ((f.count + length leaves) / 2 ^ layer % 2) 1 other)

pub hash_side : (f : FrontierData) (leaves : List (List ℕ)) (start layer : ℕ) → layer < LAYERS → IsLeftSide (f.count + length leaves) start layer
    → get_or (frontier_after f leaves).hashes layer [] ≡ node_after f leaves start layer
hash_side f leaves start layer low side =
    let one = side_one (f.count + length leaves) start layer side in
    hash_at f leaves layer low ∙ hash_one f leaves layer one.one ∙ ap (λ s. node_after f leaves s layer) one.start_is

-- a node after more leaves, from the later frontier
node_known : (f : FrontierData) (xs ys : List (List ℕ)) (start layer : ℕ) → layer < LAYERS → IsReached (f.count + length xs) start layer → start + 2 ^ layer ≤ f.count + length xs
    → node_after (frontier_after f xs) ys start layer ≡ node_after f (xs ++ ys) start layer
node_known f xs ys start layer low reached full =
    node_within (frontier_after f xs) ys start layer full
    ∙ hash_side f xs start layer low (reached_side (f.count + length xs) start layer reached full)
    ∙ sym (node_full f xs ys start layer full)

pub node_further : (f : FrontierData) (xs ys : List (List ℕ)) (start layer : ℕ) → layer < LAYERS → IsReached (f.count + length xs) start layer
    → node_after (frontier_after f xs) ys start layer ≡ node_after f (xs ++ ys) start layer
node_further f xs ys start zero low reached = elim (cases_lt start (f.count + length xs)) [
  | inl within ↦ node_known f xs ys start 0 low reached (omega (arith, within))
  | inr past ↦
      node_leaf (frontier_after f xs) ys start past
      ∙ ap (λ n. get_or ys n []) (let e : start - (f.count + length xs) ≡ start - f.count - length xs = omega arith in e)
      ∙ sym (get_or-append_right xs ys (length xs) (start - f.count) [] refl (omega (arith, past)))
      ∙ sym (node_leaf f (xs ++ ys) start (omega (arith, past)))
]
node_further f xs ys start (suc layer) low reached =
    let g = frontier_after f xs in
    let total : g.count + length ys ≡ f.count + length (xs ++ ys) = omega (arith, length-append xs ys) in
    elim (cases_lt (f.count + length xs) (start + 2 ^ suc layer)) [
      | inr full ↦ node_known f xs ys start (suc layer) low reached full
      | inl unfilled ↦
          let left = node_further f xs ys start layer (omega (arith, low)) (reached_left (f.count + length xs) start layer reached unfilled) in
          elim (cases_lt (start + 2 ^ layer) (g.count + length ys)) [
            | inr few ↦ node_lone g ys start layer unfilled few
                ∙ ap (λ l. parent_of sha256 l []) left
                ∙ sym (node_lone f (xs ++ ys) start layer (omega (arith, unfilled)) (omega (arith, few, total)))
            | inl many ↦ node_pair g ys start layer unfilled many
                ∙ ap (λ l. parent_of sha256 l (node_after g ys (start + 2 ^ layer) layer)) left
                ∙ ap (parent_of sha256 (node_after f (xs ++ ys) start layer))
                (node_further f xs ys (start + 2 ^ layer) layer (omega (arith, low)) (reached_right (f.count + length xs) start layer reached unfilled))
                ∙ sym (node_pair f (xs ++ ys) start layer (omega (arith, unfilled)) (omega (arith, many, total)))
          ]
    ]

pub root_none : (f : FrontierData) (leaves : List (List ℕ)) → f.count + length leaves ≡ 0 → root_after f leaves ≡ no_hash
unfolding root_after
root_none f leaves none = cond-le (f.count + length leaves) 0 _ _ (omega (arith, none))

pub root_some : (f : FrontierData) (leaves : List (List ℕ)) → 0 < f.count + length leaves → root_after f leaves ≡ node_after f leaves 0 (depth (f.count + length leaves))
unfolding root_after
root_some f leaves some = cond-gt (f.count + length leaves) 0 _ _ some

pub root_further : (f : FrontierData) (xs ys : List (List ℕ)) → f.count + length (xs ++ ys) ≤ MAX_COUNT → root_after (frontier_after f xs) ys ≡ root_after f (xs ++ ys)
root_further f xs ys small =
    let g = frontier_after f xs in
    let total : g.count + length ys ≡ f.count + length (xs ++ ys) = omega (arith, length-append xs ys) in
    let low : depth (f.count + length (xs ++ ys)) < LAYERS = omega (arith, depth-least (f.count + length (xs ++ ys)) 24 (omega (arith, small))) in
    elim (cases_lt 0 (f.count + length (xs ++ ys))) [
      | inr none ↦ root_none g ys (omega (arith, none, total)) ∙ sym (root_none f (xs ++ ys) (omega (arith, none)))
      | inl some ↦ root_some g ys (omega (arith, some, total))
          ∙ ap (λ n. node_after g ys 0 (depth n)) total
          ∙ node_further f xs ys 0 (depth (f.count + length (xs ++ ys))) low (reached_root (f.count + length xs) (f.count + length (xs ++ ys)) (omega (arith, length-append xs ys)))
          ∙ sym (root_some f (xs ++ ys) some)
    ]

-- hashes that agree with those of a frontier at each layer
pub hashes_are : (f : FrontierData) (leaves hashes : List (List ℕ)) → length hashes ≡ LAYERS → ((layer : ℕ) → layer < LAYERS → get_or hashes layer [] ≡ hash_after f leaves layer)
    → hashes ≡ (frontier_after f leaves).hashes
hashes_are f leaves hashes long each = fill_by_all (hash_after f leaves) hashes LAYERS [] long each

hash_further : (f : FrontierData) (xs ys : List (List ℕ)) (layer : ℕ) → layer < LAYERS → hash_after (frontier_after f xs) ys layer ≡ hash_after f (xs ++ ys) layer
hash_further f xs ys layer low =
    let g = frontier_after f xs in
    let total : g.count + length ys ≡ f.count + length (xs ++ ys) = omega (arith, length-append xs ys) in
    elim (cases_eq ((f.count + length (xs ++ ys)) / 2 ^ layer % 2) 1) [
      | inr other ↦ hash_none g ys layer (λ one. other (ap (λ n. n / 2 ^ layer % 2) (sym total) ∙ one)) ∙ sym (hash_none f (xs ++ ys) layer other)
      | inl one ↦
          let side = one_side (f.count + length (xs ++ ys)) layer one in
          hash_one g ys layer (ap (λ n. n / 2 ^ layer % 2) total ∙ one)
          ∙ ap (λ n. node_after g ys (start_at n layer) layer) total
          ∙ node_further f xs ys (start_at (f.count + length (xs ++ ys)) layer) layer low
          (side_reached (f.count + length xs) (f.count + length (xs ++ ys)) (start_at (f.count + length (xs ++ ys)) layer) layer (omega (arith, length-append xs ys)) side)
          ∙ sym (hash_one f (xs ++ ys) layer one)
    ]

abbrev with_hashes : ℕ → List (List ℕ) → FrontierData
with_hashes count hashes = record { count = count; hashes = hashes }

pub frontier_further : (f : FrontierData) (xs ys : List (List ℕ)) → frontier_after (frontier_after f xs) ys ≡ frontier_after f (xs ++ ys)
frontier_further f xs ys =
    let g = frontier_after f xs in
    let total : g.count + length ys ≡ f.count + length (xs ++ ys) = omega (arith, length-append xs ys) in
    let hashes = hashes_are f (xs ++ ys) (frontier_after g ys).hashes (length-map-range_with_len (hash_after g ys) 0 LAYERS)
    (λ layer low. hash_at g ys layer low ∙ hash_further f xs ys layer low) in
    ap (λ n. with_hashes n (frontier_after g ys).hashes) total ∙ ap (with_hashes (f.count + length (xs ++ ys))) hashes

-- a frontier of leaves: each node that is reached is theirs
node_of_known : (f : FrontierData) (leaves more : List (List ℕ)) (start layer : ℕ) → IsFrontierOf f leaves → IsReached f.count start layer → start + 2 ^ layer ≤ f.count
    → node_after f more start layer ≡ subtree_hash sha256 layer (drop start (leaves ++ more))
node_of_known f leaves more start layer is reached full =
    let side = reached_side f.count start layer reached full in
    let long : start + 2 ^ layer ≤ length leaves = omega (arith, full, is.count) in
    node_within f more start layer full
    ∙ is.each start layer side.aligned long (omega (arith, side.short, is.count))
    ∙ sym (ap (subtree_hash sha256 layer) (drop-append-le start leaves more (omega (arith, long)))
    ∙ subtree_hash-append sha256 layer (drop start leaves) more (omega (arith, long, length-drop start leaves)))

pub node_of_leaves : (f : FrontierData) (leaves more : List (List ℕ)) (start layer : ℕ) → IsFrontierOf f leaves → IsReached f.count start layer → start < length (leaves ++ more)
    → node_after f more start layer ≡ subtree_hash sha256 layer (drop start (leaves ++ more))
node_of_leaves f leaves more start zero is reached within = elim (cases_lt start f.count) [
  | inl known ↦ node_of_known f leaves more start 0 is reached (omega (arith, known))
  | inr past ↦
      node_leaf f more start past
      ∙ ap (λ n. get_or more n []) (let e : start - f.count ≡ start - length leaves = omega (arith, is.count) in e)
      ∙ sym (get_or-append_right leaves more (length leaves) start [] refl (omega (arith, past, is.count)))
      ∙ ap (λ n. get_or (leaves ++ more) n []) (let e : start ≡ start + 0 = omega arith in e)
      ∙ sym (get_or-drop start (leaves ++ more) 0 [])
      ∙ sym (subtree_hash-leaf sha256 (drop start (leaves ++ more)))
]
node_of_leaves f leaves more start (suc layer) is reached within =
    let all = leaves ++ more in
    let total : f.count + length more ≡ length all = omega (arith, is.count, length-append leaves more) in
    elim (cases_lt f.count (start + 2 ^ suc layer)) [
      | inr full ↦ node_of_known f leaves more start (suc layer) is reached full
      | inl unfilled ↦
          let left = node_of_leaves f leaves more start layer is (reached_left f.count start layer reached unfilled) within in
          elim (cases_lt (start + 2 ^ layer) (length all)) [
            | inr few ↦ node_lone f more start layer unfilled (omega (arith, few, total))
                ∙ ap (λ l. parent_of sha256 l []) left
                ∙ sym (subtree_hash-lone sha256 layer (drop start all) (omega (arith, few, length-drop start all)))
            | inl many ↦ node_pair f more start layer unfilled (omega (arith, many, total))
                ∙ ap (λ l. parent_of sha256 l (node_after f more (start + 2 ^ layer) layer)) left
                ∙ ap (parent_of sha256 (subtree_hash sha256 layer (drop start all)))
                (node_of_leaves f leaves more (start + 2 ^ layer) layer is (reached_right f.count start layer reached unfilled) many
                ∙ ap (subtree_hash sha256 layer) (sym (drop-drop (2 ^ layer) start all)))
                ∙ sym (subtree_hash-pair sha256 layer (drop start all) (omega (arith, many, length-drop start all)))
          ]
    ]

pub root_of_leaves : (f : FrontierData) (leaves more : List (List ℕ)) → IsFrontierOf f leaves → root_after f more ≡ root_of sha256 (leaves ++ more)
root_of_leaves f leaves more is =
    let all = leaves ++ more in
    let total : f.count + length more ≡ length all = omega (arith, is.count, length-append leaves more) in
    elim (cases_lt 0 (length all)) [
      | inr none ↦ root_none f more (omega (arith, none, total)) ∙ sym (root_of-none sha256 all (omega (arith, none)))
      | inl some ↦ root_some f more (omega (arith, some, total))
          ∙ ap (λ n. node_after f more 0 (depth n)) total
          ∙ node_of_leaves f leaves more 0 (depth (length all)) is (reached_root f.count (length all) (omega (arith, total))) some
          ∙ sym (root_of-some sha256 all some)
    ]

pub none_of_leaves : (f : FrontierData) → f.count ≡ 0 → IsFrontierOf f []
none_of_leaves f none = record { count = none; each = λ start layer aligned full short. absurd (omega (arith, full, pow_pos layer)) }

-- the frontier of more leaves
pub frontier_of_leaves : (f : FrontierData) (leaves more : List (List ℕ)) → IsFrontierOf f leaves → f.count + length more ≤ MAX_COUNT → IsFrontierOf (frontier_after f more) (leaves ++ more)
frontier_of_leaves f leaves more is small =
    let all = leaves ++ more in
    let total : f.count + length more ≡ length all = omega (arith, is.count, length-append leaves more) in
    record {
      count = total;
      each = λ start layer aligned full short.
          let side : IsLeftSide (f.count + length more) start layer = record { aligned = aligned; full = omega (arith, full, total); short = omega (arith, short, total) } in
          let low : layer < LAYERS = omega (arith, not_higher layer 24 (omega (arith, side.full, small))) in
          hash_side f more start layer low side
          ∙ node_of_leaves f leaves more start layer is (side_reached f.count (f.count + length more) start layer (omega arith) side) (omega (arith, full, pow_pos layer));
    }

-- one more leaf: the hash that it completes is at the lowest one of the new count, those below are erased
pub pushed : (f : FrontierData) (leaf : List ℕ) (last : ℕ) (hashes : List (List ℕ)) → IsLastLayer (f.count + 1) last → IsSized f.count f.hashes → length hashes ≡ LAYERS
    → get_or hashes last [] ≡ node_after f (leaf ∷ []) (f.count + 1 - 2 ^ last) last
    → ((layer : ℕ) → layer < last → get_or hashes layer [] ≡ no_hash)
    → ((layer : ℕ) → last < layer → get_or hashes layer [] ≡ get_or f.hashes layer [])
    → with_hashes (f.count + 1) hashes ≡ frontier_after f (leaf ∷ [])
pushed f leaf last hashes is sized long completed erased kept =
    let n = f.count + 1 in
    let each : (layer : ℕ) → layer < LAYERS → get_or hashes layer [] ≡ hash_after f (leaf ∷ []) layer =
    λ layer low. elim (cases_lt layer last) [
      | inl below ↦ erased layer below ∙ sym (hash_none f (leaf ∷ []) layer (low_zero n layer last is below))
      | inr fine ↦ elim (cases_lt last layer) [
        | inr least ↦
            let same : layer ≡ last = omega (arith, fine, least) in
            ap (λ k. get_or hashes k []) same ∙ completed
            ∙ ap (λ s. node_after f (leaf ∷ []) s last) (sym (last_start n last is))
            ∙ sym (hash_one f (leaf ∷ []) last (last_one n last is))
            ∙ ap (hash_after f (leaf ∷ [])) (sym same)
        | inl above ↦ kept layer above ∙ elim (cases_eq (n / 2 ^ layer % 2) 1) [
          | inl one ↦ sym (hash_one f (leaf ∷ []) layer one ∙ node_within f (leaf ∷ []) (start_at n layer) layer (high_one f.count layer last is above one))
          | inr none ↦ sized.clean layer low (high_zero f.count layer last is above none) ∙ sym (hash_none f (leaf ∷ []) layer none)
        ]
      ]
    ] in
    ap (with_hashes n) (hashes_are f (leaf ∷ []) hashes long each)

pub sized_after : (f : FrontierData) (leaves : List (List ℕ)) → f.count + length leaves ≤ MAX_COUNT → IsSized (f.count + length leaves) (frontier_after f leaves).hashes
sized_after f leaves small = record {
  most = small;
  long = length-map-range_with_len (hash_after f leaves) 0 LAYERS;
  clean = λ layer low none. hash_at f leaves layer low ∙ hash_none f leaves layer none;
}

-- no more leaves
pub after_none : (f : FrontierData) → IsSized f.count f.hashes → frontier_after f [] ≡ f
after_none f sized =
    let same : f.count + 0 ≡ f.count = omega arith in
    let each : (layer : ℕ) → layer < LAYERS → get_or f.hashes layer [] ≡ hash_after f [] layer =
    λ layer low. elim (cases_eq ((f.count + 0) / 2 ^ layer % 2) 1) [
      | inr other ↦ sized.clean layer low (λ one. other (ap (λ n. n / 2 ^ layer % 2) same ∙ one)) ∙ sym (hash_none f [] layer other)
      | inl one ↦
          let side = one_side (f.count + 0) layer one in
          sym (hash_one f [] layer one ∙ node_within f [] (start_at (f.count + 0) layer) layer (omega (arith, side.full)))
    ] in
    ap (with_hashes (f.count + 0)) (sym (hashes_are f [] f.hashes sized.long each)) ∙ ap (λ n. with_hashes n f.hashes) same
