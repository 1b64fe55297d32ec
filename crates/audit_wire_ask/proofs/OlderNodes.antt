-- The nodes of an older tree's frontier, which an increment contains by layer.
use Rattle.std.proofs.Common.{inl, inr, ◌≡◌, ◌≢◌, ℕ, zero, suc, ◌+◌, ◌-◌, ◌*◌, ◌/◌, ◌%◌, ◌^◌, ◌<◌, ◌≤◌, List, [], ◌∷◌, ◌++◌, length, take, drop, set, get_or, replicate, refl, sym, ap, subst, ◌∙◌, arith, length-append, length-drop, append-nil, append_assoc}
use Rattle.std.specs.Int.{w64, trailing_zeros}
use Rattle.std.proofs.lemmas.Bool.{cases_lt}
use Rattle.std.proofs.lemmas.Grind.{get_or-set_at}
use Rattle.std.proofs.lemmas.List.{get_or-set_other, get_or-append-add, drop-take, length-take-le, take_all, length-set, get_or-replicate}
use Rattle.std.proofs.lemmas.Nat.{pow_pos}
use Rattle.std.proofs.Math.Nat.{mod-eq_of_lt}
use Rattle.std.proofs.Math.Pow.{pow_mono}
use Rattle.sha2.specs.Sha256.{sha256}
use Rattle.audit_base.specs.declared.limits.TheConstants.{LAYERS, MAX_COUNT}
use Rattle.audit_tree.specs.Subtree.{subtree_hash, node_at, depth}
use Rattle.audit_tree.specs.Paths.{path, siblings_at, sibling_at}
use Rattle.audit_tree.specs.Frontier.{IsFrontierOf, IsSized}
use Rattle.audit_tree.specs.Continued.{no_hash, start_at}
use Rattle.audit_tree.proofs.CountOnes.{IsLeftSide, side_one, last_one, last_start, low_zero, high_one, one_side, divides_below}
use Rattle.audit_tree.proofs.Depth.{depth-room}
use Rattle.audit_tree.proofs.OlderNode.{IsOlderNode, older_node}
use Rattle.audit_tree.proofs.PathLemmas.{start_of, start_of-le, start_of-near, start_of-right, aligned_start, siblings_at-whole, siblings_at-more, siblings_at-zero, sibling_at-left, sibling_at-right, sibling_at-none, aligned_right}
use Rattle.audit_tree.proofs.SubtreeLemmas.{subtree_hash-take, node_at-subtree_hash}
use Rattle.audit_tree.proofs.TrailingZeros.{IsLastLayer, last_layer}

-- a full node has the same hash in the older tree and in the newer one
full_node : (leaves : List (List ℕ)) (older start layer : ℕ) → older ≤ length leaves → start + 2 ^ layer ≤ older
    → subtree_hash sha256 layer (drop start (take older leaves)) ≡ subtree_hash sha256 layer (drop start leaves)
full_node leaves older start layer order full =
    let sum : older ≡ start + (older - start) = omega (arith, full) in
    ap (λ n. subtree_hash sha256 layer (drop start (take n leaves))) sum
    ∙ ap (subtree_hash sha256 layer) (drop-take start (older - start) leaves)
    ∙ subtree_hash-take sha256 layer (older - start) (drop start leaves) (omega (arith, full)) (omega (arith, order, full, length-drop start leaves))

-- where the way up from the last leaf of the older tree goes to the right, a node of its frontier is on the left
record IsOnTheLeft (older layer : ℕ) : Type 0 where
  side : IsLeftSide older (start_of (older - 1) layer - 2 ^ layer) layer
  one : older / 2 ^ layer % 2 ≡ 1
  wide : 2 ^ layer ≤ start_of (older - 1) layer

on_the_left : (older last layer : ℕ) → 0 < older → IsLastLayer older last → last ≤ layer → (older - 1) / 2 ^ layer % 2 ≡ 1 → IsOnTheLeft older layer
on_the_left older last layer some is above odd =
    let place = older - 1 in
    let start = start_of place layer in
    let up = start_of place (suc layer) in
    let w = 2 ^ layer in
    let split : up + w ≡ start = start_of-right place layer odd in
    let aligned : up % 2 ^ suc layer ≡ 0 = aligned_start place (suc layer) in
    let first : start - w ≡ up = omega (arith, split) in
    let full : up + w ≤ older = omega (arith, split, start_of-le place layer) in
    let near : older ≤ up + 2 ^ suc layer = omega (arith, start_of-near place (suc layer), some) in
    let side : IsLeftSide older up layer = record {
      aligned = aligned;
      full = full;
      short = elim (cases_lt older (up + 2 ^ suc layer)) [
        | inl fine ↦ fine
        | inr past ↦
            let same : up + 2 ^ suc layer ≡ older = omega (arith, past, near) in
            absurd (is.stops (divides_below older (suc last) (suc layer) (omega (arith, above))
            (ap (λ n. n % 2 ^ suc layer) (sym same) ∙ aligned_right up (suc layer) aligned)))
      ];
    } in
    record { side = subst (λ n. IsLeftSide older n layer) (sym first) side; one = (side_one older up layer side).one; wide = omega (arith, split) }

-- above the lowest node of the frontier, the way up goes to the right wherever there is one
to_the_right : (older last layer : ℕ) → 0 < older → IsLastLayer older last → last < layer → older / 2 ^ layer % 2 ≡ 1 → (older - 1) / 2 ^ layer % 2 ≡ 1
to_the_right older last layer some is above one =
    let back : older - 1 + 1 ≡ older = omega (arith, some) in
    let side = one_side older layer one in
    let full = high_one (older - 1) layer last (subst (λ n. IsLastLayer n last) (sym back) is) above (ap (λ n. n / 2 ^ layer % 2) back ∙ one) in
    let start_is : start_at (older - 1 + 1) layer ≡ start_at older layer = ap (λ n. start_at n layer) back in
    (side_one (older - 1) (start_at older layer) layer (record { aligned = side.aligned; full = omega (arith, full, start_is); short = omega (arith, side.short) })).one

high_full : (older last layer : ℕ) → 1 ≤ older → IsLastLayer older last → last < layer → older / 2 ^ layer % 2 ≡ 1 → 2 ^ layer < older
high_full older last layer some is above one =
    let back : older - 1 + 1 ≡ older = omega (arith, some) in
    omega (arith, some, high_one (older - 1) layer last (subst (λ n. IsLastLayer n last) (sym back) is) above (ap (λ n. n / 2 ^ layer % 2) back ∙ one))

lower_than_depth : (k count layer : ℕ) → 2 ^ k < count → depth count ≤ layer → k < layer
lower_than_depth k count layer wide top = elim (cases_lt k layer) [
  | inl fine ↦ fine
  | inr past ↦ absurd (omega (arith, wide, depth-room count, pow_mono (let e : depth count ≤ k = omega (arith, past, top) in e)))
]

module _ (leaves : List (List ℕ)) (older : ℕ) where
  abbrev siblings : ℕ → List (List ℕ)
  siblings height = siblings_at sha256 leaves (length leaves) (older - 1) (trailing_zeros w64 older) height

  -- the nodes below a layer are known, and as many siblings were passed
  pub record HasNodes (layer used : ℕ) (nodes : List (List ℕ)) : Type 0 where
    pub passed : used ≡ length (siblings (layer - trailing_zeros w64 older))
    pub long : length nodes ≡ LAYERS
    pub first : get_or nodes (trailing_zeros w64 older) [] ≡ subtree_hash sha256 (trailing_zeros w64 older) (drop (older - 2 ^ trailing_zeros w64 older) leaves)
    pub known : (k : ℕ) → trailing_zeros w64 older < k → k < layer → older / 2 ^ k % 2 ≡ 1 → get_or nodes k [] ≡ subtree_hash sha256 k (drop (start_at older k) leaves)
    pub clean : (k : ℕ) → k < LAYERS → older / 2 ^ k % 2 ≢ 1 → get_or nodes k [] ≡ no_hash

  -- what an older tree and a newer one are
  pub record AreOrdered : Type 0 where
    pub some : 1 ≤ older
    pub order : older ≤ length leaves
    pub small : length leaves ≤ MAX_COUNT

  module _ (are : AreOrdered) where
    last : IsLastLayer older (trailing_zeros w64 older)
    last = last_layer older (omega (arith, are.some)) (omega (arith, are.order, are.small))

    node : IsOlderNode older (length leaves)
    node = older_node older (length leaves) (omega (arith, are.some)) are.order are.small

    pub low : trailing_zeros w64 older < LAYERS
    low = omega (arith, node.below, node.top)

    -- the siblings are those of the path
    pub all_siblings : siblings (depth (length leaves) - trailing_zeros w64 older) ≡ path sha256 (trailing_zeros w64 older) (depth (length leaves) - trailing_zeros w64 older) (older - 1) leaves
    all_siblings =
        let from = trailing_zeros w64 older in
        let height = depth (length leaves) - from in
        let top : from + height ≡ depth (length leaves) = omega (arith, node.below) in
        siblings_at-whole sha256 from height (older - 1) (length leaves) leaves (omega (arith, are.some, are.order)) (omega arith) (rw top (depth-room (length leaves)))
        ∙ ap (path sha256 from height (older - 1)) (take_all (length leaves) leaves (omega arith))

    -- those up to a layer come first
    siblings_more : (height more : ℕ) → (rest : List (List ℕ)) × (siblings (height + more) ≡ siblings height ++ rest)
    siblings_more height zero = ([], ap siblings (let e : height + 0 ≡ height = omega arith in e) ∙ sym (append-nil (siblings height)))
    siblings_more height (suc more) =
        let from = trailing_zeros w64 older in
        let lower = siblings_more height more in
        let layer = from + (height + more) in
        let one = sibling_at sha256 leaves (length leaves) (older - 1) layer in (
          lower.0 ++ one,
          ap siblings (let e : height + suc more ≡ layer + 1 - from = omega arith in e)
              ∙ siblings_at-more sha256 from leaves (length leaves) (older - 1) layer (omega arith)
              ∙ ap (λ n. siblings n ++ one) (let e : layer - from ≡ height + more = omega arith in e)
              ∙ ap (λ l. l ++ one) lower.1
              ∙ append_assoc (siblings height) lower.0 one,
        )

    -- the node on the left is the next sibling
    pub next_left : (layer : ℕ) → trailing_zeros w64 older ≤ layer → layer < depth (length leaves) → (older - 1) / 2 ^ layer % 2 ≡ 1
        → get_or (path sha256 (trailing_zeros w64 older) (depth (length leaves) - trailing_zeros w64 older) (older - 1) leaves) (length (siblings (layer - trailing_zeros w64 older))) []
        ≡ subtree_hash sha256 layer (drop (start_at older layer) leaves)
    next_left layer above below odd =
        let from = trailing_zeros w64 older in
        let place = older - 1 in
        let height = layer - from in
        let left = on_the_left older from layer (omega (arith, are.some)) last above odd in
        let start = start_of place layer - 2 ^ layer in
        let hash = node_at sha256 leaves (length leaves) start layer in
        let rest = siblings_more (layer + 1 - from) (depth (length leaves) - (layer + 1)) in
        let whole : depth (length leaves) - from ≡ layer + 1 - from + (depth (length leaves) - (layer + 1)) = omega (arith, above, below) in
        let one = siblings_at-more sha256 from leaves (length leaves) place layer above ∙ ap (λ l. siblings height ++ l) (sibling_at-left sha256 leaves (length leaves) place layer odd) in
        let all : siblings (depth (length leaves) - from) ≡ siblings height ++ (hash ∷ rest.0) =
        ap siblings whole ∙ rest.1 ∙ ap (λ l. l ++ rest.0) one ∙ append_assoc (siblings height) (hash ∷ []) rest.0 in
        ap (λ l. get_or l (length (siblings height)) []) (sym all_siblings ∙ all)
        ∙ ap (λ n. get_or (siblings height ++ (hash ∷ rest.0)) n []) (let e : length (siblings height) ≡ length (siblings height) + 0 = omega arith in e)
        ∙ get_or-append-add (siblings height) (hash ∷ rest.0) 0 []
        ∙ node_at-subtree_hash sha256 layer start (length leaves) leaves (omega (arith, left.side.full, are.order, pow_pos layer)) (omega arith)
        ∙ ap (λ l. subtree_hash sha256 layer (drop start l)) (take_all (length leaves) leaves (omega arith))
        ∙ ap (λ n. subtree_hash sha256 layer (drop n leaves)) (sym (side_one older start layer left.side).start_is)

    -- there is such a sibling
    pub next_within : (layer : ℕ) → trailing_zeros w64 older ≤ layer → layer < depth (length leaves) → (older - 1) / 2 ^ layer % 2 ≡ 1
        → length (siblings (layer - trailing_zeros w64 older)) < length (path sha256 (trailing_zeros w64 older) (depth (length leaves) - trailing_zeros w64 older) (older - 1) leaves)
    next_within layer above below odd =
        let from = trailing_zeros w64 older in
        let place = older - 1 in
        let height = layer - from in
        let start = start_of place layer - 2 ^ layer in
        let hash = node_at sha256 leaves (length leaves) start layer in
        let rest = siblings_more (layer + 1 - from) (depth (length leaves) - (layer + 1)) in
        let whole : depth (length leaves) - from ≡ layer + 1 - from + (depth (length leaves) - (layer + 1)) = omega (arith, above, below) in
        let one = siblings_at-more sha256 from leaves (length leaves) place layer above ∙ ap (λ l. siblings height ++ l) (sibling_at-left sha256 leaves (length leaves) place layer odd) in
        let all = ap siblings whole ∙ rest.1 ∙ ap (λ l. l ++ rest.0) one in
        omega (arith, ap length (sym all_siblings ∙ all), length-append (siblings height ++ hash ∷ []) rest.0, length-append (siblings height) (hash ∷ []))

    -- at the lowest node of the frontier the way up goes to the left
    last_even : (older - 1) / 2 ^ trailing_zeros w64 older % 2 ≢ 1
    last_even odd =
        let from = trailing_zeros w64 older in
        let left = on_the_left older from from (omega (arith, are.some)) last (omega arith) odd in
        omega (arith, (side_one older (start_of (older - 1) from - 2 ^ from) from left.side).start_is, last_start older from last, left.wide, start_of-le (older - 1) from, last.width, are.some)

    -- one layer further
    pub nodes_left : (layer used : ℕ) (nodes : List (List ℕ)) (hash : List ℕ) → trailing_zeros w64 older ≤ layer → layer < depth (length leaves) → (older - 1) / 2 ^ layer % 2 ≡ 1
        → HasNodes layer used nodes → hash ≡ get_or (path sha256 (trailing_zeros w64 older) (depth (length leaves) - trailing_zeros w64 older) (older - 1) leaves) used []
        → HasNodes (layer + 1) (used + 1) (set nodes layer hash)
    nodes_left layer used nodes hash above below odd has is =
        let from = trailing_zeros w64 older in
        let left = on_the_left older from layer (omega (arith, are.some)) last above odd in
        let inside : layer < length nodes = omega (arith, below, node.top, has.long) in
        let higher : layer ≢ from = λ same. last_even (ap (λ k. (older - 1) / 2 ^ k % 2) (sym same) ∙ odd) in
        record {
          passed = omega (arith, has.passed, ap length (siblings_at-more sha256 from leaves (length leaves) (older - 1) layer above ∙ ap (λ l. siblings (layer - from) ++ l) (sibling_at-left sha256 leaves (length leaves) (older - 1) layer odd)), length-append (siblings (layer - from)) (node_at sha256 leaves (length leaves) (start_of (older - 1) layer - 2 ^ layer) layer ∷ []));
          long = length-set nodes layer hash ∙ has.long;
          first = get_or-set_other nodes layer from hash [] (λ same. higher (sym same)) ∙ has.first;
          known = λ k high low one. elim (cases_lt k layer) [
            | inl lower ↦ get_or-set_other nodes layer k hash [] (λ same. omega (arith, same, lower)) ∙ has.known k high lower one
            | inr least ↦
                let same : k ≡ layer = omega (arith, least, low) in
                get_or-set_at nodes layer k hash [] same inside ∙ is ∙ ap (λ n. get_or (path sha256 from (depth (length leaves) - from) (older - 1) leaves) n []) has.passed
                ∙ next_left layer above below odd ∙ ap (λ n. subtree_hash sha256 n (drop (start_at older n) leaves)) (sym same)
          ];
          clean = λ k low none. get_or-set_other nodes layer k hash [] (λ same. none (ap (λ n. older / 2 ^ n % 2) same ∙ left.one)) ∙ has.clean k low none;
        }

    -- the same where the way up doesn't go to the right
    nodes_kept : (layer used passed : ℕ) (nodes : List (List ℕ)) → trailing_zeros w64 older ≤ layer → (older - 1) / 2 ^ layer % 2 ≢ 1
        → HasNodes layer used nodes → passed ≡ length (siblings (layer + 1 - trailing_zeros w64 older)) → HasNodes (layer + 1) passed nodes
    nodes_kept layer used passed nodes above even has passed_is =
        let from = trailing_zeros w64 older in
        record {
          passed = passed_is;
          long = has.long;
          first = has.first;
          known = λ k high low one. elim (cases_lt k layer) [
            | inl lower ↦ has.known k high lower one
            | inr least ↦
                let same : k ≡ layer = omega (arith, least, low) in
                absurd (even (ap (λ n. (older - 1) / 2 ^ n % 2) (sym same) ∙ to_the_right older from k (omega (arith, are.some)) last high one))
          ];
          clean = has.clean;
        }

    pub nodes_right : (layer used : ℕ) (nodes : List (List ℕ)) → trailing_zeros w64 older ≤ layer → (older - 1) / 2 ^ layer % 2 ≢ 1 → start_of (older - 1) layer + 2 ^ layer < length leaves
        → HasNodes layer used nodes → HasNodes (layer + 1) (used + 1) nodes
    nodes_right layer used nodes above even more has =
        let from = trailing_zeros w64 older in
        let hash = node_at sha256 leaves (length leaves) (start_of (older - 1) layer + 2 ^ layer) layer in
        nodes_kept layer used (used + 1) nodes above even has
        (omega (arith, has.passed, ap length (siblings_at-more sha256 from leaves (length leaves) (older - 1) layer above ∙ ap (λ l. siblings (layer - from) ++ l) (sibling_at-right sha256 leaves (length leaves) (older - 1) layer even more)), length-append (siblings (layer - from)) (hash ∷ [])))

    pub nodes_lone : (layer used : ℕ) (nodes : List (List ℕ)) → trailing_zeros w64 older ≤ layer → (older - 1) / 2 ^ layer % 2 ≢ 1 → length leaves ≤ start_of (older - 1) layer + 2 ^ layer
        → HasNodes layer used nodes → HasNodes (layer + 1) used nodes
    nodes_lone layer used nodes above even few has =
        let from = trailing_zeros w64 older in
        nodes_kept layer used used nodes above even has
        (has.passed ∙ sym (ap length (siblings_at-more sha256 from leaves (length leaves) (older - 1) layer above ∙ ap (λ l. siblings (layer - from) ++ l) (sibling_at-none sha256 leaves (length leaves) (older - 1) layer even few) ∙ append-nil (siblings (layer - from)))))

    -- before the first layer
    pub nodes_begun : (nodes : List (List ℕ)) (hash : List ℕ) → length nodes ≡ LAYERS → ((k : ℕ) → k < LAYERS → get_or nodes k [] ≡ no_hash)
        → hash ≡ subtree_hash sha256 (trailing_zeros w64 older) (drop (older - 2 ^ trailing_zeros w64 older) leaves)
        → HasNodes (trailing_zeros w64 older) 0 (set nodes (trailing_zeros w64 older) hash)
    nodes_begun nodes hash long none is =
        let from = trailing_zeros w64 older in
        record {
          passed = sym (ap (λ n. length (siblings n)) (let e : from - from ≡ 0 = omega arith in e) ∙ ap length (siblings_at-zero sha256 from leaves (length leaves) (older - 1)));
          long = length-set nodes from hash ∙ long;
          first = get_or-set_at nodes from from hash [] refl (omega (arith, low, long)) ∙ is;
          known = λ k high low one. absurd (omega (arith, high, low));
          clean = λ k low zero. get_or-set_other nodes from k hash [] (λ same. zero (ap (λ n. older / 2 ^ n % 2) same ∙ last_one older from last)) ∙ none k low;
        }

    -- after the last layer
    pub nodes_whole : (layer used : ℕ) (nodes : List (List ℕ)) → depth (length leaves) ≤ layer → HasNodes layer used nodes
        → IsSized older nodes × IsFrontierOf (record { count = older; hashes = nodes }) (take older leaves)
    nodes_whole layer used nodes top has =
        let from = trailing_zeros w64 older in
        let long : length (take older leaves) ≡ older = length-take-le older leaves are.order in (
          record { most = omega (arith, are.order, are.small); long = has.long; clean = has.clean },
          record {
            count = sym long;
            each = λ start k aligned full short.
                let side : IsLeftSide older start k = record { aligned = aligned; full = omega (arith, full, long); short = omega (arith, short, long) } in
                let one = side_one older start k side in
                let same = full_node leaves older start k are.order side.full in
                elim (cases_lt k from) [
                  | inl lower ↦ absurd (low_zero older k from last lower one.one)
                  | inr least ↦ elim (cases_lt from k) [
                    | inl higher ↦
                        let wide : 2 ^ k < length leaves = omega (arith, are.some, are.order, high_full older from k are.some last higher one.one) in
                        has.known k higher (lower_than_depth k (length leaves) layer wide top) one.one ∙ ap (λ n. subtree_hash sha256 k (drop n leaves)) one.start_is ∙ sym same
                    | inr most ↦
                        let at : k ≡ from = omega (arith, least, most) in
                        let begins : older - 2 ^ from ≡ start = sym (last_start older from last) ∙ ap (start_at older) (sym at) ∙ one.start_is in
                        ap (λ n. get_or nodes n []) at ∙ has.first ∙ ap (λ n. subtree_hash sha256 n (drop (older - 2 ^ from) leaves)) (sym at) ∙ ap (λ n. subtree_hash sha256 k (drop n leaves)) begins ∙ sym same
                  ]
                ];
          },
        )

pub ordered : (leaves : List (List ℕ)) (older newer : ℕ) → length leaves ≡ newer → 1 ≤ older → older ≤ newer → newer ≤ MAX_COUNT → AreOrdered leaves older
ordered leaves older newer counted some order small = record { some = some; order = omega (arith, counted, order); small = omega (arith, counted, small) }

pub none_yet : (nodes : List (List ℕ)) → nodes ≡ replicate LAYERS no_hash → (k : ℕ) → k < LAYERS → get_or nodes k [] ≡ no_hash
none_yet nodes is k low = ap (λ l. get_or l k []) is ∙ get_or-replicate LAYERS k no_hash [] low

-- the first of the hashes, and the others
pub first_in : {A : Type 0} {x y : A} {xs ys : List A} → x ∷ xs ≡ y ∷ ys → x ≡ y
first_in {A = A} {x = x} same = ap (λ (l : List A). get_or l 0 x) same

pub rest_in : {A : Type 0} {x y : A} {xs ys : List A} → x ∷ xs ≡ y ∷ ys → xs ≡ ys
rest_in {A = A} same = ap (λ (l : List A). drop 1 l) same

-- where the sibling on the right starts, as it is computed
pub sibling_place : (older layer : ℕ) → layer < 24 → 1 ≤ older → older ≤ 2 ^ 24
    → ((older - 1) / 2 ^ layer + 1) * 2 ^ layer % 18446744073709551616 ≡ start_of (older - 1) layer + 2 ^ layer
sibling_place older layer low some small =
    let q = (older - 1) / 2 ^ layer in
    let w = 2 ^ layer in
    let sum : (q + 1) * w ≡ q * w + w = omega arith in
    let narrow : w ≤ 2 ^ 24 = pow_mono (let e : layer ≤ 24 = omega (arith, low) in e) in
    mod-eq_of_lt (omega (arith, sum, start_of-le (older - 1) layer, narrow, small)) ∙ sum
