-- The rights of the sockets of a door.
use Rattle.std.proofs.Common.{◌≡◌, ◌∙◌, ℕ, ◌<◌, List, length, map, set, get_or, sym, ap}
use Rattle.std.proofs.lemmas.List.{map-set, get_or-map, set-get_or}

-- one of several values is exchanged for one that looks the same
pub looks_the_same : {A B : Type 0} (look : A → B) (values : List A) (k : ℕ) (none other : A) → k < length values → look other ≡ look (get_or values k none) → map look (set values k other) ≡ map look values
looks_the_same look values k none other within same =
    map-set look values k other
    ∙ ap (set (map look values) k) (same ∙ sym (get_or-map look values k none (look none) within))
    ∙ set-get_or (map look values) k (look none)
