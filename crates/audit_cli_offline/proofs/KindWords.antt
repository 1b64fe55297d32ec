-- Kinds that are read from the parts of a word one after another.
use Rattle.std.proofs.Common.{◌≡◌, ◌∙◌, ℕ, zero, suc, ◌<◌, Option, Some, None, List, [], ◌∷◌, length, map, drop, get_or, refl, sym, ap, arith}
use denote.Ref.{Bor}
use Rattle.std.specs.List.{slice_split}
use Rattle.std.proofs.lemmas.Option.{none-some}
use Rattle.audit_cli_offline.specs.KindsWord.{is_comma, any_kind_in_word}

abbrev first_of : List (Option ℕ) → Option ℕ
first_of [] = None
first_of (first ∷ rest) = first

-- a part has no kind, so no kinds are those of all parts
pub no_kinds : {X : Type 0} (f : X → Option ℕ) (items : List X) (i : ℕ) (d : X) (kinds : List ℕ) → i < length items → f (get_or items i d) ≡ None
    → map f items ≡ map (λ (k : ℕ). Some k) kinds → ⊥
no_kinds f [] i d kinds lt none same = omega (arith, lt)
no_kinds f (x ∷ items) i d [] lt none same = omega (arith, ap length same)
no_kinds f (x ∷ items) zero d (kind ∷ kinds) lt none same = none-some kind (sym none ∙ ap first_of same)
no_kinds f (x ∷ items) (suc i) d (kind ∷ kinds) lt none same = no_kinds f items i d kinds (omega (arith, lt)) none (ap (drop 1) same)

-- the parts, as they are lent, are those of the word
pub map_then : {X : Type 0} (f : List ℕ → Option ℕ) (text : X → List ℕ) (items : List X) → map (λ (x : X). f (text x)) items ≡ map f (map text items)
map_then f text [] = refl
map_then f text (x ∷ items) = ap (λ (rest : List (Option ℕ)). f (text x) ∷ rest) (map_then f text items)

pub parts_in_word : (items parts : List (Bor (List ℕ))) (word : List ℕ) → items ≡ parts → map (λ (part : Bor (List ℕ)). part.now) parts ≡ slice_split is_comma word
    → map (λ (part : Bor (List ℕ)). any_kind_in_word part.now) items ≡ map any_kind_in_word (slice_split is_comma word)
parts_in_word items parts word are cut =
    ap (map (λ (part : Bor (List ℕ)). any_kind_in_word part.now)) are ∙ map_then any_kind_in_word (λ (part : Bor (List ℕ)). part.now) parts ∙ ap (map any_kind_in_word) cut
