-- Spans that are read from the parts of a word one after another.
use Rattle.std.proofs.Common.{◌≡◌, ◌∙◌, ℕ, zero, suc, ◌<◌, Option, Some, None, List, [], ◌∷◌, length, map, drop, get_or, refl, sym, ap, arith}
use denote.Ref.{Bor}
use Rattle.std.specs.List.{slice_split}
use Rattle.std.proofs.lemmas.Option.{none-some}
use Rattle.audit_disclosure.specs.declared.choice.Span.{Span}
use Rattle.audit_disclosure.specs.Choosing.{is_comma_byte, span_in_word}

abbrev first_of : List (Option Span) → Option Span
first_of [] = None
first_of (first ∷ rest) = first

-- a part has no span, so no spans are those of all parts
pub no_spans : {X : Type 0} (f : X → Option Span) (items : List X) (i : ℕ) (d : X) (spans : List Span) → i < length items → f (get_or items i d) ≡ None
    → map f items ≡ map (λ (k : Span). Some k) spans → ⊥
no_spans f [] i d spans lt none same = omega (arith, lt)
no_spans f (x ∷ items) i d [] lt none same = omega (arith, ap length same)
no_spans f (x ∷ items) zero d (span ∷ spans) lt none same = none-some span (sym none ∙ ap first_of same)
no_spans f (x ∷ items) (suc i) d (span ∷ spans) lt none same = no_spans f items i d spans (omega (arith, lt)) none (ap (drop 1) same)

-- the parts, as they are lent, are those of the word
pub map_then : {X : Type 0} (f : List ℕ → Option Span) (text : X → List ℕ) (items : List X) → map (λ (x : X). f (text x)) items ≡ map f (map text items)
map_then f text [] = refl
map_then f text (x ∷ items) = ap (λ (rest : List (Option Span)). f (text x) ∷ rest) (map_then f text items)

pub parts_in_word : (items parts : List (Bor (List ℕ))) (word : List ℕ) → items ≡ parts → map (λ (part : Bor (List ℕ)). part.now) parts ≡ slice_split is_comma_byte word
    → map (λ (part : Bor (List ℕ)). span_in_word part.now) items ≡ map span_in_word (slice_split is_comma_byte word)
parts_in_word items parts word are cut =
    ap (map (λ (part : Bor (List ℕ)). span_in_word part.now)) are ∙ map_then span_in_word (λ (part : Bor (List ℕ)). part.now) parts ∙ ap (map span_in_word) cut
