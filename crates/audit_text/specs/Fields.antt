-- Fields of a text: lines of a word, a space and a value.
use Rattle.std.specs.Prelude.{◌≡◌, ◌==◌, ℕ, Bool, false, List, [], ◌∷◌, ◌++◌}
use Rattle.std.specs.List.{AllByRecursion}

abbrev pub field_line : List ℕ → List ℕ → List ℕ
field_line word value = word ++ (32 ∷ (value ++ (10 ∷ [])))

-- a step of a reader: if a line with this word and value starts the text, this is its value, and this follows
abbrev pub Splits : List ℕ → List ℕ → List ℕ → Type 0
Splits text value after = (word given rest : List ℕ) → AllByRecursion (λ byte. (byte == 32) ≡ false) word
    → AllByRecursion (λ byte. (byte == 10) ≡ false) word → AllByRecursion (λ byte. (byte == 10) ≡ false) given
    → text ≡ field_line word given ++ rest → (value ≡ given) × (after ≡ rest)
