-- The lines of an input. Each ends in a line feed, which may be missing at the end.
use Rattle.std.specs.Prelude.{◌≡◌, ℕ, Bool, List, [], ◌∷◌, ◌==◌, if◌then◌else◌}
use Rattle.std.specs.List.{before_first, after_first}

-- the byte that ends a line
abbrev pub line_feed : ℕ
line_feed = 10

-- a byte added to the start of the first line
abbrev pub onto_first : ℕ → List (List ℕ) → List (List ℕ)
onto_first byte [] = (byte ∷ []) ∷ []
onto_first byte (line ∷ lines) = (byte ∷ line) ∷ lines

unfoldable pub lines_of : List ℕ → List (List ℕ)
lines_of [] = []
lines_of (byte ∷ bytes) = if byte == line_feed then [] ∷ lines_of bytes else onto_first byte (lines_of bytes)

abbrev pub is_line_feed : ℕ → Bool
is_line_feed byte = byte == line_feed

-- the bytes before the first line feed, and those after it
pub record IsCutInLines (bytes line rest : List ℕ) : Type 0 where
  pub first : line ≡ before_first is_line_feed bytes
  pub after : rest ≡ after_first is_line_feed bytes
