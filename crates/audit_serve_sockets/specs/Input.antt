-- The lines of an input, and the bytes that they spell.
use Rattle.std.specs.Prelude.{◌≡◌, ◌⊎◌, ℕ, ◌<◌, Option, Some, None, List, [], ◌∷◌, ◌++◌, length, map}
use Rattle.audit_text.specs.Lines.{lines_of}
use Rattle.audit_serve_sockets.specs.declared.limits.TheConstants.{MAX_DIGITS}
use Rattle.audit_serve_sockets.specs.FrameLine.{bytes_of_line}

-- what each line of an input spells, in order
abbrev pub spelled : List ℕ → List (Option (List ℕ))
spelled input = map bytes_of_line (lines_of input)

-- every line of an input spells bytes, which are these
abbrev pub SpellsInput : List (List ℕ) → List ℕ → Type 0
SpellsInput lines input = spelled input ≡ map (λ bytes. Some bytes) lines

-- the first lines of an input spell these bytes
abbrev pub SpellsFirst : List (List ℕ) → List ℕ → Type 0
SpellsFirst lines input = (later : List (Option (List ℕ))) × (spelled input ≡ map (λ bytes. Some bytes) lines ++ later)

-- the first lines of an input spell these bytes, and the next line spells none
abbrev pub SpellsUpToBad : List (List ℕ) → List ℕ → Type 0
SpellsUpToBad lines input = (later : List (Option (List ℕ)))
    × (spelled input ≡ map (λ bytes. Some bytes) lines ++ None ∷ later)

-- a prefix of a first line, which is already longer than a line may be
pub record IsFrontOfLong (input front : List ℕ) : Type 0 where
  pub rest : List ℕ
  pub later : List (List ℕ)
  pub first : lines_of input ≡ (front ++ rest) ∷ later
  pub long : MAX_DIGITS < length front

-- From a reader whose bytes are known, the first line was read and the later lines remain. If the line is too long,
-- only a prefix of it was read.
abbrev pub ReadsLine : Option (List ℕ) → Option (List ℕ) → List ℕ → Type 0
ReadsLine None new line = Unit {0}
ReadsLine (Some input) None line = ⊥
ReadsLine (Some input) (Some rest) line = (lines_of input ≡ line ∷ lines_of rest) ⊎ IsFrontOfLong input line

-- the next byte was taken, or none is left
abbrev pub TakesByte : Option (List ℕ) → Option (List ℕ) → Option ℕ → Type 0
TakesByte None new byte = Unit {0}
TakesByte (Some input) None byte = ⊥
TakesByte (Some input) (Some rest) None = (input ≡ []) × (rest ≡ [])
TakesByte (Some input) (Some rest) (Some byte) = input ≡ byte ∷ rest
