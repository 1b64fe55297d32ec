-- What reading an input in pieces takes from a reader whose bytes are known.
use Rattle.std.specs.Prelude.{◌≡◌, ℕ, ◌<◌, ◌≤◌, Option, List, length, take, IfSome}
use Rattle.std.specs.Io.KnownBytes.{Consumes, IsAtEnd}
use Rattle.audit_text.specs.declared.fault.LinesError.{LinesError}
use Rattle.audit_text.specs.declared.fault.LinesError.TheVariants.{InputTooLong, Line, Read, Write, Memory}
use Rattle.audit_text.specs.declared.input.TheConstants.{INPUT_LIMIT}

-- the piece has `taken` bytes from the start of the input; none only at its end, or if the piece is empty
pub record TakesPiece (old new : Option (List ℕ)) (taken : ℕ) (piece : List ℕ) : Type 0 where
  pub within : taken ≤ length piece
  pub bytes : Consumes old new (take taken piece)
  pub none : taken ≡ 0 → 0 < length piece → IsAtEnd new

-- at most `most` bytes were taken from the start of the input
pub record TakesAtMost (old new : Option (List ℕ)) (most : ℕ) : Type 0 where
  pub taken : List ℕ
  pub within : length taken ≤ most
  pub bytes : Consumes old new taken

-- the input is too long, the reader failed, or memory ran out
abbrev pub IsReadingFault : LinesError → Option (List ℕ) → Type 0
IsReadingFault InputTooLong known = IfSome known (λ bytes. INPUT_LIMIT < length bytes)
IsReadingFault (Line line cause) known = ⊥
IsReadingFault Read known = Unit {0}
IsReadingFault Write known = ⊥
IsReadingFault Memory known = Unit {0}
