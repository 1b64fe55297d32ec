-- What stands for a line that is longer than a payload may be.
use Rattle.std.specs.Prelude.{ℕ, ◌-◌, List, ◌++◌, length, take, codes}
use Rattle.std.specs.Fmt.{decimal}
use Rattle.hex.specs.Hex.{encode_lower}
use Rattle.audit_base.specs.declared.limits.TheConstants.{MAX_PAYLOAD}

-- the length of the line in bytes, and its SHA-256
unfoldable pub cut_note : ℕ → List ℕ → List ℕ
cut_note size hash =
    codes " [of " ++ decimal size ++ codes " bytes, SHA-256 " ++ encode_lower hash ++ codes "]"

-- as much of the start of the line as leaves room for the note, and the note
abbrev pub cut_line : List ℕ → ℕ → List ℕ → List ℕ
cut_line start size hash = take (MAX_PAYLOAD - length (cut_note size hash)) start ++ cut_note size hash
