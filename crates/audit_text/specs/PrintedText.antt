-- Payloads printed as lines of text, and read back.
use Rattle.std.specs.Prelude.{ℕ, ◌+◌, ◌*◌, ◌==◌, nat_le, ◌&&◌, ◌||◌, not, Bool, List, [], ◌∷◌, ◌++◌}
use Rattle.std.specs.Prelude.{map, unwrap_or, if◌then◌else◌}
use Rattle.std.specs.List.{flat_map}
use Rattle.hex.specs.Hex.{encode_lower, hex_digit_value}
use Rattle.audit_text.specs.Lines.{lines_of, line_feed}

-- a tab, or a byte that is neither a control character nor a backslash
abbrev pub is_plain : ℕ → Bool
is_plain byte = (byte == 9) || (nat_le 32 byte && not (byte == 127) && not (byte == 92))

-- a byte as it is, or as a backslash, `x` and two hex digits
abbrev pub escaped_byte : ℕ → List ℕ
escaped_byte byte = if is_plain byte then byte ∷ [] else 92 ∷ 120 ∷ encode_lower (byte ∷ [])

-- the line of a payload
abbrev pub text_line : List ℕ → List ℕ
text_line payload = flat_map escaped_byte payload ++ (line_feed ∷ [])

-- the byte of two hex digits
abbrev pub byte_of_digits : ℕ → ℕ → ℕ
byte_of_digits high low = unwrap_or (hex_digit_value high) 0 * 16 + unwrap_or (hex_digit_value low) 0

-- the bytes that a line stands for
unfoldable pub unescaped : List ℕ → List ℕ
unescaped [] = []
unescaped (byte ∷ []) = byte ∷ []
unescaped (byte ∷ one ∷ []) = byte ∷ one ∷ []
unescaped (byte ∷ one ∷ two ∷ []) = byte ∷ one ∷ two ∷ []
unescaped (byte ∷ one ∷ high ∷ low ∷ rest) =
    if byte == 92 then byte_of_digits high low ∷ unescaped rest else byte ∷ unescaped (one ∷ high ∷ low ∷ rest)

-- the payloads whose lines were printed
abbrev pub read_back : List ℕ → List (List ℕ)
read_back printed = map unescaped (lines_of printed)
