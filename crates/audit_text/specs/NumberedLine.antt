-- A line with a number and bytes.
use Rattle.std.specs.Prelude.{ℕ, List, ◌++◌, codes}
use Rattle.std.specs.Fmt.{decimal}
use Rattle.hex.specs.Hex.{encode_lower}

-- a line with a word, a number in decimal and bytes in lower-case hex
unfoldable pub numbered_line : List ℕ → ℕ → List ℕ → List ℕ
numbered_line word number bytes = word ++ decimal number ++ codes " " ++ encode_lower bytes ++ codes "\n"
