-- The line that is printed for the place of a kind.
use Rattle.std.specs.Prelude.{ℕ, List, ◌++◌, codes}
use Rattle.std.specs.Fmt.{decimal}

-- how many events of the kind the log has, and how many in all
unfoldable pub place_line : ℕ → ℕ → List ℕ
place_line number count = codes "place " ++ decimal number ++ codes " " ++ decimal count ++ codes "\n"
