-- The line that reports a round of serving.
use Rattle.std.specs.Prelude.{ℕ, List, ◌++◌, codes}
use Rattle.std.specs.Fmt.{decimal}

-- the number of the round, and how many passes it had
unfoldable pub round_line : ℕ → ℕ → List ℕ
round_line round turns = codes "round " ++ decimal round ++ codes " turns " ++ decimal turns ++ codes "\n"
