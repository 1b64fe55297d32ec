-- The line that acknowledges events.
use Rattle.std.specs.Prelude.{ℕ, List, ◌++◌, codes}
use Rattle.std.specs.Fmt.{decimal}
use Rattle.hex.specs.Hex.{encode_lower}

-- the index of the first event, the count of all events with these, and their root
unfoldable pub ack_line : ℕ → ℕ → List ℕ → List ℕ
ack_line first count root =
    codes "ack " ++ decimal first ++ codes " " ++ decimal count ++ codes " " ++ encode_lower root ++ codes "\n"
