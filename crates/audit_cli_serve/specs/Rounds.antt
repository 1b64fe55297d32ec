-- Rounds of serving, each by a new core over the same store.
use Rattle.std.specs.Prelude.{◌≡◌, ℕ, ◌+◌, List, [], ◌∷◌, ◌++◌, length}
use Rattle.audit_serve_sockets.specs.RoundLine.{round_line}

-- the lines that report rounds, given how many passes each had; the first round has the number `round`
abbrev pub round_lines : ℕ → List ℕ → List ℕ
round_lines round [] = []
round_lines round (turns ∷ later) = round_line round turns ++ round_lines (round + 1) later

-- the lines of these rounds, except that the last one is cut off
pub record AreCutOff (turns text : List ℕ) : Type 0 where
  pub earlier : List ℕ
  pub last : ℕ
  pub turns_are : turns ≡ earlier ++ last ∷ []
  pub front : List ℕ
  pub rest : List ℕ
  pub line : round_line (length earlier + 1) last ≡ front ++ rest
  pub text_is : text ≡ round_lines 1 earlier ++ front
