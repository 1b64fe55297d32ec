-- The effect of a failed write on a writer whose bytes are known.
use Rattle.std.specs.Prelude.{◌≡◌, ℕ, Option, List, ◌++◌}
use Rattle.std.specs.Io.KnownBytes.{Appends}

-- a prefix of the text was written
pub record WritesInPart (old new : Option (List ℕ)) (text : List ℕ) : Type 0 where
  pub written : List ℕ
  pub rest : List ℕ
  pub split : text ≡ written ++ rest
  pub appended : Appends old new written
