-- The lines that spell frames.
use Rattle.std.specs.Prelude.{◌≡◌, ℕ, ◌<◌, ◌^◌, Option, List, [], ◌∷◌, ◌++◌, length, codes}
use Rattle.std.specs.List.{flat_map}
use Rattle.std.specs.Io.KnownBytes.{Appends}
use Rattle.hex.specs.Hex.{encode_lower}
use Rattle.audit_wire.specs.Frame.{frame}

-- two bytes can hold the length of each body
abbrev pub AreBodies : List (List ℕ) → Type 0
AreBodies [] = Unit {0}
AreBodies (body ∷ bodies) = (length body < 2 ^ 16) × AreBodies bodies

-- the frame of a body in lowercase hex digits, and a line feed
abbrev pub frame_line : List ℕ → List ℕ
frame_line body = encode_lower (frame body) ++ codes "\n"

-- The bytes are frames, and a line was written for each of them.
pub record HasLines (old new : Option (List ℕ)) (bytes : List ℕ) : Type 0 where
  pub bodies : List (List ℕ)
  pub are : AreBodies bodies
  pub all : bytes ≡ flat_map frame bodies
  pub written : Appends old new (flat_map frame_line bodies)

-- the bytes are frames, followed by some bytes that don't begin with a whole frame
pub record AreUnfinished (bytes : List ℕ) : Type 0 where
  pub bodies : List (List ℕ)
  pub are : AreBodies bodies
  pub rest : List ℕ
  pub split : bytes ≡ flat_map frame bodies ++ rest
  pub some : 0 < length rest
  pub none : (body later : List ℕ) → length body < 2 ^ 16 → rest ≡ frame body ++ later → ⊥
