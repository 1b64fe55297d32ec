-- Lists of bytes, and the numbers in them.
use Rattle.std.specs.Prelude.{ℕ, ◌<◌, List, take, drop, replicate, slice_index}
use Rattle.std.specs.Int.{Width, byte_len, from_be_bytes}

-- each element is a byte
abbrev pub AreBytes : List ℕ → Type 0
AreBytes bytes = (place : ℕ) → slice_index bytes place < 256

-- n zero bytes
unfoldable pub zeros : ℕ → List ℕ
zeros n = replicate n 0

-- the big-endian number of this width that begins at a place
abbrev pub number_at : Width → ℕ → List ℕ → ℕ
number_at width place bytes = from_be_bytes width (take (byte_len width) (drop place bytes))
