-- The permissions of a file, as POSIX's chmod writes them.
use Rattle.std.specs.Prelude.{◌≡◌, ℕ, ◌+◌, ◌-◌, ◌*◌, ◌<◌, ◌≤◌, ◌&&◌, ◌==◌, List, length, drop, slice_index_or}
use Rattle.std.specs.Prelude.{if◌then◌else◌}

-- the character at this place is an octal digit
pub record IsOctalAt (text : List ℕ) (at : ℕ) : Type 0 where
  pub least : 48 ≤ slice_index_or text at 0
  pub most : slice_index_or text at 0 < 56

-- its value
abbrev pub octal_at : List ℕ → ℕ → ℕ
octal_at text at = slice_index_or text at 0 - 48

-- the digits of a word, without a zero before three others
abbrev pub mode_digits : List ℕ → List ℕ
mode_digits word = if (length word == 4) && (slice_index_or word 0 0 == 48) then drop 1 word else word

-- three octal digits, the first of which is 6: the owner reads and writes
pub record IsThreeDigits (text : List ℕ) (mode : ℕ) : Type 0 where
  pub digits : length text ≡ 3
  pub owner : slice_index_or text 0 0 ≡ 54
  pub group : IsOctalAt text 1
  pub others : IsOctalAt text 2
  pub is : mode ≡ 64 * 6 + 8 * octal_at text 1 + octal_at text 2

-- a word for permissions: such digits, with or without a zero before them
abbrev pub IsMode : List ℕ → ℕ → Type 0
IsMode word mode = IsThreeDigits (mode_digits word) mode
