-- Texts from outside, as they are printed for people.
use Rattle.std.specs.Prelude.{◌≡◌, ◌⊎◌, ℕ, ◌/◌, ◌%◌, ◌==◌, nat_le, nat_lt, ◌&&◌, ◌||◌, not, Bool, true, List, [], ◌∷◌}
use Rattle.std.specs.Prelude.{slice_index, if◌then◌else◌}
use Rattle.hex.specs.Hex.{lower_digits}

-- from one number up to another
abbrev pub is_within : ℕ → ℕ → ℕ → Bool
is_within low high code = nat_le low code && nat_le code high

-- a mark that can't be seen, or turns the direction of a line or ends it
abbrev pub is_unseen_mark : ℕ → Bool
is_unseen_mark code =
    (code == 173) || (code == 1564) || (code == 6158) || is_within 8203 8207 code || is_within 8232 8238 code
    || is_within 8288 8303 code || (code == 65279) || is_within 65529 65531 code || is_within 917504 921599 code

-- no control character, no such mark, and no backslash
abbrev pub is_seen : ℕ → Bool
is_seen code = nat_le 32 code && not (is_within 127 159 code) && not (code == 92) && not (is_unseen_mark code)

-- a hex digit of a number, at the place of a power of 16
abbrev pub digit_at : ℕ → ℕ → ℕ
digit_at power code = slice_index lower_digits (code / power % 16)

-- a backslash, `x` and two hex digits; or `u` and four; or `u` and five in braces
abbrev pub letter_escape : ℕ → List ℕ
letter_escape code =
    if nat_lt code 128 then 92 ∷ 120 ∷ digit_at 16 code ∷ digit_at 1 code ∷ []
    else if nat_lt code 65536
    then 92 ∷ 117 ∷ digit_at 4096 code ∷ digit_at 256 code ∷ digit_at 16 code ∷ digit_at 1 code ∷ []
    else 92 ∷ 117 ∷ 123 ∷ digit_at 65536 code ∷ digit_at 4096 code ∷ digit_at 256 code ∷ digit_at 16 code
    ∷ digit_at 1 code ∷ 125 ∷ []

-- a letter, given by its number, as it is printed
abbrev pub shown_letter : ℕ → List ℕ
shown_letter code = if is_seen code then code ∷ [] else letter_escape code

-- a letter that is no control character and no mark that can't be seen
abbrev pub IsSeen : ℕ → Type 0
IsSeen code = (is_seen code ≡ true) ⊎ (code ≡ 92)

-- the same, and no backslash
abbrev pub IsPlainLetter : ℕ → Type 0
IsPlainLetter code = is_seen code ≡ true
