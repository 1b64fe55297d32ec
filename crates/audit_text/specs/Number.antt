-- Numbers in decimal digits.
use Rattle.std.specs.Prelude.{ℕ, ◌^◌, nat_le, nat_lt, ◌&&◌, Bool, Option, Some, None, List, length, if◌then◌else◌}
use Rattle.std.specs.List.{list_all}
use Rattle.std.specs.Char.{is_ascii_digit}
use Rattle.std.specs.Str.Parse.{digits_value}

-- a number is 1 to 20 decimal digits, and is below 2^64
abbrev pub spells_number : List ℕ → Bool
spells_number text =
    nat_le 1 (length text) && nat_le (length text) 20 && list_all is_ascii_digit text && nat_lt (digits_value 10 text)
    (2 ^ 64)

abbrev pub number_in_text : List ℕ → Option ℕ
number_in_text text = if spells_number text then Some (digits_value 10 text) else None
