-- Numbers in decimal, and hex digits, as parts of lines.
use Rattle.std.specs.Prelude.{nat_le, nat_lt}
use Rattle.std.specs.Fmt.{decimal}
use Rattle.std.specs.Char.{is_ascii_digit}
use Rattle.std.specs.List.{AllByRecursion, list_all, before_first, after_first, position_or_len}
use Rattle.std.specs.Str.Parse.{AllDigits, digits_value}
use Rattle.std.proofs.Common.{◌≡◌, ◌∙◌, ℕ, suc, ◌+◌, ◌/◌, ◌%◌, ◌<◌, ◌^◌, ◌==◌, Bool, true, false, cond, not, ◌&&◌, Some, List, [], ◌∷◌, ◌++◌, length, take, drop, refl, sym, ap, arith, lit<}
use Rattle.std.proofs.lemmas.Bool.{ne_eqb, cond-true, le-leb, lt-ltb}
use Rattle.std.proofs.lemmas.Option.{none-some}
use Rattle.std.proofs.lemmas.Fmt.{decimal_is_IsNumeral, length-decimal-le}
use Rattle.std.proofs.lemmas.Str.Parse.{digit_from_value}
use Rattle.std.proofs.Math.Seq.{take-append_seam, drop-append-add}
use Rattle.hex.specs.Hex.{encode_lower, encode_with, hex_digit_value}
use Rattle.hex.proofs.HexLemmas.{IsDigits-lower_digits}
use Rattle.audit_base.specs.Bytes.{AreBytes}
use Rattle.audit_text.specs.Lines.{lines_of, line_feed}
use Rattle.audit_text.specs.Number.{spells_number, number_in_text}
use Rattle.audit_text.specs.NumberedText.{tab, is_tab}
use Rattle.audit_text.proofs.ReadingBack.{other_first}

-- neither a line feed nor a tab
pub IsWithin : ℕ → Type 0
IsWithin byte = ((byte == line_feed) ≡ false) × (is_tab byte ≡ false)

-- no line feed among the bytes
abbrev pub HasNoFeed : List ℕ → Type 0
HasNoFeed bytes = AllByRecursion (λ (byte : ℕ). (byte == line_feed) ≡ false) bytes

pub no_feed_append : (xs ys : List ℕ) → HasNoFeed xs → HasNoFeed ys → HasNoFeed (xs ++ ys)
no_feed_append [] ys first second = second
no_feed_append (x ∷ xs) ys first second = (first.0, no_feed_append xs ys first.1 second)

-- bytes without a line feed are a line
pub line_cut : (line rest : List ℕ) → HasNoFeed line → lines_of (line ++ line_feed ∷ rest) ≡ line ∷ lines_of rest
unfolding lines_of
line_cut [] rest none = refl
line_cut (byte ∷ line) rest none = other_first byte (line ++ line_feed ∷ rest) line (lines_of rest) none.0 (line_cut line rest none.1)

-- ---- digits

digits_within : (digits : List ℕ) → AllDigits 10 digits → AllByRecursion IsWithin digits
unfolding IsWithin
digits_within [] all = tt
digits_within (digit ∷ digits) all =
    let within = digit_from_value digit all.0 in
    ((ne_eqb digit line_feed (λ h. omega (arith, h, within)), ne_eqb digit tab (λ h. omega (arith, h, within))), digits_within digits all.1)

no_feed_of : (bytes : List ℕ) → AllByRecursion IsWithin bytes → HasNoFeed bytes
unfolding IsWithin
no_feed_of [] all = tt
no_feed_of (byte ∷ bytes) all = (all.0.0, no_feed_of bytes all.1)

pub number_within : (n : ℕ) → n < 2 ^ 64 → AllByRecursion IsWithin (decimal n)
number_within n small = digits_within (decimal n) (decimal_is_IsNumeral n small).0.1

pub number_no_feed : (n : ℕ) → n < 2 ^ 64 → HasNoFeed (decimal n)
number_no_feed n small = no_feed_of (decimal n) (number_within n small)

digits_ascii : (digits : List ℕ) → AllDigits 10 digits → list_all is_ascii_digit digits ≡ true
digits_ascii [] all = refl
digits_ascii (digit ∷ digits) all =
    let within = digit_from_value digit all.0 in
    ap (λ (low : Bool). (low && nat_le digit 57) && list_all is_ascii_digit digits) (le-leb 48 digit (omega (arith, within)))
    ∙ ap (λ (high : Bool). high && list_all is_ascii_digit digits) (le-leb digit 57 (omega (arith, within)))
    ∙ digits_ascii digits all.1

below : (n : ℕ) → n < 2 ^ 64 → n < 10 ^ 20
below n small = omega arith

-- a number is read back from its digits
pub number_read : (n : ℕ) → n < 2 ^ 64 → number_in_text (decimal n) ≡ Some n
number_read n small =
    let numeral = decimal_is_IsNumeral n small in
    let value : digits_value 10 (decimal n) ≡ n = numeral.1 in
    let spells : spells_number (decimal n) ≡ true =
    ap (λ (b : Bool). b && nat_le (length (decimal n)) 20 && list_all is_ascii_digit (decimal n) && nat_lt (digits_value 10 (decimal n)) (2 ^ 64)) (le-leb 1 (length (decimal n)) (omega (arith, numeral.0.0)))
    ∙ ap (λ (b : Bool). b && list_all is_ascii_digit (decimal n) && nat_lt (digits_value 10 (decimal n)) (2 ^ 64)) (le-leb (length (decimal n)) 20 (length-decimal-le 20 n (lit< tt) (below n small) small))
    ∙ ap (λ (b : Bool). b && nat_lt (digits_value 10 (decimal n)) (2 ^ 64)) (digits_ascii (decimal n) numeral.0.1)
    ∙ ap (λ (m : ℕ). nat_lt m (2 ^ 64)) value ∙ lt-ltb n (2 ^ 64) small in
    cond-true (spells_number (decimal n)) (Some (digits_value 10 (decimal n))) _ spells ∙ ap (λ (m : ℕ). Some m) value

hex_digit_no_feed : (digit value : ℕ) → hex_digit_value digit ≡ Some value → (digit == line_feed) ≡ false
hex_digit_no_feed digit value is = ne_eqb digit line_feed (λ h. none-some value (ap hex_digit_value (sym h) ∙ is))

pub hex_no_feed : (bytes : List ℕ) → AreBytes bytes → HasNoFeed (encode_lower bytes)
unfolding encode_with
hex_no_feed [] all = tt
hex_no_feed (byte ∷ bytes) all =
    let small : byte < 256 = all 0 in (
      hex_digit_no_feed _ (byte / 16) (IsDigits-lower_digits (byte / 16) (omega (arith, small))),
      (hex_digit_no_feed _ (byte % 16) (IsDigits-lower_digits (byte % 16) (omega arith)), hex_no_feed bytes (λ k. all (suc k))),
    )

-- ---- fields

-- the first tab ends the first field
tab_at : (front rest : List ℕ) → AllByRecursion IsWithin front → position_or_len is_tab (front ++ tab ∷ rest) ≡ length front
unfolding IsWithin
tab_at [] rest all = refl
tab_at (byte ∷ front) rest all =
    ap (λ (b : Bool). cond (not b) (1 + position_or_len is_tab (front ++ tab ∷ rest)) 0) all.0.1 ∙ ap (λ n. 1 + n) (tab_at front rest all.1) ∙ omega arith

pub first_field : (front rest : List ℕ) → AllByRecursion IsWithin front → before_first is_tab (front ++ tab ∷ rest) ≡ front
first_field front rest all = ap (λ (n : ℕ). take n (front ++ tab ∷ rest)) (tab_at front rest all) ∙ take-append_seam front (tab ∷ rest)

pub further_fields : (front rest : List ℕ) → AllByRecursion IsWithin front → after_first is_tab (front ++ tab ∷ rest) ≡ rest
further_fields front rest all = ap (λ (n : ℕ). drop (n + 1) (front ++ tab ∷ rest)) (tab_at front rest all) ∙ drop-append-add front (tab ∷ rest) 1
