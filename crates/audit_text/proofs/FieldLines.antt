-- Fields of a text, read one after another.
use Rattle.std.specs.Prelude.{nat_le, nat_lt}
use Rattle.std.specs.Fmt.{decimal}
use Rattle.std.specs.Char.{is_ascii_digit}
use Rattle.std.specs.List.{AllByRecursion, list_all, before_first, after_first, position_or_len}
use Rattle.std.specs.Result.{result_ok}
use Rattle.std.specs.Str.Parse.{AllDigits, digits_value}
use Rattle.std.proofs.Common.{◌≡◌, ◌∙◌, ℕ, suc, ◌+◌, ◌-◌, ◌/◌, ◌%◌, ◌<◌, ◌^◌, ◌==◌, Bool, true, false, cond, not, ◌&&◌, Option, Some, None, List, [], ◌∷◌, ◌++◌, length, take, drop, refl, sym, ap, arith, append_assoc, lit<}
use Rattle.std.proofs.lemmas.Bool.{ne_eqb, cond-true, le-leb, lt-ltb}
use Rattle.std.proofs.lemmas.Option.{none-some}
use Rattle.std.proofs.lemmas.Fmt.{decimal_is_IsNumeral, length-decimal-le}
use Rattle.std.proofs.lemmas.Str.Parse.{digit_from_value}
use Rattle.std.proofs.Math.Seq.{take-append_seam, drop-append-add}
use Rattle.hex.specs.Hex.{encode_lower, encode_with, hex_digit_value, decode_sized}
use Rattle.hex.proofs.HexLemmas.{IsDigits-lower_digits, decode_sized-encode_lower}
use Rattle.audit_base.specs.Bytes.{AreBytes}
use Rattle.audit_base.specs.declared.limits.TheConstants.{HASH_LEN}
use Rattle.audit_text.specs.Number.{spells_number, number_in_text}
use Rattle.audit_text.specs.Fields.{field_line}

abbrev pub NoFeed : List ℕ → Type 0
NoFeed bytes = AllByRecursion (λ byte. (byte == 10) ≡ false) bytes

abbrev pub NoSpace : List ℕ → Type 0
NoSpace bytes = AllByRecursion (λ byte. (byte == 32) ≡ false) bytes

-- the first line feed, and the first space
feed_at : (front rest : List ℕ) → NoFeed front → position_or_len (λ byte. byte == 10) (front ++ 10 ∷ rest) ≡ length front
feed_at [] rest all = refl
feed_at (byte ∷ front) rest all =
    ap (λ (b : Bool). cond (not b) (1 + position_or_len (λ byte. byte == 10) (front ++ 10 ∷ rest)) 0) all.0 ∙ ap (λ n. 1 + n) (feed_at front rest all.1) ∙ omega arith

space_at : (front rest : List ℕ) → NoSpace front → position_or_len (λ byte. byte == 32) (front ++ 32 ∷ rest) ≡ length front
space_at [] rest all = refl
space_at (byte ∷ front) rest all =
    ap (λ (b : Bool). cond (not b) (1 + position_or_len (λ byte. byte == 32) (front ++ 32 ∷ rest)) 0) all.0 ∙ ap (λ n. 1 + n) (space_at front rest all.1) ∙ omega arith

pub before_feed : (front rest : List ℕ) → NoFeed front → before_first (λ byte. byte == 10) (front ++ 10 ∷ rest) ≡ front
before_feed front rest all = ap (λ (n : ℕ). take n (front ++ 10 ∷ rest)) (feed_at front rest all) ∙ take-append_seam front (10 ∷ rest)

pub after_feed : (front rest : List ℕ) → NoFeed front → after_first (λ byte. byte == 10) (front ++ 10 ∷ rest) ≡ rest
after_feed front rest all = ap (λ (n : ℕ). drop (n + 1) (front ++ 10 ∷ rest)) (feed_at front rest all) ∙ drop-append-add front (10 ∷ rest) 1

pub after_space : (front rest : List ℕ) → NoSpace front → after_first (λ byte. byte == 32) (front ++ 32 ∷ rest) ≡ rest
after_space front rest all = ap (λ (n : ℕ). drop (n + 1) (front ++ 32 ∷ rest)) (space_at front rest all) ∙ drop-append-add front (32 ∷ rest) 1

feedless : (xs ys : List ℕ) → NoFeed xs → NoFeed ys → NoFeed (xs ++ ys)
feedless [] ys first second = second
feedless (x ∷ xs) ys first second = (first.0, feedless xs ys first.1 second)

-- a field at the start of a text
pub record IsField (value rest line after : List ℕ) : Type 0 where
  pub value_is : after_first (λ byte. byte == 32) line ≡ value
  pub rest_is : after ≡ rest

pub field_read : (text word value rest line after : List ℕ) → NoSpace word → NoFeed word → NoFeed value → text ≡ field_line word value ++ rest
    → line ≡ before_first (λ byte. byte == 10) text → after ≡ after_first (λ byte. byte == 10) text → IsField value rest line after
field_read text word value rest line after plain whole also is line_is after_is =
    let front : List ℕ = word ++ (32 ∷ value) in
    let grouped : text ≡ front ++ 10 ∷ rest = is ∙ (simp append_assoc) in
    let clean : NoFeed front = feedless word (32 ∷ value) whole (refl, also) in
    record {
      value_is = ap (after_first (λ byte. byte == 32)) (line_is ∙ ap (before_first (λ byte. byte == 10)) grouped ∙ before_feed front rest clean) ∙ after_space word value plain;
      rest_is = after_is ∙ ap (after_first (λ byte. byte == 10)) grouped ∙ after_feed front rest clean;
    }

-- digits and hex digits have no line feed
pub digits_feedless : (digits : List ℕ) → AllDigits 10 digits → NoFeed digits
digits_feedless [] all = tt
digits_feedless (digit ∷ digits) all = (ne_eqb digit 10 (λ h. omega (arith, h, digit_from_value digit all.0)), digits_feedless digits all.1)

hex_feedless : (digit value : ℕ) → hex_digit_value digit ≡ Some value → (digit == 10) ≡ false
hex_feedless digit value is = ne_eqb digit 10 (λ h. none-some value (ap hex_digit_value (sym h) ∙ is))

pub hash_feedless : (bytes : List ℕ) → AreBytes bytes → NoFeed (encode_lower bytes)
unfolding encode_with
hash_feedless [] all = tt
hash_feedless (byte ∷ bytes) all =
    let small : byte < 256 = all 0 in (
      hex_feedless _ (byte / 16) (IsDigits-lower_digits (byte / 16) (omega (arith, small))),
      (hex_feedless _ (byte % 16) (IsDigits-lower_digits (byte % 16) (omega arith)), hash_feedless bytes (λ k. all (suc k))),
    )

digits_ascii : (digits : List ℕ) → AllDigits 10 digits → list_all is_ascii_digit digits ≡ true
digits_ascii [] all = refl
digits_ascii (digit ∷ digits) all =
    let within = digit_from_value digit all.0 in
    ap (λ (low : Bool). (low && nat_le digit 57) && list_all is_ascii_digit digits) (le-leb 48 digit (omega (arith, within)))
    ∙ ap (λ (high : Bool). high && list_all is_ascii_digit digits) (le-leb digit 57 (omega (arith, within)))
    ∙ digits_ascii digits all.1

below : (n : ℕ) → n < 2 ^ 64 → n < 10 ^ 20
below n small = omega arith

pub number_read : (n : ℕ) → n < 2 ^ 64 → number_in_text (decimal n) ≡ Some n
number_read n small =
    let numeral = decimal_is_IsNumeral n small in
    let value : digits_value 10 (decimal n) ≡ n = numeral.1 in
    let spells : spells_number (decimal n) ≡ true =
    ap (λ (b : Bool). b && nat_le (length (decimal n)) 20 && list_all is_ascii_digit (decimal n) && nat_lt (digits_value 10 (decimal n)) (2 ^ 64)) (le-leb 1 (length (decimal n)) (omega (arith, numeral.0.0)))
    ∙ ap (λ (b : Bool). b && list_all is_ascii_digit (decimal n) && nat_lt (digits_value 10 (decimal n)) (2 ^ 64)) (le-leb (length (decimal n)) 20 (length-decimal-le 20 n (lit< tt) (below n small) small))
    ∙ ap (λ (b : Bool). b && nat_lt (digits_value 10 (decimal n)) (2 ^ 64)) (digits_ascii (decimal n) numeral.0.1)
    ∙ ap (λ (m : ℕ). nat_lt m (2 ^ 64)) value ∙ lt-ltb n (2 ^ 64) small in
    cond-true (spells_number (decimal n)) (Some (digits_value 10 (decimal n))) _ spells ∙ ap (λ (m : ℕ). Some m) value

pub hex_read : (bytes : List ℕ) → length bytes ≡ HASH_LEN → AreBytes bytes → result_ok (decode_sized (encode_lower bytes) HASH_LEN) ≡ Some bytes
hex_read bytes long are = ap result_ok (decode_sized-encode_lower bytes HASH_LEN long are)

-- the parts of a line
abbrev pub parts_of_line : List ℕ → List ℕ → List ℕ → List ℕ
parts_of_line word value rest = word ++ ((32 ∷ []) ++ (value ++ ((10 ∷ []) ++ rest)))

pub line_split : (word value rest : List ℕ) → field_line word value ++ rest ≡ parts_of_line word value rest
line_split word value rest = simp append_assoc

-- the value in an option that has one
abbrev value_or : Option (List ℕ) → List ℕ
value_or None = []
value_or (Some value) = value

pub same_some : (x y : List ℕ) → Some x ≡ Some y → x ≡ y
same_some x y same = ap value_or same

abbrev number_or : Option ℕ → ℕ
number_or None = 0
number_or (Some value) = value

pub same_number : (x y : ℕ) → Some x ≡ Some y → x ≡ y
same_number x y same = ap number_or same
