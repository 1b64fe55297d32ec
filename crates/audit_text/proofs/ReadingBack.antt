-- Payloads that were printed as lines are read back.
use Rattle.std.proofs.Common.{◌≡◌, ℕ, suc, ◌+◌, ◌*◌, ◌/◌, ◌%◌, ◌<◌, ◌==◌, Bool, true, false, cond, not, ◌&&◌, Some, List, [], ◌∷◌, ◌++◌, map, unwrap_or, slice_index, leb, Option, refl, sym, ap, ◌∙◌, arith, append_assoc, inl, inr}
use Rattle.std.specs.List.{AllByRecursion, flat_map}
use Rattle.std.proofs.lemmas.Bool.{and_parts, or_cases, not-true, leb-true, eqb-true, ne_eqb, cond-false}
use Rattle.std.proofs.lemmas.Option.{none-some}
use Rattle.hex.specs.Hex.{encode_lower, encode_with, lower_digits, hex_digit_value}
use Rattle.hex.proofs.HexLemmas.{IsDigits-lower_digits}
use Rattle.audit_base.specs.Bytes.{AreBytes}
use Rattle.audit_text.specs.Lines.{lines_of, line_feed, onto_first}
use Rattle.audit_text.specs.PrintedText.{is_plain, escaped_byte, text_line, byte_of_digits, unescaped, read_back}

-- ---- bytes that are printed as they are

no_feed : (byte : ℕ) → is_plain byte ≡ true → (byte == line_feed) ≡ false
no_feed byte plain = elim (or_cases (byte == 9) (leb 32 byte && not (byte == 127) && not (byte == 92)) plain) [
  | inl tab ↦ let e : byte ≡ 9 = eqb-true byte 9 tab in ne_eqb byte line_feed (λ h. omega (arith, h, e))
  | inr other ↦
      let low = (and_parts (leb 32 byte) (not (byte == 127)) (and_parts (leb 32 byte && not (byte == 127)) (not (byte == 92)) other).0).0 in
      ne_eqb byte line_feed (λ h. omega (arith, h, leb-true 32 byte low))
]

no_backslash : (byte : ℕ) → is_plain byte ≡ true → (byte == 92) ≡ false
no_backslash byte plain = elim (or_cases (byte == 9) (leb 32 byte && not (byte == 127) && not (byte == 92)) plain) [
  | inl tab ↦ let e : byte ≡ 9 = eqb-true byte 9 tab in ne_eqb byte 92 (λ h. omega (arith, h, e))
  | inr other ↦ not-true (byte == 92) (and_parts (leb 32 byte && not (byte == 127)) (not (byte == 92)) other).1
]

-- ---- hex digits

high_digit : (byte : ℕ) → byte < 256 → hex_digit_value (slice_index lower_digits (byte / 16)) ≡ Some (byte / 16)
high_digit byte small = IsDigits-lower_digits (byte / 16) (omega arith)

low_digit : (byte : ℕ) → byte < 256 → hex_digit_value (slice_index lower_digits (byte % 16)) ≡ Some (byte % 16)
low_digit byte small = IsDigits-lower_digits (byte % 16) (omega arith)

-- a hex digit is no line feed
digit_no_feed : (digit value : ℕ) → hex_digit_value digit ≡ Some value → (digit == line_feed) ≡ false
digit_no_feed digit value is = ne_eqb digit line_feed (λ h. none-some value (ap hex_digit_value (sym h) ∙ is))

digits_are : (byte : ℕ) → byte < 256 → byte_of_digits (slice_index lower_digits (byte / 16)) (slice_index lower_digits (byte % 16)) ≡ byte
digits_are byte small =
    let high = high_digit byte small in
    let low = low_digit byte small in
    let whole : byte / 16 * 16 + byte % 16 ≡ byte = omega arith in
    ap (λ (o : Option ℕ). unwrap_or o 0 * 16 + unwrap_or (hex_digit_value (slice_index lower_digits (byte % 16))) 0) high
    ∙ ap (λ (o : Option ℕ). byte / 16 * 16 + unwrap_or o 0) low
    ∙ whole

-- ---- one payload

plain_first : (byte : ℕ) (rest : List ℕ) → (byte == 92) ≡ false → unescaped (byte ∷ rest) ≡ byte ∷ unescaped rest
unfolding unescaped
plain_first byte [] other = refl
plain_first byte (one ∷ []) other = refl
plain_first byte (one ∷ two ∷ []) other = refl
plain_first byte (one ∷ high ∷ low ∷ rest) other =
    cond-false (byte == 92) (byte_of_digits high low ∷ unescaped rest) (byte ∷ unescaped (one ∷ high ∷ low ∷ rest)) other

byte_read : (byte : ℕ) (plain : Bool) (rest : List ℕ) → is_plain byte ≡ plain → byte < 256
    → unescaped (cond plain (byte ∷ []) (92 ∷ 120 ∷ encode_lower (byte ∷ [])) ++ rest) ≡ byte ∷ unescaped rest
unfolding unescaped encode_with
byte_read byte true rest is small = plain_first byte rest (no_backslash byte is)
byte_read byte false rest is small = ap (λ b. b ∷ unescaped rest) (digits_are byte small)

pub payload_read : (payload : List ℕ) → AreBytes payload → unescaped (flat_map escaped_byte payload) ≡ payload
unfolding unescaped
payload_read [] bytes = refl
payload_read (byte ∷ payload) bytes =
    byte_read byte (is_plain byte) (flat_map escaped_byte payload) refl (bytes 0) ∙ ap (λ rest. byte ∷ rest) (payload_read payload (λ k. bytes (suc k)))

-- ---- its line

pub other_first : (byte : ℕ) (bytes line : List ℕ) (lines : List (List ℕ)) → (byte == line_feed) ≡ false → lines_of bytes ≡ line ∷ lines → lines_of (byte ∷ bytes) ≡ (byte ∷ line) ∷ lines
unfolding lines_of
other_first byte bytes line lines other is =
    cond-false (byte == line_feed) ([] ∷ lines_of bytes) (onto_first byte (lines_of bytes)) other ∙ ap (onto_first byte) is

byte_line : (byte : ℕ) (plain : Bool) (bytes line : List ℕ) (lines : List (List ℕ)) → is_plain byte ≡ plain → byte < 256 → lines_of bytes ≡ line ∷ lines
    → lines_of (cond plain (byte ∷ []) (92 ∷ 120 ∷ encode_lower (byte ∷ [])) ++ bytes) ≡ (cond plain (byte ∷ []) (92 ∷ 120 ∷ encode_lower (byte ∷ [])) ++ line) ∷ lines
unfolding encode_with
byte_line byte true bytes line lines is small rest = other_first byte bytes line lines (no_feed byte is) rest
byte_line byte false bytes line lines is small rest =
    let high = slice_index lower_digits (byte / 16) in
    let low = slice_index lower_digits (byte % 16) in
    other_first 92 (120 ∷ high ∷ low ∷ bytes) (120 ∷ high ∷ low ∷ line) lines refl
    (other_first 120 (high ∷ low ∷ bytes) (high ∷ low ∷ line) lines refl
    (other_first high (low ∷ bytes) (low ∷ line) lines (digit_no_feed high (byte / 16) (high_digit byte small))
    (other_first low bytes line lines (digit_no_feed low (byte % 16) (low_digit byte small)) rest)))

pub payload_line : (payload rest : List ℕ) → AreBytes payload → lines_of (flat_map escaped_byte payload ++ line_feed ∷ rest) ≡ flat_map escaped_byte payload ∷ lines_of rest
unfolding lines_of
payload_line [] rest bytes = refl
payload_line (byte ∷ payload) rest bytes =
    let text = flat_map escaped_byte payload in
    ap lines_of (append_assoc (escaped_byte byte) text (line_feed ∷ rest))
    ∙ byte_line byte (is_plain byte) (text ++ line_feed ∷ rest) text (lines_of rest) refl (bytes 0) (payload_line payload rest (λ k. bytes (suc k)))

-- ---- all payloads

pub no_lines : lines_of [] ≡ []
unfolding lines_of
no_lines = refl

printed_lines : (payloads : List (List ℕ)) → AllByRecursion AreBytes payloads → lines_of (flat_map text_line payloads) ≡ map (flat_map escaped_byte) payloads
printed_lines [] bytes = no_lines
printed_lines (payload ∷ payloads) bytes =
    let rest = flat_map text_line payloads in
    ap lines_of (append_assoc (flat_map escaped_byte payload) (line_feed ∷ []) rest)
    ∙ payload_line payload rest bytes.0
    ∙ ap (λ (lines : List (List ℕ)). flat_map escaped_byte payload ∷ lines) (printed_lines payloads bytes.1)

payloads_read : (payloads : List (List ℕ)) → AllByRecursion AreBytes payloads → map unescaped (map (flat_map escaped_byte) payloads) ≡ payloads
payloads_read [] bytes = refl
payloads_read (payload ∷ payloads) bytes =
    ap (λ (line : List ℕ). line ∷ map unescaped (map (flat_map escaped_byte) payloads)) (payload_read payload bytes.0)
    ∙ ap (λ (lines : List (List ℕ)). payload ∷ lines) (payloads_read payloads bytes.1)

pub all_read_back : (payloads : List (List ℕ)) → AllByRecursion AreBytes payloads → read_back (flat_map text_line payloads) ≡ payloads
all_read_back payloads bytes = ap (map unescaped) (printed_lines payloads bytes) ∙ payloads_read payloads bytes
