-- A line that is added to the file of a witness is read as the commitment that was added.
use Rattle.std.specs.Prelude.{nat_le, nat_lt}
use Rattle.std.specs.Fmt.{decimal}
use Rattle.std.specs.Char.{is_ascii_digit}
use Rattle.std.specs.List.{AllByRecursion, list_all, before_first, after_first, position_or_len}
use Rattle.std.specs.Result.{result_ok}
use Rattle.std.specs.Str.Parse.{AllDigits, digits_value}
use Rattle.std.proofs.Common.{◌≡◌, ◌∙◌, ℕ, suc, ◌+◌, ◌/◌, ◌%◌, ◌<◌, ◌^◌, ◌==◌, Bool, true, false, cond, not, ◌&&◌, Option, Some, List, [], ◌∷◌, ◌++◌, length, take, drop, refl, sym, ap, subst, arith, append_assoc, lit<}
use Rattle.std.proofs.lemmas.Bool.{not-true, ne_eqb, cond-true, cond-false, le-leb, lt-ltb}
use Rattle.std.proofs.lemmas.Option.{none-some}
use Rattle.std.proofs.lemmas.Fmt.{decimal_is_IsNumeral, length-decimal-le}
use Rattle.std.proofs.lemmas.Str.Parse.{digit_from_value}
use Rattle.std.proofs.Math.Seq.{take-append_seam, drop-append-add}
use Rattle.hex.specs.Hex.{encode_lower, encode_with, hex_digit_value, decode_sized}
use Rattle.hex.proofs.HexLemmas.{IsDigits-lower_digits, decode_sized-encode_lower}
use Rattle.audit_base.specs.Bytes.{AreBytes}
use Rattle.audit_base.specs.declared.limits.TheConstants.{HASH_LEN}
use Rattle.audit_text.specs.Lines.{lines_of, line_feed, onto_first}
use Rattle.audit_text.specs.Number.{spells_number, number_in_text}
use Rattle.audit_text.proofs.FirstLine.{first_line}
use Rattle.audit_proof.specs.declared.commitment.Commitment.{Commitment}
use Rattle.audit_cli_offline.specs.CommitmentWord.{is_colon, commitment_with, commitment_in_word}
use Rattle.audit_cli_witness.specs.State.{IsStored, commitment_word, lacks_feed, line_after}

-- neither a line feed nor a colon
unfoldable pub IsWordByte : ℕ → Type 0
IsWordByte byte = ((byte == line_feed) ≡ false) × (is_colon byte ≡ false)

-- ---- digits

pub digits_word : (digits : List ℕ) → AllDigits 10 digits → AllByRecursion IsWordByte digits
unfolding IsWordByte
digits_word [] all = tt
digits_word (digit ∷ digits) all =
    let within = digit_from_value digit all.0 in
    ((ne_eqb digit line_feed (λ h. omega (arith, h, within)), ne_eqb digit 58 (λ h. omega (arith, h, within))), digits_word digits all.1)

digits_ascii : (digits : List ℕ) → AllDigits 10 digits → list_all is_ascii_digit digits ≡ true
digits_ascii [] all = refl
digits_ascii (digit ∷ digits) all =
    let within = digit_from_value digit all.0 in
    ap (λ (low : Bool). (low && nat_le digit 57) && list_all is_ascii_digit digits) (le-leb 48 digit (omega (arith, within)))
    ∙ ap (λ (high : Bool). high && list_all is_ascii_digit digits) (le-leb digit 57 (omega (arith, within)))
    ∙ digits_ascii digits all.1

below : (n : ℕ) → n < 2 ^ 64 → n < 10 ^ 20
below n small = omega arith

number_read : (n : ℕ) → n < 2 ^ 64 → number_in_text (decimal n) ≡ Some n
number_read n small =
    let numeral = decimal_is_IsNumeral n small in
    let value : digits_value 10 (decimal n) ≡ n = numeral.1 in
    let spells : spells_number (decimal n) ≡ true =
    ap (λ (b : Bool). b && nat_le (length (decimal n)) 20 && list_all is_ascii_digit (decimal n) && nat_lt (digits_value 10 (decimal n)) (2 ^ 64)) (le-leb 1 (length (decimal n)) (omega (arith, numeral.0.0)))
    ∙ ap (λ (b : Bool). b && list_all is_ascii_digit (decimal n) && nat_lt (digits_value 10 (decimal n)) (2 ^ 64)) (le-leb (length (decimal n)) 20 (length-decimal-le 20 n (lit< tt) (below n small) small))
    ∙ ap (λ (b : Bool). b && nat_lt (digits_value 10 (decimal n)) (2 ^ 64)) (digits_ascii (decimal n) numeral.0.1)
    ∙ ap (λ (m : ℕ). nat_lt m (2 ^ 64)) value ∙ lt-ltb n (2 ^ 64) small in
    cond-true (spells_number (decimal n)) (Some (digits_value 10 (decimal n))) _ spells ∙ ap (λ (m : ℕ). Some m) value

-- ---- hex digits

hex_word : (digit value : ℕ) → hex_digit_value digit ≡ Some value → IsWordByte digit
unfolding IsWordByte
hex_word digit value is =
    (ne_eqb digit line_feed (λ h. none-some value (ap hex_digit_value (sym h) ∙ is)), ne_eqb digit 58 (λ h. none-some value (ap hex_digit_value (sym h) ∙ is)))

pub root_word : (bytes : List ℕ) → AreBytes bytes → AllByRecursion IsWordByte (encode_lower bytes)
unfolding encode_with
root_word [] all = tt
root_word (byte ∷ bytes) all =
    let small : byte < 256 = all 0 in (
      hex_word _ (byte / 16) (IsDigits-lower_digits (byte / 16) (omega (arith, small))),
      (hex_word _ (byte % 16) (IsDigits-lower_digits (byte % 16) (omega arith)), root_word bytes (λ k. all (suc k))),
    )

-- ---- words

-- the first colon ends the count
colon_at : (front rest : List ℕ) → AllByRecursion IsWordByte front → position_or_len is_colon (front ++ 58 ∷ rest) ≡ length front
unfolding IsWordByte
colon_at [] rest all = refl
colon_at (byte ∷ front) rest all =
    ap (λ (b : Bool). cond (not b) (1 + position_or_len is_colon (front ++ 58 ∷ rest)) 0) all.0.1 ∙ ap (λ n. 1 + n) (colon_at front rest all.1) ∙ omega arith

pub word_read : (seen : Commitment) → IsStored seen → commitment_in_word (commitment_word seen) ≡ Some seen
word_read seen stored =
    let front = decimal seen.count in
    let rest = encode_lower seen.root in
    let place = colon_at front rest (digits_word front (decimal_is_IsNumeral seen.count stored.count).0.1) in
    let whole : commitment_word seen ≡ front ++ 58 ∷ rest = append_assoc front (58 ∷ []) rest in
    let first : before_first is_colon (commitment_word seen) ≡ front =
    ap (before_first is_colon) whole ∙ ap (λ (n : ℕ). take n (front ++ 58 ∷ rest)) place ∙ take-append_seam front (58 ∷ rest) in
    let second : after_first is_colon (commitment_word seen) ≡ rest =
    ap (after_first is_colon) whole ∙ ap (λ (n : ℕ). drop (n + 1) (front ++ 58 ∷ rest)) place ∙ drop-append-add front (58 ∷ rest) 1 in
    ap (λ (o : Option ℕ). commitment_with o (result_ok (decode_sized (after_first is_colon (commitment_word seen)) HASH_LEN))) (ap number_in_text first ∙ number_read seen.count stored.count)
    ∙ ap (λ (o : Option (List ℕ)). commitment_with (Some seen.count) o) (ap (λ (digits : List ℕ). result_ok (decode_sized digits HASH_LEN)) second ∙ ap result_ok (decode_sized-encode_lower seen.root HASH_LEN stored.root stored.bytes))

-- ---- lines

pub other_first : (byte : ℕ) (bytes line : List ℕ) (lines : List (List ℕ)) → (byte == line_feed) ≡ false → lines_of bytes ≡ line ∷ lines → lines_of (byte ∷ bytes) ≡ (byte ∷ line) ∷ lines
unfolding lines_of
other_first byte bytes line lines other is =
    cond-false (byte == line_feed) ([] ∷ lines_of bytes) (onto_first byte (lines_of bytes)) other ∙ ap (onto_first byte) is

-- a word and a line feed are a line
word_line : (word rest : List ℕ) → AllByRecursion IsWordByte word → lines_of (word ++ line_feed ∷ rest) ≡ word ∷ lines_of rest
unfolding lines_of IsWordByte
word_line [] rest all = refl
word_line (byte ∷ word) rest all = other_first byte (word ++ line_feed ∷ rest) word (lines_of rest) all.0.0 (word_line word rest all.1)

onto_front : (byte : ℕ) (ends : Bool) (first : List ℕ) (front all more : List (List ℕ)) → all ≡ (first ∷ front) ++ more
    → cond ends ([] ∷ all) (onto_first byte all) ≡ cond ends ([] ∷ first ∷ front) (onto_first byte (first ∷ front)) ++ more
onto_front byte true first front all more is = ap (λ (l : List (List ℕ)). [] ∷ l) is
onto_front byte false first front all more is = ap (onto_first byte) is

byte_more : (byte next : ℕ) (bytes after : List ℕ) (more : List (List ℕ)) → lines_of (next ∷ bytes ++ after) ≡ lines_of (next ∷ bytes) ++ more → lines_of (byte ∷ next ∷ bytes ++ after) ≡ lines_of (byte ∷ next ∷ bytes) ++ more
unfolding lines_of
byte_more byte next bytes after more is =
    let Goal : List (List ℕ) → Type 0 = λ l. cond (byte == line_feed) ([] ∷ lines_of (next ∷ bytes ++ after)) (onto_first byte (lines_of (next ∷ bytes ++ after))) ≡ cond (byte == line_feed) ([] ∷ l) (onto_first byte l) ++ more in
    let front = first_line next bytes in
    subst Goal (sym front) (onto_front byte (byte == line_feed) _ _ (lines_of (next ∷ bytes ++ after)) more (is ∙ ap (λ (l : List (List ℕ)). l ++ more) front))

last_whole : (byte : ℕ) (ends : Bool) (after : List (List ℕ)) → ends ≡ true → cond ends ([] ∷ after) (onto_first byte after) ≡ cond ends ([] ∷ []) (onto_first byte []) ++ after
last_whole byte true after is = refl
last_whole byte false after is = absurd (grind arith)

last_open : (byte : ℕ) (ends : Bool) (after : List (List ℕ)) → ends ≡ false → cond ends ([] ∷ [] ∷ after) (onto_first byte ([] ∷ after)) ≡ cond ends ([] ∷ []) (onto_first byte []) ++ after
last_open byte true after is = absurd (grind arith)
last_open byte false after is = refl

pub not_false : (b : Bool) → not b ≡ false → b ≡ true
not_false true is = refl
not_false false is = absurd (grind arith)

-- after whole lines
pub after_whole : (text after : List ℕ) → lacks_feed text ≡ false → lines_of (text ++ after) ≡ lines_of text ++ lines_of after
unfolding lines_of
after_whole [] after is = refl
after_whole (byte ∷ []) after is = last_whole byte (byte == line_feed) (lines_of after) (not_false (byte == line_feed) is)
after_whole (byte ∷ next ∷ bytes) after is = byte_more byte next bytes after (lines_of after) (after_whole (next ∷ bytes) after is)

-- after a last line that lacks its line feed
after_open : (text after : List ℕ) → lacks_feed text ≡ true → lines_of (text ++ line_feed ∷ after) ≡ lines_of text ++ lines_of after
unfolding lines_of
after_open [] after is = absurd (grind arith)
after_open (byte ∷ []) after is = last_open byte (byte == line_feed) (lines_of after) (not-true (byte == line_feed) is)
after_open (byte ∷ next ∷ bytes) after is = byte_more byte next bytes (line_feed ∷ after) (lines_of after) (after_open (next ∷ bytes) after is)

pub no_lines : lines_of [] ≡ []
unfolding lines_of
no_lines = refl

all_words : (xs ys : List ℕ) → AllByRecursion IsWordByte xs → AllByRecursion IsWordByte ys → (bytes rest : List ℕ) → bytes ≡ xs ++ 58 ∷ ys → lines_of (bytes ++ line_feed ∷ rest) ≡ bytes ∷ lines_of rest
unfolding lines_of IsWordByte
all_words [] ys a b bytes rest is =
    subst (λ (l : List ℕ). lines_of (l ++ line_feed ∷ rest) ≡ l ∷ lines_of rest) (sym is) (other_first 58 (ys ++ line_feed ∷ rest) ys (lines_of rest) refl (word_line ys rest b))
all_words (x ∷ xs) ys a b bytes rest is =
    subst (λ (l : List ℕ). lines_of (l ++ line_feed ∷ rest) ≡ l ∷ lines_of rest) (sym is)
    (other_first x ((xs ++ 58 ∷ ys) ++ line_feed ∷ rest) (xs ++ 58 ∷ ys) (lines_of rest) a.0.0 (all_words xs ys a.1 b (xs ++ 58 ∷ ys) rest refl))

commitment_line : (seen : Commitment) → IsStored seen → lines_of (commitment_word seen ++ line_feed ∷ []) ≡ commitment_word seen ∷ []
commitment_line seen stored =
    all_words (decimal seen.count) (encode_lower seen.root) (digits_word (decimal seen.count) (decimal_is_IsNumeral seen.count stored.count).0.1) (root_word seen.root stored.bytes) (commitment_word seen) [] (append_assoc (decimal seen.count) (58 ∷ []) (encode_lower seen.root))
    ∙ ap (λ (l : List (List ℕ)). commitment_word seen ∷ l) no_lines

pub line_added : (text : List ℕ) (lacks : Bool) (seen : Commitment) → IsStored seen → lacks_feed text ≡ lacks → lines_of (text ++ line_after lacks seen) ≡ lines_of text ++ commitment_word seen ∷ []
line_added text true seen stored is = after_open text (commitment_word seen ++ line_feed ∷ []) is ∙ ap (λ (l : List (List ℕ)). lines_of text ++ l) (commitment_line seen stored)
line_added text false seen stored is = after_whole text (commitment_word seen ++ line_feed ∷ []) is ∙ ap (λ (l : List (List ℕ)). lines_of text ++ l) (commitment_line seen stored)

pub added : (text : List ℕ) (seen : Commitment) → IsStored seen → lines_of (text ++ line_after (lacks_feed text) seen) ≡ lines_of text ++ commitment_word seen ∷ []
added text seen stored = line_added text (lacks_feed text) seen stored refl
