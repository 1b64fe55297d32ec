-- The lines of a note, read one after another.
use Rattle.std.specs.Prelude.{nat_le, codes, IfSome}
use Rattle.std.specs.Fmt.{decimal}
use Rattle.std.specs.List.{AllByRecursion, list_all, before_first, after_first, position_or_len}
use Rattle.std.specs.Result.{result_ok}
use Rattle.std.proofs.Common.{◌≡◌, ◌∙◌, ℕ, ◌+◌, ◌<◌, ◌≤◌, ◌^◌, ◌==◌, Bool, true, false, ◌&&◌, Option, Some, None, List, [], ◌∷◌, ◌++◌, length, refl, sym, ap, arith, append-nil, length-append, lit<, cond, not, take, drop, append_assoc}
use Rattle.std.proofs.lemmas.Bool.{and_parts, ne_eqb, leb-true}
use Rattle.std.specs.Str.Parse.{AllDigits}
use Rattle.std.proofs.lemmas.Str.Parse.{digit_from_value}
use Rattle.std.proofs.Math.Seq.{take-append_seam, drop-append-add}
use Rattle.audit_note.specs.CommitmentWord.{is_colon, commitment_with, commitment_in_word}
use Rattle.std.proofs.lemmas.Fmt.{decimal_is_IsNumeral, length-decimal-le}
use Rattle.hex.specs.Hex.{encode_lower, lower_digits, decode_sized}
use Rattle.hex.proofs.HexLemmas.{length-encode_with}
use Rattle.audit_base.specs.declared.limits.TheConstants.{HASH_LEN}
use Rattle.audit_text.specs.declared.input.TheConstants.{INPUT_LIMIT}
use Rattle.audit_text.specs.Number.{number_in_text}
use Rattle.audit_proof.specs.declared.commitment.Commitment.{Commitment}
use Rattle.audit_text.specs.Fields.{field_line}
use Rattle.audit_proof.specs.SoundCommitment.{IsSoundCommitment}
use Rattle.audit_text.proofs.FieldLines.{hex_read}
use Rattle.audit_text.proofs.FieldLines.{NoFeed, field_read, digits_feedless, hash_feedless, number_read, same_some, same_number}
use Rattle.audit_note.specs.NoteText.{is_name_byte, is_log_name, note_text, IsNote, SpellsNote, IsNoNote}
use Rattle.audit_text.specs.Fields.{Splits}
use Rattle.audit_note.specs.declared.name.TheConstants.{MAX_NAME}

-- a name has no line feed
name_feedless : (name : List ℕ) → list_all is_name_byte name ≡ true → NoFeed name
name_feedless [] all = tt
name_feedless (byte ∷ name) all =
    let parts = and_parts (is_name_byte byte) (list_all is_name_byte name) all in
    let ends = and_parts (nat_le 33 byte) (nat_le byte 126) parts.0 in
    let low = leb-true 33 byte ends.0 in
    (ne_eqb byte 10 (λ h. omega (arith, h, low)), name_feedless name parts.1)

name_parts : (name : List ℕ) → is_log_name name ≡ true → (length name ≤ MAX_NAME) × (list_all is_name_byte name ≡ true)
name_parts name is =
    let outer = and_parts (nat_le 1 (length name) && nat_le (length name) MAX_NAME) (list_all is_name_byte name) is in
    let inner = and_parts (nat_le 1 (length name)) (nat_le (length name) MAX_NAME) outer.0 in
    (leb-true (length name) MAX_NAME inner.1, outer.1)

-- the values of the lines
pub record AreNoteFields (name : List ℕ) (commitment : Commitment) (v2 v3 v4 : List ℕ) : Type 0 where
  pub name_is : v2 ≡ name
  pub count_is : v3 ≡ decimal commitment.count
  pub root_is : v4 ≡ encode_lower commitment.root

pub note_fields : (text name : List ℕ) (commitment : Commitment) → SpellsNote text name commitment → (v1 t1 v2 t2 v3 t3 v4 t4 : List ℕ) → Splits text v1 t1 → Splits t1 v2 t2 → Splits t2 v3 t3 → Splits t3 v4 t4
    → AreNoteFields name commitment v2 v3 v4
unfolding note_text
note_fields text name commitment spells v1 t1 v2 t2 v3 t3 v4 t4 s1 s2 s3 s4 =
    let is = spells.note_is in
    let numeral = decimal_is_IsNumeral commitment.count is.commitment_is.count in
    let root = field_line (codes "root") (encode_lower commitment.root) in
    let count = field_line (codes "count") (decimal commitment.count) ++ root in
    let version = s1 (codes "audit-note") (codes "1") (field_line (codes "name") name ++ count) (refl, (refl, (refl, (refl, (refl, (refl, (refl, (refl, (refl, (refl, tt))))))))))
    (refl, (refl, (refl, (refl, (refl, (refl, (refl, (refl, (refl, (refl, tt)))))))))) (refl, tt) spells.text_is in
    let named = s2 (codes "name") name count (refl, (refl, (refl, (refl, tt)))) (refl, (refl, (refl, (refl, tt)))) (name_feedless name (name_parts name is.name_is).1) version.1 in
    let counted = s3 (codes "count") (decimal commitment.count) root (refl, (refl, (refl, (refl, (refl, tt))))) (refl, (refl, (refl, (refl, (refl, tt)))))
    (digits_feedless (decimal commitment.count) numeral.0.1) named.1 in
    let rooted = s4 (codes "root") (encode_lower commitment.root) [] (refl, (refl, (refl, (refl, tt)))) (refl, (refl, (refl, (refl, tt)))) (hash_feedless commitment.root is.commitment_is.root.bytes)
    (counted.1 ∙ sym (append-nil root)) in
    record { name_is = named.0; count_is = counted.0; root_is = rooted.0 }

-- a step of a reader, whatever the text is
value_in : List ℕ → List ℕ
value_in text = after_first (λ byte. byte == 32) (before_first (λ byte. byte == 10) text)

rest_in : List ℕ → List ℕ
rest_in text = after_first (λ byte. byte == 10) text

splits : (text : List ℕ) → Splits text (value_in text) (rest_in text)
unfolding value_in rest_in
splits text word given rest plain whole also is =
    let read = field_read text word given rest (before_first (λ byte. byte == 10) text) (after_first (λ byte. byte == 10) text) plain whole also is refl refl in
    (read.value_is, read.rest_is)

fields_in : (text name : List ℕ) (commitment : Commitment) → SpellsNote text name commitment → AreNoteFields name commitment (value_in (rest_in text)) (value_in (rest_in (rest_in text))) (value_in (rest_in (rest_in (rest_in text))))
fields_in text name commitment spells =
    note_fields text name commitment spells _ _ _ _ _ _ _ _ (splits text) (splits (rest_in text)) (splits (rest_in (rest_in text))) (splits (rest_in (rest_in (rest_in text))))

given : ℕ → List ℕ → Commitment
given count root = record { count = count; root = root }

-- the commitment of two numbers and hashes that were written alike
pub same_commitment : (count : ℕ) (root : List ℕ) (commitment : Commitment) → IsSoundCommitment commitment → Some count ≡ number_in_text (decimal commitment.count)
    → Some root ≡ result_ok (decode_sized (encode_lower commitment.root) HASH_LEN) → record { count = count; root = root } ≡ commitment
unfolding given
same_commitment count root commitment is count_is root_is =
    ap (λ k. given k root) (same_number count commitment.count (count_is ∙ number_read commitment.count is.count))
    ∙ ap (λ r. given commitment.count r) (same_some root commitment.root (root_is ∙ hex_read commitment.root is.root.long is.root.bytes))

pub one_note : (text name other : List ℕ) (commitment another : Commitment) → SpellsNote text name commitment → SpellsNote text other another → (name ≡ other) × (commitment ≡ another)
one_note text name other commitment another first second =
    let one = fields_in text name commitment first in
    let two = fields_in text other another second in
    let is = first.note_is.commitment_is in
    let count : Some commitment.count ≡ number_in_text (decimal another.count) = sym (number_read commitment.count is.count) ∙ ap number_in_text (sym one.count_is ∙ two.count_is) in
    let root : Some commitment.root ≡ result_ok (decode_sized (encode_lower another.root) HASH_LEN) = sym (hex_read commitment.root is.root.long is.root.bytes) ∙ ap (λ d. result_ok (decode_sized d HASH_LEN)) (sym one.root_is ∙ two.root_is) in
    (sym one.name_is ∙ two.name_is, same_commitment commitment.count commitment.root another second.note_is.commitment_is count root)

below : (n : ℕ) → n < 2 ^ 64 → n < 10 ^ 20
below n small = omega arith

field_long : (word value : List ℕ) → length (field_line word value) ≡ length word + length value + 2
field_long word value = omega (arith, length-append word (32 ∷ (value ++ (10 ∷ []))), length-append value (10 ∷ []))

pub short_note : (name : List ℕ) (commitment : Commitment) → IsNote name commitment → length (note_text name commitment) ≤ 371
unfolding note_text
short_note name commitment is =
    let version = field_line (codes "audit-note") (codes "1") in
    let named = field_line (codes "name") name in
    let count = field_line (codes "count") (decimal commitment.count) in
    let root = field_line (codes "root") (encode_lower commitment.root) in
    omega (
      arith,
      length-append version (named ++ (count ++ root)),
      length-append named (count ++ root),
      length-append count root,
      field_long (codes "audit-note") (codes "1"),
      field_long (codes "name") name,
      field_long (codes "count") (decimal commitment.count),
      field_long (codes "root") (encode_lower commitment.root),
      (name_parts name is.name_is).0,
      length-decimal-le 20 commitment.count (lit< tt) (below commitment.count is.commitment_is.count) is.commitment_is.count,
      length-encode_with lower_digits commitment.root,
      is.commitment_is.root.long,
    )

-- ---- the word of a commitment

colonless : (digits : List ℕ) → AllDigits 10 digits → AllByRecursion (λ byte. is_colon byte ≡ false) digits
colonless [] all = tt
colonless (digit ∷ digits) all = (ne_eqb digit 58 (λ h. omega (arith, h, digit_from_value digit all.0)), colonless digits all.1)

colon_at : (front rest : List ℕ) → AllByRecursion (λ byte. is_colon byte ≡ false) front → position_or_len is_colon (front ++ 58 ∷ rest) ≡ length front
colon_at [] rest all = refl
colon_at (byte ∷ front) rest all =
    ap (λ (b : Bool). cond (not b) (1 + position_or_len is_colon (front ++ 58 ∷ rest)) 0) all.0 ∙ ap (λ n. 1 + n) (colon_at front rest all.1) ∙ omega arith

pub word_found : (commitment : Commitment) (word : List ℕ) → IsSoundCommitment commitment → word ≡ (decimal commitment.count ++ codes ":") ++ encode_lower commitment.root → commitment_in_word word ≡ Some commitment
word_found commitment word is word_is =
    let front = decimal commitment.count in
    let rest = encode_lower commitment.root in
    let place = colon_at front rest (colonless front (decimal_is_IsNumeral commitment.count is.count).0.1) in
    let whole : word ≡ front ++ 58 ∷ rest = word_is ∙ append_assoc front (58 ∷ []) rest in
    let first : before_first is_colon word ≡ front =
    ap (before_first is_colon) whole ∙ ap (λ (n : ℕ). take n (front ++ 58 ∷ rest)) place ∙ take-append_seam front (58 ∷ rest) in
    let second : after_first is_colon word ≡ rest =
    ap (after_first is_colon) whole ∙ ap (λ (n : ℕ). drop (n + 1) (front ++ 58 ∷ rest)) place ∙ drop-append-add front (58 ∷ rest) 1 in
    ap (λ (o : Option ℕ). commitment_with o (result_ok (decode_sized (after_first is_colon word) HASH_LEN))) (ap number_in_text first ∙ number_read commitment.count is.count)
    ∙ ap (λ (o : Option (List ℕ)). commitment_with (Some commitment.count) o) (ap (λ (digits : List ℕ). result_ok (decode_sized digits HASH_LEN)) second ∙ hex_read commitment.root is.root.long is.root.bytes)

-- ---- what is no note

pub too_long : (text : List ℕ) → 371 < length text → IsNoNote text
too_long text long = λ name commitment spells. omega (arith, long, ap length spells.text_is, short_note name commitment spells.note_is)

pub too_long_if : (known : Option (List ℕ)) → IfSome known (λ bytes. INPUT_LIMIT < length bytes) → IfSome known (λ text. IsNoNote text)
too_long_if None long = tt
too_long_if (Some text) long = too_long text (omega (arith, long))
