-- A line that has an event isn't longer than the limit of a line.
use Rattle.std.specs.Prelude.{◌≡◌, ℕ, ◌+◌, ◌-◌, ◌*◌, ◌^◌, ◌≤◌, ◌<◌, ◌==◌, ◌&&◌, nat_le, nat_lt, nat_eq, Bool, true, false, Option, Some, None, Result, Ok, Err, List, [], ◌∷◌, length, drop, codes, if◌then◌else◌}
use Rattle.std.specs.List.{starts_with, before_first, after_first, position_or_len, list_all}
use Rattle.std.specs.Char.{is_ascii_digit}
use Rattle.std.specs.Str.Parse.{digits_value}
use Rattle.std.specs.Result.{result_ok}
use Rattle.std.proofs.Common.{refl, arith, subst}
use Rattle.std.proofs.lemmas.Bool.{and_parts, leb-true, ltb-false}
use Rattle.std.proofs.lemmas.List.{length-take, length-drop}
use Rattle.hex.specs.Hex.{decode_of}
use Rattle.hex.specs.declared.error.FromHexError.{FromHexError}
use Rattle.hex.proofs.HexLemmas.{decode_of-ok}
use Rattle.audit_base.specs.declared.limits.TheConstants.{MAX_PAYLOAD, RESERVED_KIND}
use Rattle.audit_chain.specs.EventData.{EventData}
use Rattle.audit_text.specs.declared.fault.LineError.{LineError}
use Rattle.audit_text.specs.declared.fault.LineError.TheVariants.{BadEventLine, ReservedKind, PayloadTooLong}
use Rattle.audit_text.specs.EventLine.{is_space, spells_kind, kind_in_text, payload_of, checked_event, event_of_texts, event_of_line}
use Rattle.audit_text.specs.declared.line_form.LineForm.{LineForm}
use Rattle.audit_text.specs.declared.line_form.LineForm.TheVariants.{Spelled, Text}
use Rattle.audit_text.specs.LineEvents.{event_in_line}
use Rattle.audit_serve_sockets.specs.declared.limits.TheConstants.{MAX_DIGITS}

-- the line of an event is within the limit
abbrev pub IsShort : List ℕ → Result EventData LineError → Type 0
IsShort line (Ok event) = length line ≤ MAX_DIGITS
IsShort line (Err cause) = Unit {0}

abbrev FitsKind : List ℕ → Option ℕ → Type 0
FitsKind text None = Unit {0}
FitsKind text (Some kind) = length text ≤ 10

abbrev FitsPayload : List ℕ → Option (List ℕ) → Type 0
FitsPayload text None = Unit {0}
FitsPayload text (Some payload) = length text ≤ 2 * length payload + 1

if_kind : (text : List ℕ) (spells : Bool) → spells_kind text ≡ spells → FitsKind text (if spells then Some (digits_value 10 text) else None)
if_kind text true is =
    let first = nat_le 1 (length text) in
    let second = nat_le (length text) 10 in
    let third = list_all is_ascii_digit text in
    let three = (and_parts (first && second && third) (nat_lt (digits_value 10 text) (2 ^ 32)) is).0 in
    leb-true (length text) 10 (and_parts first second (and_parts (first && second) third three).0).1
if_kind text false is = tt

one_byte : (byte : ℕ) (dash : Bool) → FitsPayload (byte ∷ []) (if dash then Some [] else None)
one_byte byte true = omega arith
one_byte byte false = tt

of_digits : (text : List ℕ) (decoded : Result (List ℕ) FromHexError) → ((bytes : List ℕ) → decoded ≡ Ok bytes → length text ≡ 2 * length bytes) → FitsPayload text (result_ok decoded)
of_digits text (Ok bytes) twice = omega (arith, twice bytes refl)
of_digits text (Err error) twice = tt

fits_payload : (text : List ℕ) → FitsPayload text (payload_of text)
unfolding payload_of
fits_payload [] = tt
fits_payload (byte ∷ []) = one_byte byte (byte == 45)
fits_payload (high ∷ low ∷ text) = of_digits (high ∷ low ∷ text) (decode_of (high ∷ low ∷ text)) (λ bytes ok. (decode_of-ok (high ∷ low ∷ text) bytes ok).2)

if_checked : (line : List ℕ) (event : EventData) (reserved long : Bool) → (long ≡ false → length line ≤ MAX_DIGITS)
    → IsShort line (if reserved then Err ReservedKind else (if long then Err PayloadTooLong else Ok event))
if_checked line event true long short = tt
if_checked line event false true short = tt
if_checked line event false false short = short refl

short_checked : (line : List ℕ) (kind : ℕ) (payload : List ℕ) → (length payload ≤ MAX_PAYLOAD → length line ≤ MAX_DIGITS) → IsShort line (checked_event kind payload)
short_checked line kind payload short =
    if_checked line (record { kind = kind; payload = payload }) (kind == RESERVED_KIND) (nat_lt MAX_PAYLOAD (length payload)) (λ is. short (ltb-false MAX_PAYLOAD (length payload) is))

short_texts : (line first second : List ℕ) (kind : Option ℕ) (payload : Option (List ℕ)) → FitsKind first kind → FitsPayload second payload
    → (length first ≤ 10 → length second ≤ 2 * MAX_PAYLOAD + 1 → length line ≤ MAX_DIGITS) → IsShort line (event_of_texts kind payload)
short_texts line first second None payload few fits short = tt
short_texts line first second (Some kind) None few fits short = tt
short_texts line first second (Some kind) (Some payload) few fits short = short_checked line kind payload (λ within. short few (omega (arith, fits, within)))

-- a line of these two words
words_length : (line fields : List ℕ) → length fields ≡ length line - 6 → length (before_first is_space fields) ≤ 10 → length (after_first is_space fields) ≤ 2 * MAX_PAYLOAD + 1 → length line ≤ MAX_DIGITS
words_length line fields after few fits =
    omega (arith, after, few, fits, length-take (position_or_len is_space fields) fields, length-drop (position_or_len is_space fields + 1) fields)

if_begun : (line : List ℕ) (begun : Bool) (kind : Option ℕ) (payload : Option (List ℕ)) → IsShort line (event_of_texts kind payload) → IsShort line (if begun then event_of_texts kind payload else Err BadEventLine)
if_begun line true kind payload short = short
if_begun line false kind payload short = tt

short_line : (line : List ℕ) → IsShort line (event_of_line line)
unfolding event_of_line
short_line line =
    let fields = drop 6 line in
    let first = before_first is_space fields in
    let second = after_first is_space fields in
    if_begun line (starts_with nat_eq line (codes "event ")) (kind_in_text first) (payload_of second)
    (short_texts line first second (kind_in_text first) (payload_of second) (if_kind first (spells_kind first) refl) (fits_payload second) (words_length line fields (length-drop 6 line)))

short_in_form : (form : LineForm) (line : List ℕ) → IsShort line (event_in_line form line)
short_in_form Spelled line = short_line line
short_in_form (Text kind) line = short_checked line kind line (λ within. omega (arith, within))

pub long_line_has_no_event : (form : LineForm) (line : List ℕ) (event : EventData) → MAX_DIGITS < length line → event_in_line form line ≡ Ok event → ⊥
long_line_has_no_event form line event long is = let short : length line ≤ MAX_DIGITS = subst (IsShort line) is (short_in_form form line) in absurd (omega (arith, long, short))
