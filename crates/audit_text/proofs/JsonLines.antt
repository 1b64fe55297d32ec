-- Events that were printed as lines of JSON are read back.
use Rattle.std.specs.Prelude.{codes, nat_lt, option_and_then}
use Rattle.std.specs.Fmt.{decimal}
use Rattle.std.specs.Str.{is_utf8}
use Rattle.std.specs.List.{AllByRecursion, flat_map}
use Rattle.std.specs.Result.{result_ok}
use Rattle.std.specs.Char.{digit_char}
use Rattle.std.proofs.Common.{◌≡◌, ◌∙◌, ℕ, ◌+◌, ◌/◌, ◌%◌, ◌≤◌, ◌==◌, ◌||◌, Bool, true, false, cond, Option, Some, Result, inl, inr, List, [], ◌∷◌, ◌++◌, map, refl, sym, ap, subst, arith, append_assoc}
use Rattle.std.proofs.lemmas.Bool.{or_cases, eqb-true, ne_eqb, cond_both, ltb-false}
use Rattle.hex.specs.Hex.{encode_lower, decode_of}
use Rattle.hex.specs.declared.error.FromHexError.{FromHexError}
use Rattle.hex.proofs.HexLemmas.{decode_of-encode_lower}
use Rattle.json.specs.Token.{Token, key, string, end_object}
use Rattle.json.specs.Json as Json
use Rattle.json.specs.Json.{Members, object, member, no_members, document, max_depth}
use Rattle.json.specs.Tree.{json_tokens, depth, members_depth, HasNumbers, MembersHaveNumbers}
use Rattle.json.specs.Print.{print, print_from, token_text, separator, ends, quoted, escape, escape_byte, escape_letter}
use Rattle.json.proofs.Printed.Trees.{document-print}
use Rattle.json.proofs.Printed.Decimals.{IsNumber-decimal}
use Rattle.audit_text.specs.Lines.{lines_of, line_feed}
use Rattle.audit_text.specs.Number.{number_in_text}
use Rattle.audit_text.specs.NumberedEvent.{NumberedEvent, IsNumbered, event_of_fields}
use Rattle.audit_text.specs.JsonLine.{json_line, event_object, event_of_object, events_of_json}
use Rattle.audit_text.proofs.ReadingBack.{no_lines}
use Rattle.audit_text.proofs.ReadNumbers.{HasNoFeed, no_feed_append, line_cut, number_no_feed, number_read}
use Rattle.audit_text.proofs.JsonTokens.{object_tokens, written_tokens}

-- ---- no line feed in a printed line

abbrev IsOther : ℕ → Type 0
IsOther byte = (byte == line_feed) ≡ false

letter_other : (x : ℕ) → IsOther (escape_letter x)
letter_other x =
    cond_both ((x == 34) || (x == 92)) x _ IsOther
    (λ same. elim (or_cases (x == 34) (x == 92) same) [
      | inl quote ↦ let e : x ≡ 34 = eqb-true x 34 quote in ne_eqb x line_feed (λ h. omega (arith, h, e))
      | inr slash ↦ let e : x ≡ 92 = eqb-true x 92 slash in ne_eqb x line_feed (λ h. omega (arith, h, e))
    ])
    (λ _. cond_both (x == 8) 98 _ IsOther (λ _. refl)
    (λ _. cond_both (x == 12) 102 _ IsOther (λ _. refl)
    (λ _. cond_both (x == 10) 110 _ IsOther (λ _. refl)
    (λ _. cond_both (x == 13) 114 _ IsOther (λ _. refl)
    (λ _. cond_both (x == 9) 116 0 IsOther (λ _. refl) (λ _. refl))))))

digit_other : (d : ℕ) → IsOther (digit_char d)
digit_other d = cond_both (nat_lt d 10) (48 + d) (87 + d) IsOther (λ _. ne_eqb (48 + d) line_feed (λ h. omega (arith, h))) (λ _. ne_eqb (87 + d) line_feed (λ h. omega (arith, h)))

byte_no_feed : (x : ℕ) → HasNoFeed (escape_byte x)
unfolding escape_byte
byte_no_feed x =
    cond_both (nat_lt 0 (escape_letter x)) (92 ∷ escape_letter x ∷ []) _ HasNoFeed (λ _. (refl, (letter_other x, tt)))
    (λ _. cond_both (nat_lt x 32) _ (x ∷ []) HasNoFeed
    (λ _. (refl, (refl, (refl, (refl, (digit_other (x / 16), (digit_other (x % 16), tt)))))))
    (λ high. (ne_eqb x line_feed (λ h. omega (arith, h, ltb-false x 32 high)), tt)))

escape_no_feed : (s : List ℕ) → HasNoFeed (escape s)
escape_no_feed [] = tt
escape_no_feed (x ∷ s) = no_feed_append (escape_byte x) (escape s) (byte_no_feed x) (escape_no_feed s)

quoted_no_feed : (s : List ℕ) → HasNoFeed (quoted s)
quoted_no_feed s = (refl, no_feed_append (escape s) (34 ∷ []) (escape_no_feed s) (refl, tt))

key_no_feed : (s : List ℕ) → HasNoFeed (token_text (key s))
key_no_feed s = no_feed_append (quoted s) (58 ∷ []) (quoted_no_feed s) (refl, tt)

abbrev TokensNoFeed : List Token → Type 0
TokensNoFeed tokens = AllByRecursion (λ (t : Token). HasNoFeed (token_text t)) tokens

separator_no_feed : (test : Bool) → HasNoFeed (cond test (44 ∷ []) [])
separator_no_feed true = (refl, tt)
separator_no_feed false = tt

print_no_feed : (after : Bool) (tokens : List Token) → TokensNoFeed tokens → HasNoFeed (print_from after tokens)
unfolding print_from
print_no_feed after [] none = tt
print_no_feed after (t ∷ tokens) none =
    no_feed_append (separator after t) _ (separator_no_feed _) (no_feed_append (token_text t) _ none.0 (print_no_feed (ends t) tokens none.1))

member_no_feed : (test : Bool) (payload digits : List ℕ) → TokensNoFeed (cond test (key (codes "text") ∷ string payload ∷ []) (key (codes "hex") ∷ string digits ∷ []) ++ end_object ∷ [])
member_no_feed true payload digits = (key_no_feed (codes "text"), (quoted_no_feed payload, ((refl, tt), tt)))
member_no_feed false payload digits = (key_no_feed (codes "hex"), (quoted_no_feed digits, ((refl, tt), tt)))

tokens_no_feed : (event : NumberedEvent) → IsNumbered event → TokensNoFeed (written_tokens event)
tokens_no_feed event is = (
  (refl, tt),
  (
    key_no_feed (codes "index"),
    (
      number_no_feed event.index is.index,
      (
        key_no_feed (codes "kind"),
        (number_no_feed event.kind (omega (arith, is.kind)), member_no_feed (is_utf8 event.payload) event.payload (encode_lower event.payload)),
      ),
    ),
  ),
)

object_no_feed : (event : NumberedEvent) → IsNumbered event → HasNoFeed (print (json_tokens (event_object event)))
object_no_feed event is = subst (λ (ts : List Token). HasNoFeed (print ts)) (sym (object_tokens event)) (print_no_feed false (written_tokens event) (tokens_no_feed event is))

-- ---- the object of an event is read back

-- the member of a payload, by a test
abbrev either : Bool → List ℕ → List ℕ → Members
either test payload digits = cond test (member (codes "text") (Json.string payload) no_members) (member (codes "hex") (Json.string digits) no_members)

payload_numbers : (test : Bool) (payload digits : List ℕ) → MembersHaveNumbers (either test payload digits)
payload_numbers true payload digits = (tt, tt)
payload_numbers false payload digits = (tt, tt)

payload_depth : (test : Bool) (payload digits : List ℕ) → members_depth (either test payload digits) ≡ 0
payload_depth true payload digits = refl
payload_depth false payload digits = refl

object_numbers : (event : NumberedEvent) → IsNumbered event → HasNumbers (event_object event)
object_numbers event is = (
  IsNumber-decimal event.index is.index,
  (IsNumber-decimal event.kind (omega (arith, is.kind)), payload_numbers (is_utf8 event.payload) event.payload (encode_lower event.payload)),
)

object_depth : (event : NumberedEvent) → depth (event_object event) ≤ max_depth
object_depth event = omega (arith, payload_depth (is_utf8 event.payload) event.payload (encode_lower event.payload))

object_read : (event : NumberedEvent) → IsNumbered event → document (print (json_tokens (event_object event))) ≡ Some (event_object event)
object_read event is = document-print (event_object event) (object_numbers event is) (object_depth event)

fields_read : (test : Bool) (event : NumberedEvent) → IsNumbered event
    → event_of_object (object (member (codes "index") (Json.number (decimal event.index))
    (member (codes "kind") (Json.number (decimal event.kind)) (either test event.payload (encode_lower event.payload))))) ≡ Some event
fields_read true event is =
    ap (λ (o : Option ℕ). event_of_fields o (number_in_text (decimal event.kind)) (Some event.payload)) (number_read event.index is.index)
    ∙ ap (λ (o : Option ℕ). event_of_fields (Some event.index) o (Some event.payload)) (number_read event.kind (omega (arith, is.kind)))
fields_read false event is =
    ap (λ (o : Option ℕ). event_of_fields o (number_in_text (decimal event.kind)) (result_ok (decode_of (encode_lower event.payload)))) (number_read event.index is.index)
    ∙ ap (λ (o : Option ℕ). event_of_fields (Some event.index) o (result_ok (decode_of (encode_lower event.payload)))) (number_read event.kind (omega (arith, is.kind)))
    ∙ ap (λ (read : Result (List ℕ) FromHexError). event_of_fields (Some event.index) (Some event.kind) (result_ok read)) (decode_of-encode_lower event.payload is.bytes)

event_read : (event : NumberedEvent) → IsNumbered event → event_of_object (event_object event) ≡ Some event
event_read event is = fields_read (is_utf8 event.payload) event is

line_read : (event : NumberedEvent) → IsNumbered event → option_and_then event_of_object (document (print (json_tokens (event_object event)))) ≡ Some event
line_read event is = ap (option_and_then event_of_object) (object_read event is) ∙ event_read event is

pub json_read : (events : List NumberedEvent) → AllByRecursion IsNumbered events → events_of_json (flat_map json_line events) ≡ map (λ event. Some event) events
unfolding json_line
json_read [] are = ap (map (λ line. option_and_then event_of_object (document line))) no_lines
json_read (event ∷ events) are =
    let line = print (json_tokens (event_object event)) in
    let rest = flat_map json_line events in
    ap (map (λ l. option_and_then event_of_object (document l))) (ap lines_of (append_assoc line (line_feed ∷ []) rest) ∙ line_cut line rest (object_no_feed event are.0))
    ∙ ap (λ (first : Option NumberedEvent). first ∷ events_of_json rest) (line_read event are.0)
    ∙ ap (λ (more : List (Option NumberedEvent)). Some event ∷ more) (json_read events are.1)
