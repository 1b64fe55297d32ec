-- Events that were printed as numbered lines of text are read back.
use Rattle.std.specs.Fmt.{decimal}
use Rattle.std.specs.List.{AllByRecursion, flat_map, before_first, after_first}
use Rattle.std.proofs.Common.{◌≡◌, ◌∙◌, ℕ, ◌<◌, Option, Some, List, [], ◌∷◌, ◌++◌, map, refl, ap, arith, append_assoc}
use Rattle.audit_text.specs.Lines.{lines_of, line_feed}
use Rattle.audit_text.specs.Number.{number_in_text}
use Rattle.audit_text.specs.PrintedText.{escaped_byte, text_line, unescaped}
use Rattle.audit_text.specs.NumberedEvent.{NumberedEvent, IsNumbered, event_of_fields}
use Rattle.audit_text.specs.NumberedText.{tab, is_tab, numbered_text, event_of_numbered, events_of_numbered}
use Rattle.audit_text.proofs.ReadingBack.{payload_line, payload_read, other_first, no_lines}
use Rattle.audit_text.proofs.ReadNumbers.{HasNoFeed, number_within, number_no_feed, number_read, first_field, further_fields}

-- the line without its line feed
abbrev fields_of : NumberedEvent → List ℕ
fields_of event = decimal event.index ++ tab ∷ (decimal event.kind ++ tab ∷ flat_map escaped_byte event.payload)

-- a field before a line that is cut
field_cut : (front bytes line : List ℕ) (lines : List (List ℕ)) → HasNoFeed front → lines_of bytes ≡ line ∷ lines → lines_of (front ++ bytes) ≡ (front ++ line) ∷ lines
field_cut [] bytes line lines none is = is
field_cut (byte ∷ front) bytes line lines none is = other_first byte (front ++ bytes) (front ++ line) lines none.0 (field_cut front bytes line lines none.1 is)

line_of : (event : NumberedEvent) (rest : List ℕ) → IsNumbered event → lines_of (numbered_text event ++ rest) ≡ fields_of event ∷ lines_of rest
unfolding numbered_text
line_of event rest is =
    let text = flat_map escaped_byte event.payload in
    let kinds : event.kind < 18446744073709551616 = omega (arith, is.kind) in
    let inner : lines_of (text_line event.payload ++ rest) ≡ text ∷ lines_of rest =
    ap lines_of (append_assoc text (line_feed ∷ []) rest) ∙ payload_line event.payload rest is.bytes in
    let second : lines_of (decimal event.kind ++ tab ∷ (text_line event.payload ++ rest)) ≡ (decimal event.kind ++ tab ∷ text) ∷ lines_of rest =
    field_cut (decimal event.kind) _ (tab ∷ text) (lines_of rest) (number_no_feed event.kind kinds) (other_first tab _ text (lines_of rest) refl inner) in
    ap lines_of (append_assoc (decimal event.index) (tab ∷ (decimal event.kind ++ tab ∷ text_line event.payload)) rest
    ∙ ap (λ (more : List ℕ). decimal event.index ++ tab ∷ more) (append_assoc (decimal event.kind) (tab ∷ text_line event.payload) rest))
    ∙ field_cut (decimal event.index) _ (tab ∷ (decimal event.kind ++ tab ∷ text)) (lines_of rest) (number_no_feed event.index is.index)
    (other_first tab _ (decimal event.kind ++ tab ∷ text) (lines_of rest) refl second)

fields_read : (event : NumberedEvent) → IsNumbered event → event_of_numbered (fields_of event) ≡ Some event
fields_read event is =
    let text = flat_map escaped_byte event.payload in
    let rest = decimal event.kind ++ tab ∷ text in
    let kinds : event.kind < 18446744073709551616 = omega (arith, is.kind) in
    let front = number_within event.index is.index in
    let middle = number_within event.kind kinds in
    let behind = further_fields (decimal event.index) rest front in
    let last : List ℕ → Option NumberedEvent = λ line.
    event_of_fields (number_in_text (before_first is_tab (fields_of event))) (number_in_text (before_first is_tab line)) (Some (unescaped (after_first is_tab line))) in
    ap last behind
    ∙ ap (λ (digits : List ℕ). event_of_fields (number_in_text digits) (number_in_text (before_first is_tab rest)) (Some (unescaped (after_first is_tab rest)))) (first_field (decimal event.index) rest front)
    ∙ ap (λ (o : Option ℕ). event_of_fields o (number_in_text (before_first is_tab rest)) (Some (unescaped (after_first is_tab rest)))) (number_read event.index is.index)
    ∙ ap (λ (digits : List ℕ). event_of_fields (Some event.index) (number_in_text digits) (Some (unescaped (after_first is_tab rest)))) (first_field (decimal event.kind) text middle)
    ∙ ap (λ (o : Option ℕ). event_of_fields (Some event.index) o (Some (unescaped (after_first is_tab rest)))) (number_read event.kind kinds)
    ∙ ap (λ (bytes : List ℕ). event_of_fields (Some event.index) (Some event.kind) (Some (unescaped bytes))) (further_fields (decimal event.kind) text middle)
    ∙ ap (λ (bytes : List ℕ). event_of_fields (Some event.index) (Some event.kind) (Some bytes)) (payload_read event.payload is.bytes)

pub numbered_read : (events : List NumberedEvent) → AllByRecursion IsNumbered events → events_of_numbered (flat_map numbered_text events) ≡ map (λ event. Some event) events
numbered_read [] are = ap (map event_of_numbered) no_lines
numbered_read (event ∷ events) are =
    ap (map event_of_numbered) (line_of event (flat_map numbered_text events) are.0)
    ∙ ap (λ (first : Option NumberedEvent). first ∷ events_of_numbered (flat_map numbered_text events)) (fields_read event are.0)
    ∙ ap (λ (rest : List (Option NumberedEvent)). Some event ∷ rest) (numbered_read events are.1)
