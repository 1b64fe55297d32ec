-- Reports are read back.
use Rattle.std.specs.Prelude.{◌^◌, ◌≤◌, Some, Option, if◌then◌else◌}
use Rattle.std.proofs.Common.{◌≡◌, Bool, true, false, ℕ, ◌+◌, List, [], ◌∷◌, ◌++◌, length, map, refl, ap, ◌∙◌, arith, append-nil}
use Rattle.std.specs.List.{AllByRecursion, flat_map}
use Rattle.audit_base.specs.Bytes.{AreBytes}
use Rattle.audit_chain.specs.Event.{EventData, IsEvent}
use Rattle.audit_text.specs.PrintedText.{text_line, read_back}
use Rattle.audit_text.specs.NumberedEvent.{NumberedEvent, IsNumbered}
use Rattle.audit_text.specs.NumberedText.{numbered_text, events_of_numbered}
use Rattle.audit_text.specs.JsonLine.{json_line, events_of_json}
use Rattle.audit_text.proofs.ReadingBack.{all_read_back}
use Rattle.audit_cli_offline.specs.declared.report_form.ReportForm.{ReportForm}
use Rattle.audit_cli_offline.specs.declared.report_form.ReportForm.TheVariants.{Text, Numbered, Json}
use Rattle.audit_cli_offline.specs.Printing.{PrintingData, is_printed}
use Rattle.audit_cli_offline.specs.ReportLines.{event_text, event_lines, last_line, report_lines, indexed_event, numbered_events, printed_events}

-- one event, which is printed or not, before others
line_or_none : (line : NumberedEvent → List ℕ) (test : Bool) (event : NumberedEvent) (rest : List NumberedEvent) (text more : List ℕ) → text ≡ line event → more ≡ flat_map line rest
    → (if test then text else []) ++ more ≡ flat_map line (if test then event ∷ rest else rest)
line_or_none line true event rest text more is same = ap (λ t. t ++ more) is ∙ ap (λ m. line event ++ m) same
line_or_none line false event rest text more is same = same

-- the lines are those of the printed events
lines_are : (printing : PrintingData) (line : NumberedEvent → List ℕ) → ((index : ℕ) (event : EventData) → event_text printing.form index event ≡ line (indexed_event index event))
    → (index : ℕ) (events : List EventData) → event_lines printing index events ≡ flat_map line (printed_events printing index events)
unfolding event_lines numbered_events
lines_are printing line is index [] = refl
lines_are printing line is index (event ∷ events) =
    line_or_none line (is_printed printing index event.kind) (indexed_event index event) (printed_events printing (index + 1) events) _ _ (is index event) (lines_are printing line is (index + 1) events)

-- nothing follows them in a form without a last line
report_is_lines : (printing : PrintingData) (line : NumberedEvent → List ℕ) (first : ℕ) (events : List EventData) (closed : Bool) → ((index : ℕ) (event : EventData) → event_text printing.form index event ≡ line (indexed_event index event))
    → last_line printing.form (first + length events) closed ≡ [] → report_lines printing first events closed ≡ flat_map line (printed_events printing first events)
unfolding report_lines
report_is_lines printing line first events closed is none =
    ap (λ last. event_lines printing first events ++ last) none ∙ append-nil (event_lines printing first events) ∙ lines_are printing line is first events

-- ---- what is printed of events

printed_or_none : (test : Bool) (event : NumberedEvent) (rest : List NumberedEvent) → IsNumbered event → AllByRecursion IsNumbered rest → AllByRecursion IsNumbered (if test then event ∷ rest else rest)
printed_or_none true event rest is each = (is, each)
printed_or_none false event rest is each = each

are_numbered : (printing : PrintingData) (index : ℕ) (events : List EventData) → AllByRecursion IsEvent events → index + length events ≤ 2 ^ 64 → AllByRecursion IsNumbered (printed_events printing index events)
unfolding numbered_events
are_numbered printing index [] each few = tt
are_numbered printing index (event ∷ events) each few =
    printed_or_none (is_printed printing index event.kind) (indexed_event index event) (printed_events printing (index + 1) events)
    (record { index = omega (arith, few); kind = each.0.kind; bytes = each.0.bytes }) (are_numbered printing (index + 1) events each.1 (omega (arith, few)))

abbrev payload_of_event : NumberedEvent → List ℕ
payload_of_event event = event.payload

bytes_or_none : (test : Bool) (event : NumberedEvent) (rest : List NumberedEvent) → AreBytes event.payload → AllByRecursion AreBytes (map payload_of_event rest) → AllByRecursion AreBytes (map payload_of_event (if test then event ∷ rest else rest))
bytes_or_none true event rest is each = (is, each)
bytes_or_none false event rest is each = each

are_bytes : (printing : PrintingData) (index : ℕ) (events : List EventData) → AllByRecursion IsEvent events → AllByRecursion AreBytes (map payload_of_event (printed_events printing index events))
unfolding numbered_events
are_bytes printing index [] each = tt
are_bytes printing index (event ∷ events) each =
    bytes_or_none (is_printed printing index event.kind) (indexed_event index event) (printed_events printing (index + 1) events) each.0.bytes (are_bytes printing (index + 1) events each.1)

-- ---- reports

abbrev payload_line : NumberedEvent → List ℕ
payload_line event = text_line event.payload

payload_lines : (events : List NumberedEvent) → flat_map payload_line events ≡ flat_map text_line (map payload_of_event events)
payload_lines [] = refl
payload_lines (event ∷ events) = ap (λ rest. text_line event.payload ++ rest) (payload_lines events)

pub text_read : (printing : PrintingData) (first : ℕ) (events : List EventData) (closed : Bool) → printing.form ≡ Text → AllByRecursion IsEvent events
    → read_back (report_lines printing first events closed) ≡ map (λ (event : NumberedEvent). event.payload) (printed_events printing first events)
text_read printing first events closed is each =
    ap read_back (report_is_lines printing payload_line first events closed (λ index event. ap (λ (form : ReportForm). event_text form index event) is)
    (ap (λ (form : ReportForm). last_line form (first + length events) closed) is) ∙ payload_lines (printed_events printing first events))
    ∙ all_read_back (map payload_of_event (printed_events printing first events)) (are_bytes printing first events each)

-- the law of lines with these texts
abbrev AreReadBack : (List ℕ → List (Option NumberedEvent)) → (NumberedEvent → List ℕ) → Type 0
AreReadBack read line = (events : List NumberedEvent) → AllByRecursion IsNumbered events → read (flat_map line events) ≡ map (λ event. Some event) events

pub numbered_report_read : AreReadBack events_of_numbered numbered_text → (printing : PrintingData) (first : ℕ) (events : List EventData) (closed : Bool) → printing.form ≡ Numbered → AllByRecursion IsEvent events → first + length events ≤ 2 ^ 64
    → events_of_numbered (report_lines printing first events closed) ≡ map (λ event. Some event) (printed_events printing first events)
numbered_report_read law printing first events closed is each few =
    ap events_of_numbered (report_is_lines printing numbered_text first events closed (λ index event. ap (λ (form : ReportForm). event_text form index event) is)
    (ap (λ (form : ReportForm). last_line form (first + length events) closed) is))
    ∙ law (printed_events printing first events) (are_numbered printing first events each few)

pub json_report_read : AreReadBack events_of_json json_line → (printing : PrintingData) (first : ℕ) (events : List EventData) (closed : Bool) → printing.form ≡ Json → AllByRecursion IsEvent events → first + length events ≤ 2 ^ 64
    → events_of_json (report_lines printing first events closed) ≡ map (λ event. Some event) (printed_events printing first events)
json_report_read law printing first events closed is each few =
    ap events_of_json (report_is_lines printing json_line first events closed (λ index event. ap (λ (form : ReportForm). event_text form index event) is)
    (ap (λ (form : ReportForm). last_line form (first + length events) closed) is))
    ∙ law (printed_events printing first events) (are_numbered printing first events each few)
