-- The lines of a verified export.
use Rattle.std.specs.Prelude.{Bool, true, false, ℕ, ◌+◌, List, [], ◌∷◌, ◌++◌, length, filter, codes}
use Rattle.std.specs.Prelude.{if◌then◌else◌}
use Rattle.std.specs.Fmt.{decimal}
use Rattle.hex.specs.Hex.{encode_lower}
use Rattle.audit_chain.specs.EventData.{EventData}
use Rattle.audit_text.specs.PrintedText.{text_line}
use Rattle.audit_text.specs.NumberedEvent.{NumberedEvent}
use Rattle.audit_text.specs.NumberedText.{numbered_text}
use Rattle.audit_text.specs.JsonLine.{json_line}
use Rattle.audit_cli_offline.specs.declared.report_form.ReportForm.{ReportForm}
use Rattle.audit_cli_offline.specs.declared.report_form.ReportForm.TheVariants.{Events, Text, Numbered, Json}
use Rattle.audit_cli_offline.specs.declared.verified_end.VerifiedEnd.{VerifiedEnd}
use Rattle.audit_cli_offline.specs.Printing.{PrintingData, is_printed}

-- a payload in lowercase hex digits; an empty one as a dash
abbrev pub payload_text : List ℕ → List ℕ
payload_text [] = codes "-"
payload_text (byte ∷ bytes) = encode_lower (byte ∷ bytes)

-- the number of an event, its kind and its payload
unfoldable pub event_line : ℕ → EventData → List ℕ
event_line number event =
    codes "event " ++ decimal number ++ codes " " ++ decimal event.kind ++ codes " " ++ payload_text event.payload
    ++ codes "\n"

-- an event with its index
abbrev pub indexed_event : ℕ → EventData → NumberedEvent
indexed_event index event = record { index = index; kind = event.kind; payload = event.payload }

-- an event in a form: its line, its payload as a line of text, the same with its index and kind, or its object
abbrev pub event_text : ReportForm → ℕ → EventData → List ℕ
event_text Events index event = event_line index event
event_text Text index event = text_line event.payload
event_text Numbered index event = numbered_text (indexed_event index event)
event_text Json index event = json_line (indexed_event index event)

-- what is printed of an event
abbrev pub printed_event : PrintingData → ℕ → EventData → List ℕ
printed_event printing index event =
    if is_printed printing index event.kind then event_text printing.form index event else []

-- what is printed of events with the indices from this one on
unfoldable pub event_lines : PrintingData → ℕ → List EventData → List ℕ
event_lines printing index [] = []
event_lines printing index (event ∷ events) =
    printed_event printing index event ++ event_lines printing (index + 1) events

-- events with the indices from this one on
unfoldable pub numbered_events : ℕ → List EventData → List NumberedEvent
numbered_events index [] = []
numbered_events index (event ∷ events) = indexed_event index event ∷ numbered_events (index + 1) events

-- those that are printed
abbrev pub printed_events : PrintingData → ℕ → List EventData → List NumberedEvent
printed_events printing index events =
    filter (λ (event : NumberedEvent). is_printed printing event.index event.kind) (numbered_events index events)

-- whether the log is closed
abbrev pub state_word : Bool → List ℕ
state_word true = codes "closed"
state_word false = codes "open"

abbrev pub count_line : ℕ → Bool → List ℕ
count_line count closed = codes "verified " ++ decimal count ++ codes " " ++ state_word closed ++ codes "\n"

-- what follows the events: the line of the number of all entries, or nothing
abbrev pub last_line : ReportForm → ℕ → Bool → List ℕ
last_line Events count closed = count_line count closed
last_line _ count closed = []

-- what is printed of events with the indices from this one on, and what follows them
unfoldable pub report_lines : PrintingData → ℕ → List EventData → Bool → List ℕ
report_lines printing first events closed =
    event_lines printing first events ++ last_line printing.form (first + length events) closed

-- the message after a report: the line of the number of all entries, if the report has none
abbrev pub end_message : ReportForm → VerifiedEnd → List ℕ
end_message Events end = []
end_message _ end = codes "audit: " ++ count_line end.count end.closed
