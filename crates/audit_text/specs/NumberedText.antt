-- Events as numbered lines of text, and read back.
use Rattle.std.specs.Prelude.{ℕ, ◌==◌, Bool, Option, Some, List, ◌∷◌, ◌++◌, map}
use Rattle.std.specs.List.{before_first, after_first}
use Rattle.std.specs.Fmt.{decimal}
use Rattle.audit_text.specs.Lines.{lines_of}
use Rattle.audit_text.specs.Number.{number_in_text}
use Rattle.audit_text.specs.PrintedText.{text_line, unescaped}
use Rattle.audit_text.specs.NumberedEvent.{NumberedEvent, event_of_fields}

-- the byte between the fields of a line
abbrev pub tab : ℕ
tab = 9

-- index and kind in decimal, and the payload as a line of text, with a tab between them
unfoldable pub numbered_text : NumberedEvent → List ℕ
numbered_text event = decimal event.index ++ tab ∷ (decimal event.kind ++ tab ∷ text_line event.payload)

abbrev pub is_tab : ℕ → Bool
is_tab byte = byte == tab

-- the event of a line: the numbers before its first two tabs, and the payload after them
abbrev pub event_of_numbered : List ℕ → Option NumberedEvent
event_of_numbered line =
    let rest = after_first is_tab line in
    event_of_fields (number_in_text (before_first is_tab line)) (number_in_text (before_first is_tab rest))
    (Some (unescaped (after_first is_tab rest)))

-- the events whose lines were printed
abbrev pub events_of_numbered : List ℕ → List (Option NumberedEvent)
events_of_numbered printed = map event_of_numbered (lines_of printed)
