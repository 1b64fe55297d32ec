-- What is printed of an export of which the keys of some entries are known.
use Rattle.std.specs.Prelude.{ℕ, ◌+◌, Bool, Option, Some, None, List, [], ◌∷◌, ◌++◌, length, codes, if◌then◌else◌}
use Rattle.std.specs.Fmt.{decimal}
use Rattle.audit_chain.specs.EventData.{EventData}
use Rattle.audit_chain.specs.EntryForm.{EntryParts}
use Rattle.audit_verify.specs.declared.accepted.Accepted.{Accepted}
use Rattle.audit_disclosure.specs.declared.choice.Choice.{Choice}
use Rattle.audit_disclosure.specs.declared.disclosure.DisclosedKey.{DisclosedKey}
use Rattle.audit_disclosure.specs.declared.disclosure.Start.{Start}
use Rattle.audit_disclosure.specs.Choosing.{is_chosen}
use Rattle.audit_disclosure.specs.LinkReading.{end_of_entries}
use Rattle.audit_disclosure.specs.ShownEntries.{key_at, shown_event}
use Rattle.audit_cli_offline.specs.declared.report_form.ReportForm.{ReportForm}
use Rattle.audit_cli_offline.specs.declared.report_form.ReportForm.TheVariants.{Events}
use Rattle.audit_cli_offline.specs.ReportLines.{event_text, state_word}
use Rattle.audit_cli_disclosure.specs.SealedLines.{sealed_text}

-- what is printed of an entry: the event that it shows, as an event of a verified export, or that it is sealed
abbrev pub shown_text : ReportForm → ℕ → EntryParts → Option EventData → List ℕ
shown_text form index parts (Some event) = event_text form index event
shown_text form index parts None = sealed_text form index parts.kind (length parts.cipher)

-- what is printed of entries with the indices from this one on: under its key an entry shows its event
unfoldable pub shown_entry_lines : ReportForm → List DisclosedKey → ℕ → List EntryParts → List ℕ
shown_entry_lines form keys index [] = []
shown_entry_lines form keys index (parts ∷ entries) =
    shown_text form index parts (shown_event (key_at keys index) parts)
    ++ shown_entry_lines form keys (index + 1) entries

-- the number of all entries, and whether the last one closes the log
abbrev pub matched_line : ℕ → Bool → List ℕ
matched_line count closed = codes "matched " ++ decimal count ++ codes " " ++ state_word closed ++ codes "\n"

-- what follows the entries: that line, or nothing
abbrev pub last_matched : ReportForm → Accepted → List ℕ
last_matched Events end = matched_line end.count end.closed
last_matched _ end = []

-- the message after them: that line, if the report has none
abbrev pub matched_message : ReportForm → Accepted → List ℕ
matched_message Events end = []
matched_message _ end = codes "audit: " ++ matched_line end.count end.closed

-- what is printed of the entries after a start, and what follows them
unfoldable pub shown_report : ReportForm → Start → List DisclosedKey → List EntryParts → List ℕ
shown_report form start keys entries =
    shown_entry_lines form keys start.tree.count entries ++ last_matched form (end_of_entries start entries)

-- what is to be printed of an event, which is chosen or not
abbrev pub chosen_text : ReportForm → Choice → ℕ → EventData → List ℕ
chosen_text form choice index event =
    if is_chosen choice index event.kind then event_text form index event
    else sealed_text form index event.kind (length event.payload)

-- of events with the indices from this one on
unfoldable pub chosen_lines : ReportForm → Choice → ℕ → List EventData → List ℕ
chosen_lines form choice index [] = []
chosen_lines form choice index (event ∷ events) =
    chosen_text form choice index event ++ chosen_lines form choice (index + 1) events
