-- What is printed of an export under the keys of chosen entries.
use Rattle.std.specs.Prelude.{if◌then◌else◌}
use Rattle.std.proofs.Common.{◌≡◌, ◌∙◌, ℕ, ◌+◌, Bool, true, false, Option, Some, None, List, [], ◌∷◌, ◌++◌, length, refl, ap}
use Rattle.audit_chain.specs.EventData.{EventData}
use Rattle.audit_chain.specs.Entry.{link_after}
use Rattle.audit_chain.specs.EntryForm.{EntryParts, sealed_parts}
use Rattle.audit_chain.specs.Key.{next_key}
use Rattle.audit_chain.proofs.Form.{length-cipher_of}
use Rattle.audit_disclosure.specs.declared.choice.Choice.{Choice}
use Rattle.audit_disclosure.specs.declared.disclosure.DisclosedKey.{DisclosedKey}
use Rattle.audit_disclosure.specs.Choosing.{chosen_keys, is_chosen}
use Rattle.audit_disclosure.specs.ShownEntries.{chosen_events, key_at, parts_from, shown_entries, shown_event}
use Rattle.audit_disclosure.proofs.ChosenKeys.{shows_chosen}
use Rattle.audit_cli_offline.specs.declared.report_form.ReportForm.{ReportForm}
use Rattle.audit_cli_offline.specs.ReportLines.{event_text}
use Rattle.audit_cli_disclosure.specs.SealedLines.{sealed_text}
use Rattle.audit_cli_disclosure.specs.ShownReport.{chosen_lines, chosen_text, shown_entry_lines, shown_text}

-- what is printed of entries that show these events
unfoldable lines_with : ReportForm → ℕ → List EntryParts → List (Option EventData) → List ℕ
lines_with form index [] shown = []
lines_with form index (parts ∷ entries) [] = []
lines_with form index (parts ∷ entries) (event ∷ shown) = shown_text form index parts event ++ lines_with form (index + 1) entries shown

lines_are_shown : (form : ReportForm) (keys : List DisclosedKey) (index : ℕ) (entries : List EntryParts) → shown_entry_lines form keys index entries ≡ lines_with form index entries (shown_entries keys index entries)
unfolding shown_entry_lines lines_with
lines_are_shown form keys index [] = refl
lines_are_shown form keys index (parts ∷ entries) = ap (λ rest. shown_text form index parts (shown_event (key_at keys index) parts) ++ rest) (lines_are_shown form keys (index + 1) entries)

text_is : (form : ReportForm) (index : ℕ) (parts : EntryParts) (event : EventData) (chosen : Bool) → parts.kind ≡ event.kind → length parts.cipher ≡ length event.payload
    → shown_text form index parts (if chosen then Some event else None) ≡ (if chosen then event_text form index event else sealed_text form index event.kind (length event.payload))
text_is form index parts event true kind size = refl
text_is form index parts event false kind size = ap (λ k. sealed_text form index k (length parts.cipher)) kind ∙ ap (sealed_text form index event.kind) size

chosen_shown : (form : ReportForm) (choice : Choice) (key last_link : List ℕ) (first : ℕ) (events : List EventData) → lines_with form first (parts_from key last_link events) (chosen_events choice first events) ≡ chosen_lines form choice first events
unfolding lines_with chosen_lines
chosen_shown form choice key last_link first [] = refl
chosen_shown form choice key last_link first (event ∷ events) =
    let parts = sealed_parts key last_link event in
    let later = lines_with form (first + 1) (parts_from (next_key key) (link_after key last_link event) events) (chosen_events choice (first + 1) events) in
    ap (λ line. line ++ later) (text_is form first parts event (is_chosen choice first event.kind) refl (length-cipher_of key event))
    ∙ ap (λ rest. chosen_text form choice first event ++ rest) (chosen_shown form choice (next_key key) (link_after key last_link event) (first + 1) events)

pub prints_chosen : (form : ReportForm) (choice : Choice) (key last_link : List ℕ) (first : ℕ) (events : List EventData)
    → shown_entry_lines form (chosen_keys choice key first events) first (parts_from key last_link events) ≡ chosen_lines form choice first events
prints_chosen form choice key last_link first events =
    lines_are_shown form (chosen_keys choice key first events) first (parts_from key last_link events)
    ∙ ap (lines_with form first (parts_from key last_link events)) (shows_chosen choice key last_link first events)
    ∙ chosen_shown form choice key last_link first events
