-- The events of a text.
use Rattle.std.proofs.Common.{◌≡◌, ◌≢◌, ℕ, ◌≤◌, ◌==◌, ltb, Result, Ok, Err, List, [], ◌∷◌, map, length, refl, ap, ◌∙◌}
use Rattle.std.specs.List.{AllByRecursion}
use Rattle.std.proofs.lemmas.Bool.{ne_eqb, le-ltb, cond-false}
use Rattle.audit_base.specs.declared.limits.TheConstants.{MAX_PAYLOAD, RESERVED_KIND}
use Rattle.audit_chain.specs.EventData.{EventData}
use Rattle.audit_text.specs.EventLine.{checked_event}
use Rattle.audit_text.specs.declared.fault.LineError.{LineError}
use Rattle.audit_text.specs.declared.fault.LineError.TheVariants.{ReservedKind, PayloadTooLong}
use Rattle.audit_text.specs.declared.line_form.LineForm.TheVariants.{Text}
use Rattle.audit_text.specs.LineEvents.{event_in_line, text_event, AreEventsOf}

short_line : (kind : ℕ) (line : List ℕ) → kind ≢ RESERVED_KIND → length line ≤ MAX_PAYLOAD → checked_event kind line ≡ Ok (text_event kind line)
short_line kind line other short =
    cond-false (kind == RESERVED_KIND) (Err ReservedKind) _ (ne_eqb kind RESERVED_KIND other)
    ∙ cond-false (ltb MAX_PAYLOAD (length line)) (Err PayloadTooLong) _ (le-ltb MAX_PAYLOAD (length line) short)

pub lines_are_events : (kind : ℕ) (lines : List (List ℕ)) → kind ≢ RESERVED_KIND → AllByRecursion (λ (line : List ℕ). length line ≤ MAX_PAYLOAD) lines
    → AreEventsOf (Text kind) lines (map (text_event kind) lines)
lines_are_events kind [] other short = refl
lines_are_events kind (line ∷ lines) other short =
    ap (λ (first : Result EventData LineError). first ∷ map (event_in_line (Text kind)) lines) (short_line kind line other short.0)
    ∙ ap (λ (rest : List (Result EventData LineError)). Ok (text_event kind line) ∷ rest) (lines_are_events kind lines other short.1)
