-- Laws of the calls of an outlet for events.
use Rattle.std.specs.Prelude.{IfSome}
use Rattle.std.specs.Io.KnownBytes.{Appends}
use Rattle.std.proofs.Common.{◌≡◌, ℕ, ◌+◌, Option, Some, None, List, [], ◌∷◌, ◌++◌, length, refl, sym, ap, ◌∙◌, subst, arith, append_assoc}
use Rattle.std.proofs.KnownBytes.{Appends-trans}
use Rattle.audit_chain.specs.EventData.{EventData}
use Rattle.audit_text.specs.Writing.{WritesInPart}
use Rattle.audit_cli_offline.specs.Printing.{PrintingData}
use Rattle.audit_cli_offline.specs.ReportLines.{event_lines, printed_event}
use Rattle.audit_verify.specs.Bookmark.{bookmark_text}
use Rattle.audit_wire_read.specs.Outlet.{OutletCall, a_keeping, a_printing}
use Rattle.audit_cli_read.specs.EventCalls.{lines_of_calls, file_after_calls}

pub lines_more : (printing : PrintingData) (calls later : List OutletCall)
    → lines_of_calls printing (calls ++ later) ≡ lines_of_calls printing calls ++ lines_of_calls printing later
lines_more printing [] later = refl
lines_more printing (a_keeping state newest ∷ calls) later = lines_more printing calls later
lines_more printing (a_printing first events ∷ calls) later =
    let lines = event_lines printing first events in
    ap (λ rest. lines ++ rest) (lines_more printing calls later)
    ∙ sym (append_assoc lines (lines_of_calls printing calls) (lines_of_calls printing later))

pub file_more : (bytes : List ℕ) (calls later : List OutletCall)
    → file_after_calls bytes (calls ++ later) ≡ file_after_calls (file_after_calls bytes calls) later
file_more bytes [] later = refl
file_more bytes (a_keeping state newest ∷ calls) later = file_more (bookmark_text state (Some newest)) calls later
file_more bytes (a_printing first events ∷ calls) later = file_more bytes calls later

pub kept_more : (old mid new : Option (List ℕ)) (calls later : List OutletCall)
    → IfSome old (λ before. mid ≡ Some (file_after_calls before calls))
    → IfSome mid (λ before. new ≡ Some (file_after_calls before later))
    → IfSome old (λ before. new ≡ Some (file_after_calls before (calls ++ later)))
kept_more None mid new calls later first second = tt
kept_more (Some before) mid new calls later first second =
    subst (λ (m : Option (List ℕ)). IfSome m (λ held. new ≡ Some (file_after_calls held later))) first second
    ∙ ap (λ (b : List ℕ). Some b) (sym (file_more before calls later))

pub kept_none : (known : Option (List ℕ)) → IfSome known (λ before. known ≡ Some before)
kept_none None = tt
kept_none (Some before) = refl

pub file_stays : (old mid new : Option (List ℕ)) → IfSome old (λ before. mid ≡ Some before)
    → IfSome mid (λ before. new ≡ Some before) → IfSome old (λ before. new ≡ Some before)
file_stays None mid new first second = tt
file_stays (Some before) mid new first second =
    subst (λ (m : Option (List ℕ)). IfSome m (λ held. new ≡ Some held)) first second

pub events_more : (printing : PrintingData) (first : ℕ) (events later : List EventData)
    → event_lines printing first (events ++ later)
    ≡ event_lines printing first events ++ event_lines printing (first + length events) later
unfolding event_lines
events_more printing first [] later = ap (λ (n : ℕ). event_lines printing n later) (omega arith)
events_more printing first (event ∷ events) later =
    let line = printed_event printing first event in
    ap (λ (rest : List ℕ). line ++ rest) (events_more printing (first + 1) events later
    ∙ ap (λ (n : ℕ). event_lines printing (first + 1) events ++ event_lines printing n later) (omega arith))
    ∙ sym (append_assoc line (event_lines printing (first + 1) events)
    (event_lines printing (first + length (event ∷ events)) later))

pub both_lines : (printing : PrintingData) (first : ℕ) (events later : List EventData)
    → lines_of_calls printing (a_printing first events ∷ [])
    ++ lines_of_calls printing (a_printing (first + length events) later ∷ [])
    ≡ lines_of_calls printing (a_printing first (events ++ later) ∷ [])
both_lines printing first events later =
    let lines = event_lines printing first events in
    let more = event_lines printing (first + length events) later in
    append_assoc lines [] (more ++ []) ∙ sym (append_assoc lines more [])
    ∙ ap (λ (l : List ℕ). l ++ []) (sym (events_more printing first events later))

pub part_more : (old mid new : Option (List ℕ)) (front text : List ℕ) → Appends old mid front
    → WritesInPart mid new text → WritesInPart old new (front ++ text)
part_more old mid new front text appended part = record {
  written = front ++ part.written;
  rest = part.rest;
  split = ap (λ (t : List ℕ). front ++ t) part.split ∙ sym (append_assoc front part.written part.rest);
  appended = Appends-trans old mid new front part.written appended part.appended;
}
