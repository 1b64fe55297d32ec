-- Calls one after another of an outlet that prints events as lines, and keeps a bookmark in a file.
use Rattle.std.specs.Io.KnownBytes.{Appends}
use Rattle.std.proofs.Common.{ℕ, ◌+◌, Option, List, [], ◌∷◌, ◌++◌, length, refl, sym, ap, ◌∙◌, subst, append-nil}
use Rattle.std.proofs.KnownBytes.{Appends-nil, Appends-trans}
use Rattle.audit_text.specs.Writing.{WritesInPart}
use Rattle.audit_cli_offline.specs.Printing.{PrintingData}
use Rattle.audit_cli_offline.specs.ReportLines.{event_lines}
use Rattle.audit_wire_read.specs.Outlet.{a_printing, OutletModel}
use Rattle.audit_cli_read.specs.declared.event_outlet.EventOutlet.{EventOutlet}
use Rattle.audit_cli_read.specs.EventCalls.{lines_of_calls, DidOutlet, TriedOutlet}
use Rattle.audit_cli_read.specs.EventLaws.{both_lines, events_more, file_stays, kept_more, kept_none, lines_more, part_more}

-- how contracts see such an outlet
abbrev pub event_calls : {K W : Type 0} → (K → Option (List ℕ)) → (W → Option (List ℕ)) → OutletModel (EventOutlet K W)
event_calls bytes contents = record {
  DidCalls = DidOutlet bytes contents;
  Tried = TriedOutlet bytes contents;
  nothing_called = λ outlet. record {
    printing = refl;
    printed = Appends-nil (contents outlet.output);
    kept = kept_none (bytes outlet.file);
  };
  more_called = λ old mid new calls later first second.
      let lines = lines_of_calls old.printing.now calls in
      let same = ap (λ (p : PrintingData). lines_of_calls p later) first.printing in record {
        printing = second.printing ∙ first.printing;
        printed = subst (Appends (contents old.output) (contents new.output))
            (ap (λ rest. lines ++ rest) same ∙ sym (lines_more old.printing.now calls later))
            (Appends-trans (contents old.output) (contents mid.output) (contents new.output) lines
            (lines_of_calls mid.printing.now later) first.printed second.printed);
        kept = kept_more (bytes old.file) (bytes mid.file) (bytes new.file) calls later first.kept second.kept;
      };
  printed_on = λ old mid new first events later before after.
      let lines = event_lines old.printing.now first events in
      let next = first + length events in
      let same = ap (λ (p : PrintingData). lines_of_calls p (a_printing next later ∷ [])) before.printing in record {
        printing = after.printing ∙ before.printing;
        printed = subst (Appends (contents old.output) (contents new.output))
            (ap (λ (rest : List ℕ). lines_of_calls old.printing.now (a_printing first events ∷ []) ++ rest) same
            ∙ both_lines old.printing.now first events later)
            (Appends-trans (contents old.output) (contents mid.output) (contents new.output)
            (lines_of_calls old.printing.now (a_printing first events ∷ []))
            (lines_of_calls mid.printing.now (a_printing next later ∷ [])) before.printed after.printed);
        kept = file_stays (bytes old.file) (bytes mid.file) (bytes new.file) before.kept after.kept;
      };
  tried_on = λ old mid new first events later before tried.
      let lines = event_lines old.printing.now first events in
      let next = first + length events in (
        file_stays (bytes old.file) (bytes mid.file) (bytes new.file) before.kept tried.0,
        subst (WritesInPart (contents old.output) (contents new.output)) (sym (events_more old.printing.now first events later))
            (part_more (contents old.output) (contents mid.output) (contents new.output) lines
            (event_lines old.printing.now next later)
            (subst (Appends (contents old.output) (contents mid.output)) (append-nil lines) before.printed)
            (subst (λ (p : PrintingData). WritesInPart (contents mid.output) (contents new.output) (event_lines p next later)) before.printing tried.1)),
      );
}
