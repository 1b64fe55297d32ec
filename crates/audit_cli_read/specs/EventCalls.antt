-- Calls of an outlet that prints events as lines, and keeps a bookmark in a file.
use Rattle.std.specs.Prelude.{◌≡◌, ◌⊎◌, ℕ, Option, Some, List, [], ◌∷◌, ◌++◌, IfSome}
use Rattle.std.specs.Io.KnownBytes.{Appends}
use Rattle.audit_text.specs.Writing.{WritesInPart}
use Rattle.audit_verify.specs.Bookmark.{bookmark_text}
use Rattle.audit_cli_offline.specs.Printing.{PrintingData}
use Rattle.audit_cli_offline.specs.ReportLines.{event_lines}
use Rattle.audit_wire_read.specs.Outlet.{OutletCall, a_keeping, a_printing}
use Rattle.audit_cli_read.specs.declared.event_outlet.EventOutlet.{EventOutlet}

-- the lines that were printed
abbrev pub lines_of_calls : PrintingData → List OutletCall → List ℕ
lines_of_calls printing [] = []
lines_of_calls printing (a_keeping state newest ∷ calls) = lines_of_calls printing calls
lines_of_calls printing (a_printing first events ∷ calls) =
    event_lines printing first events ++ lines_of_calls printing calls

-- the bytes of the file, which had these before
abbrev pub file_after_calls : List ℕ → List OutletCall → List ℕ
file_after_calls bytes [] = bytes
file_after_calls bytes (a_keeping state newest ∷ calls) = file_after_calls (bookmark_text state (Some newest)) calls
file_after_calls bytes (a_printing first events ∷ calls) = file_after_calls bytes calls

module _ {K W : Type 0} (bytes : K → Option (List ℕ)) (contents : W → Option (List ℕ)) where
  -- The lines of the calls were printed, and the file has what was kept last.
  pub record DidOutlet (old new : EventOutlet K W) (calls : List OutletCall) : Type 0 where
    pub printing : new.printing.now ≡ old.printing.now
    pub printed : Appends (contents old.output) (contents new.output) (lines_of_calls old.printing.now calls)
    pub kept : IfSome (bytes old.file) (λ before. bytes new.file ≡ Some (file_after_calls before calls))

  -- The file has what it had or what was to be kept, and nothing was printed; or a part of the lines was.
  abbrev pub TriedOutlet : EventOutlet K W → EventOutlet K W → OutletCall → Type 0
  TriedOutlet old new (a_keeping state newest) = (contents new.output ≡ contents old.output)
      × IfSome (bytes old.file)
      (λ before. (bytes new.file ≡ Some before) ⊎ (bytes new.file ≡ Some (bookmark_text state (Some newest))))
  TriedOutlet old new (a_printing first events) = IfSome (bytes old.file) (λ before. bytes new.file ≡ Some before)
      × WritesInPart (contents old.output) (contents new.output) (event_lines old.printing.now first events)
