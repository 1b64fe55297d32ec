-- The calls by which a command about disclosures opens files and exports, and makes a file.
use Rattle.std.specs.Prelude.{ℕ, Option, List, [], ◌++◌, Result, Ok, Err}
use Rattle.audit_cli_base.specs.declared.fault.CommandError.{CommandError}

-- what the two readers of an export give, where that is known
pub record ExportBytes : Type 0 where
  pub first : Option (List ℕ)
  pub second : Option (List ℕ)

pub data FileCall : Type 0 where
  -- what is at this path was opened to be read, and gives this, where that is known; or this is why it wasn't opened
  a_file_opening : List ℕ → Result (Option (List ℕ)) CommandError → FileCall
  -- it was looked whether nothing is at this path, and so it is; or this is why nothing can be made there
  a_look_for_nothing : List ℕ → Result (Unit {0}) CommandError → FileCall
  -- the export at this path was opened to be read twice, or this is why it wasn't
  an_export_opening : List ℕ → Result ExportBytes CommandError → FileCall
  -- a file with these bytes was made at this path, where nothing was, for its owner alone; or this is why there is none
  a_file_making : List ℕ → List ℕ → Result (Unit {0}) CommandError → FileCall

-- what a call gave, as it is known
abbrev pub seen_result : {X Y : Type 0} → (X → Y) → Result X CommandError → Result Y CommandError
seen_result seen (Ok given) = Ok (seen given)
seen_result seen (Err fault) = Err fault

-- How contracts see a system with files. Each call establishes that it was made: code that is generic over the system
-- can have that from nothing else.
pub record FilesModel (F : Type 0) : Type 1 where
  -- these calls, and no others, led from one state to another
  pub DidCalls : F → F → List FileCall → Type 0
  pub nothing_called : (files : F) → DidCalls files files []
  pub more_called : (old mid new : F) (calls later : List FileCall) → DidCalls old mid calls
      → DidCalls mid new later → DidCalls old new (calls ++ later)

-- a system of whose calls nothing is known
abbrev pub unknown_files : {F : Type 0} → FilesModel F
unknown_files = record {
  DidCalls = λ old new calls. Unit {0};
  nothing_called = λ files. tt;
  more_called = λ old mid new calls later first second. tt;
}
