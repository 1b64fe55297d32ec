-- The files that words name, and what they have.
use Rattle.std.specs.Prelude.{◌≡◌, ◌⊎◌, ℕ, Option, List, IfSome}
use Rattle.audit_disk.specs.FileFacts.{FileFacts}
use Rattle.audit_proof.specs.declared.commitment.Commitment.{Commitment}
use Rattle.audit_verify.specs.State.{StateData}
use Rattle.audit_verify.specs.Bookmark.{AreSoundParts, bookmark_text}
use Rattle.audit_cli_base.specs.KeyFile.{IsKeyAt, HasNoKeyAt}
use Rattle.audit_cli_base.specs.declared.fault.CommandError.TheVariants.{Lines}
use Rattle.audit_text.specs.declared.fault.LinesError.{LinesError}
use Rattle.audit_cli_connection.specs.Faults.{no_memory}
use Rattle.audit_cli_connection.specs.declared.fault.RemoteError.{RemoteError}
use Rattle.audit_cli_connection.specs.declared.fault.RemoteError.TheVariants.{Command}
use Rattle.audit_cli_connection.specs.ServerCalls.{NamedFiles}

-- a text that is no bookmark's
abbrev pub IsNoBookmark : List ℕ → Type 0
IsNoBookmark text = (state : StateData) (newest : Option Commitment) → AreSoundParts state newest
    → text ≡ bookmark_text state newest → ⊥

-- the text of a bookmark
abbrev pub IsBookmark : List ℕ → Type 0
IsBookmark text = (state : StateData) × (newest : Option Commitment) × (text ≡ bookmark_text state newest)

-- why the text of a bookmark wasn't read: the file failed, it is too long for an input, or memory was refused
abbrev pub IsReadFailure : RemoteError → Type 0
IsReadFailure fault = ((cause : LinesError) × (fault ≡ Command (Lines cause))) ⊎ (fault ≡ no_memory)

module _ {F : Type 0} (facts : F → FileFacts) (remaining : F → Option (List ℕ)) where
  -- a file that was opened at this path, to read, has a bookmark
  pub record HasBookmarkAt (path : List ℕ) : Type 0 where
    pub file : F
    pub opened : (facts file).opened_to_read path
    pub some : IfSome (remaining file) IsBookmark

  -- a file that was opened at this path, to read, has none
  pub record HasNoBookmarkAt (path : List ℕ) : Type 0 where
    pub file : F
    pub opened : (facts file).opened_to_read path
    pub none : IfSome (remaining file) IsNoBookmark

  -- the facts of a system: `IsNoFile` says that what is at a path isn't a regular file
  abbrev pub files_named : (List ℕ → Type 0) → NamedFiles
  files_named IsNoFile = record {
    is_no_file = IsNoFile;
    has_key = λ path. (key : List ℕ) × IsKeyAt facts remaining path key;
    has_no_key = HasNoKeyAt facts remaining;
    has_bookmark = HasBookmarkAt;
    has_no_bookmark = HasNoBookmarkAt;
  }
