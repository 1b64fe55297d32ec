-- The file of a link.
use Rattle.std.specs.Prelude.{◌≡◌, ◌≢◌, ◌⊎◌, ℕ, ◌<◌, Option, List, length, IfSome}
use Rattle.audit_disk.specs.FileFacts.{FileFacts}
use Rattle.audit_disk.specs.Folder.{folder_of}
use Rattle.audit_link.specs.Links.{LinkData}
use Rattle.audit_link.specs.LinkBytes.{SpellsLink}
use Rattle.audit_store.specs.declared.store_error.StoreError.TheVariants.{Memory}
use Rattle.audit_text.specs.declared.input.TheConstants.{INPUT_LIMIT}
use Rattle.audit_cli_base.specs.declared.fault.CommandError.{CommandError}
use Rattle.audit_cli_base.specs.declared.fault.CommandError.TheVariants.{BadArgument, File, BadProof, Lines, Refused}
use Rattle.audit_cli_rotate.specs.declared.prepared_error.PreparedError.{PreparedError}
use Rattle.audit_cli_rotate.specs.declared.prepared_error.PreparedError.TheVariants.{Command, OtherLink}

-- why no link was read from bytes that may be known: they are too many, or those of none; or reading failed
abbrev pub IsLinkNotIn : Option (List ℕ) → CommandError → Type 0
IsLinkNotIn known BadProof =
    IfSome known (λ bytes. (INPUT_LIMIT < length bytes) ⊎ ((link : LinkData) → SpellsLink bytes link → ⊥))
IsLinkNotIn known (Lines cause) = Unit {0}
IsLinkNotIn known (Refused error) = error ≡ Memory
IsLinkNotIn known _ = ⊥

-- an error of the calls by which files get their names: no wrong argument, and a file fault only if a call failed
abbrev pub IsCallFault : Type 0 → CommandError → Type 0
IsCallFault Failed BadArgument = ⊥
IsCallFault Failed File = Failed
IsCallFault Failed _ = Unit {0}

-- the errors of judging the bytes of a file
abbrev pub IsJudgingFault : PreparedError → Type 0
IsJudgingFault OtherLink = Unit {0}
IsJudgingFault (Command (Lines cause)) = Unit {0}
IsJudgingFault _ = ⊥

module _ {F : Type 0} (facts : F → FileFacts) (remaining : F → Option (List ℕ)) where
  -- a file that was opened at this path, to read, has the bytes of this link
  pub record HasLinkAt (path : List ℕ) (link : LinkData) : Type 0 where
    pub file : F
    pub opened : (facts file).opened_to_read path
    pub spells : IfSome (remaining file) (λ bytes. SpellsLink bytes link)

  -- A file that was opened at this path, to read, has these bytes and no others. Its folder was synced.
  pub record HasBytesAt (Synced : List ℕ → Type 0) (path bytes : List ℕ) : Type 0 where
    pub file : F
    pub opened : (facts file).opened_to_read path
    pub bytes_are : IfSome (remaining file) (λ found. found ≡ bytes)
    pub synced : Synced (folder_of path)

  -- a file that was opened at this path, to read, is too long for a link, or its bytes are those of none
  pub record HasNoLinkAt (path : List ℕ) : Type 0 where
    pub file : F
    pub opened : (facts file).opened_to_read path
    pub none : IfSome (remaining file) (λ bytes.
        (INPUT_LIMIT < length bytes) ⊎ ((link : LinkData) → SpellsLink bytes link → ⊥))

  -- a file that was opened at this path, to read, is too long, or has other bytes than these
  pub record HasOthersAt (path bytes : List ℕ) : Type 0 where
    pub file : F
    pub opened : (facts file).opened_to_read path
    pub others : IfSome (remaining file) (λ found. (INPUT_LIMIT < length found) ⊎ (found ≢ bytes))

  -- Why no link was read: a call of the system failed, as `Failed` says, or the file has none; or it couldn't be read,
  -- or memory was refused.
  abbrev pub IsLinkUnread : Type 0 → List ℕ → CommandError → Type 0
  IsLinkUnread Failed path File = Failed
  IsLinkUnread Failed path BadProof = HasNoLinkAt path
  IsLinkUnread Failed path (Lines cause) = Unit {0}
  IsLinkUnread Failed path (Refused error) = error ≡ Memory
  IsLinkUnread Failed path _ = ⊥

  -- Why a file doesn't have these bytes: it has others, or a call of the system failed by which it was judged. Of the
  -- errors of other commands a file fault needs a call that failed, and none is a wrong argument.
  abbrev pub IsNotKept : Type 0 → List ℕ → List ℕ → PreparedError → Type 0
  IsNotKept Failed path bytes OtherLink = Failed ⊎ HasOthersAt path bytes
  IsNotKept Failed path bytes (Command cause) = IsCallFault Failed cause
  IsNotKept Failed path bytes _ = ⊥
