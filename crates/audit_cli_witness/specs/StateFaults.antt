-- Which lines a look refuses, and why the file of a witness can't be read or added to.
use Rattle.std.specs.Prelude.{◌≡◌, ◌⊎◌, ℕ, Bool, true, Option, None, IfSome, List, [], ◌∷◌, ◌++◌}
use Rattle.std.specs.Prelude.{◌+◌, ◌-◌, ◌<◌, ◌≤◌, ◌^◌, ◌==◌, if◌then◌else◌, take, drop, length}
use Rattle.std.specs.List.{after_first, count_by}
use Rattle.audit_text.specs.Lines.{lines_of, is_line_feed}
use Rattle.audit_text.specs.declared.fault.LinesError.{LinesError}
use Rattle.audit_text.specs.declared.fault.LinesError.TheVariants.{Memory}
use Rattle.audit_proof.specs.declared.commitment.Commitment.{Commitment}
use Rattle.audit_wire_ask.specs.Keeping.{last_kept}
use Rattle.audit_cli_base.specs.declared.fault.CommandError.TheVariants.{File, Lines}
use Rattle.audit_cli_offline.specs.CommitmentWord.{commitment_in_word}
use Rattle.audit_cli_connection.specs.Faults.{no_memory}
use Rattle.audit_cli_connection.specs.declared.fault.RemoteError.{RemoteError}
use Rattle.audit_cli_connection.specs.declared.fault.RemoteError.TheVariants.{Command, BadStateLine}
use Rattle.audit_cli_witness.specs.State.{AreLinesOf, IsTorn, lacks_feed, kept_in, line_after}
use Rattle.audit_cli_witness.specs.declared.state_file.TheConstants.{TAIL_LEN}

-- The line with this number is the first of a text that isn't a commitment's. A last line without a line feed isn't
-- bad if further bytes make it one: it was cut off.
pub record IsBadStateLine (text : List ℕ) (number : ℕ) : Type 0 where
  pub before : List (List ℕ)
  pub kept : List Commitment
  pub line : List ℕ
  pub after : List (List ℕ)
  pub lines : lines_of text ≡ before ++ line ∷ after
  pub read : AreLinesOf before kept
  pub number_is : number ≡ length before + 1
  pub other : commitment_in_word line ≡ None
  pub uncut : after ≡ [] → lacks_feed text ≡ true → IsTorn line → ⊥

-- an error of a text's lines names the first bad one, or memory was refused
abbrev pub HasLineCause : List ℕ → RemoteError → Type 0
HasLineCause text fault =
    (fault ≡ no_memory) ⊎ ((line : ℕ) × (fault ≡ BadStateLine line) × IsBadStateLine text line)

-- where the end of a file begins that a look reads; it is 0 if all of the file is read
abbrev pub end_start : List ℕ → ℕ
end_start file = length file - TAIL_LEN

-- The lines that a look judges: those of the whole file, or, of a long one, those after the first line feed that is read.
abbrev pub judged_text : List ℕ → List ℕ
judged_text file =
    if end_start file == 0 then file else after_first is_line_feed (drop (end_start file) file)

abbrev pub line_feeds : List ℕ → ℕ
line_feeds bytes = count_by is_line_feed bytes

-- the first bad line of those that are judged, by its number in the file
abbrev pub IsFirstBadLine : List ℕ → ℕ → Type 0
IsFirstBadLine file number = (line : ℕ) × IsBadStateLine (judged_text file) line
    × (number ≡ line_feeds (take (length file - length (judged_text file)) file) + line)

-- No judged line of a long file is a commitment's, and none is bad: this is the line in which what is read begins.
pub record IsLongStateLine (file : List ℕ) (number : ℕ) : Type 0 where
  pub long : 0 < end_start file
  pub none : kept_in (judged_text file) ≡ []
  pub no_other : (line : ℕ) → IsBadStateLine (judged_text file) line → ⊥
  pub number_is : number ≡ line_feeds (take (end_start file) file) + 1

-- a look by the file ends with the error for the line with this number
abbrev pub IsRefusedLine : List ℕ → ℕ → Type 0
IsRefusedLine file number = IsFirstBadLine file number ⊎ IsLongStateLine file number

-- a look goes on by the file
abbrev pub HasNoBadLine : List ℕ → Type 0
HasNoBadLine file = (number : ℕ) → IsRefusedLine file number → ⊥

-- an error of a file
abbrev pub IsFileFault : RemoteError → Type 0
IsFileFault fault = (fault ≡ Command File) ⊎ ((cause : LinesError) × (fault ≡ Command (Lines cause)))

-- an error of the file has a cause: a call failed, as `Failed` says, or memory was refused
abbrev pub HasStateCause : Type 0 → RemoteError → Type 0
HasStateCause Failed fault =
    (Failed × IsFileFault fault) ⊎ ((fault ≡ no_memory) ⊎ (fault ≡ Command (Lines Memory)))

-- so has one of reading it, or it names the line that is refused
abbrev pub HasReadCause : Type 0 → Option (List ℕ) → RemoteError → Type 0
HasReadCause Failed known fault = HasStateCause Failed fault
    ⊎ ((line : ℕ) × (fault ≡ BadStateLine line) × IfSome known (λ file. IsRefusedLine file line))

-- so has one of finding the newest commitment, or there is none
abbrev pub HasNewestCause : Type 0 → Option (List ℕ) → RemoteError → Type 0
HasNewestCause Failed known fault = HasReadCause Failed known fault
    ⊎ ((fault ≡ BadStateLine 1) × IfSome known (λ file. last_kept (kept_in file) ≡ None))

-- so has one of adding a line, or with it the file would have 2^64 bytes
abbrev pub HasAddCause : Type 0 → ℕ → Bool → Commitment → RemoteError → Type 0
HasAddCause Failed end lacks seen fault = HasStateCause Failed fault
    ⊎ ((fault ≡ Command File) × (2 ^ 64 ≤ end + length (line_after lacks seen)))
