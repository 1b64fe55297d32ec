-- Words of a command line that give a note, or name a file with one.
use Rattle.std.specs.Prelude.{◌≡◌, ◌⊎◌, ℕ, nat_eq, false, true, Option, Some, None, List, drop, codes}
use Rattle.std.specs.Prelude.{if◌then◌else◌, IfSome}
use Rattle.std.specs.List.{starts_with}
use Rattle.std.specs.Io.KnownBytes.{Appends, Keeps}
use Rattle.audit_disk.specs.FileFacts.{FileFacts}
use Rattle.audit_text.specs.Writing.{WritesInPart}
use Rattle.audit_text.specs.declared.fault.LinesError.TheVariants.{Read, Write, Memory}
use Rattle.audit_proof.specs.declared.commitment.Commitment.{Commitment}
use Rattle.audit_note.specs.CommitmentWord.{commitment_in_word}
use Rattle.audit_note.specs.NoteText.{is_log_name, note_text, SpellsNote, IsNoNote}
use Rattle.audit_cli_note.specs.declared.fault.NoteError.{NoteError}
use Rattle.audit_cli_note.specs.declared.fault.NoteError.TheVariants.{NoNote, File, Lines}

-- the words are a name and a commitment, and their note was written
pub record WritesNote (name word : List ℕ) (old new : Option (List ℕ)) : Type 0 where
  pub commitment : Commitment
  pub name_is : is_log_name name ≡ true
  pub word_is : commitment_in_word word ≡ Some commitment
  pub written : Appends old new (note_text name commitment)

-- why no note was written: nothing was if a word is wrong or memory was refused, else part of the text
abbrev pub IsNoteUnwritten : List ℕ → List ℕ → NoteError → Option (List ℕ) → Option (List ℕ) → Type 0
IsNoteUnwritten name word NoNote old new =
    ((is_log_name name ≡ false) ⊎ (commitment_in_word word ≡ None)) × Keeps old new
IsNoteUnwritten name word File old new = ⊥
IsNoteUnwritten name word (Lines cause) old new = ((cause ≡ Memory) × Keeps old new)
    ⊎ ((cause ≡ Write) × (commitment : Commitment) × (commitment_in_word word ≡ Some commitment)
    × WritesInPart old new (note_text name commitment))

-- what follows a word's first byte, if that is the sign for a file
abbrev pub path_after_sign : List ℕ → Option (List ℕ)
path_after_sign word = if starts_with nat_eq word (codes "@") then Some (drop 1 word) else None

-- this text is a note with this commitment
pub record IsNoteTo (text : List ℕ) (commitment : Commitment) : Type 0 where
  pub name : List ℕ
  pub spells : SpellsNote text name commitment

module _ {F : Type 0} (facts : F → FileFacts) (remaining : F → Option (List ℕ)) where
  -- a file that was opened at this path, to read, has a note, and this word is its commitment
  pub record IsNoteAt (path word : List ℕ) : Type 0 where
    pub file : F
    pub commitment : Commitment
    pub opened : (facts file).opened_to_read path
    pub note : IfSome (remaining file) (λ text. IsNoteTo text commitment)
    pub word_is : commitment_in_word word ≡ Some commitment

-- Why no commitment was read: the text is no note, or reading failed, or memory was refused.
abbrev pub IsNoteFileFault : Option (List ℕ) → NoteError → Type 0
IsNoteFileFault known NoNote = IfSome known IsNoNote
IsNoteFileFault known File = ⊥
IsNoteFileFault known (Lines cause) = (cause ≡ Read) ⊎ (cause ≡ Memory)

-- Why no commitment was read from a path: it couldn't be opened; what was opened there, to read, is no note; reading failed;
-- or memory was refused.
abbrev pub IsNoteAtFault : {F : Type 0} → (F → FileFacts) → (F → Option (List ℕ)) → Type 0 → List ℕ → NoteError → Type 0
IsNoteAtFault {F = F} facts remaining failed path NoNote = (file : F) × ((facts file).opened_to_read path)
    × IfSome (remaining file) IsNoNote
IsNoteAtFault facts remaining failed path File = failed
IsNoteAtFault facts remaining failed path (Lines cause) = (cause ≡ Read) ⊎ (cause ≡ Memory)
