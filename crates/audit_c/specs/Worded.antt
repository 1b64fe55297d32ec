-- Commitments that words and notes spell.
use Rattle.std.specs.Prelude.{◌≡◌, ◌⊎◌, ℕ, Option, None, Some, List, length}
use Rattle.audit_proof.specs.declared.commitment.Commitment.{Commitment}
use Rattle.audit_note.specs.NoteText.{SpellsNote, IsNoNote}
use Rattle.audit_c.specs.declared.answers.TheConstants.{OK, MALFORMED}
use Rattle.audit_c.specs.declared.commitment.GivenCommitment.{GivenCommitment}
use Rattle.audit_c.specs.declared.words.GivenNote.{GivenNote}
use Rattle.audit_c.specs.Given.{given}

-- the commitment of a word is read if the word spells one
abbrev pub IsWordRead : Option Commitment → GivenCommitment → GivenCommitment → ℕ → Type 0
IsWordRead None before after answer = (answer ≡ MALFORMED) × (after ≡ before)
IsWordRead (Some spelt) before after answer = (answer ≡ OK) × (given after ≡ spelt)

-- The text is the note of the log with a name of this length, and of this commitment.
pub record IsNoteOf (text : List ℕ) (note : GivenNote) : Type 0 where
  pub name : List ℕ
  pub size : note.name_size ≡ length name
  pub spells : SpellsNote text name (given note.commitment)

abbrev pub IsNoteRead : List ℕ → GivenNote → GivenNote → ℕ → Type 0
IsNoteRead text before after answer =
    ((answer ≡ OK) × IsNoteOf text after) ⊎ (((answer ≡ MALFORMED) × (after ≡ before)) × IsNoNote text)
