-- A commitment as a word, which `audit_note` reads.
pub use Rattle.audit_note.specs.CommitmentWord.{is_colon, commitment_with, commitment_in_word}
