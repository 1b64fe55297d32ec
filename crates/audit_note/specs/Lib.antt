pub mod CommitmentWord
pub mod NoteText
