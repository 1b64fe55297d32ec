pub mod NoteWords
