-- What a door notes of clients and of connections.
use Rattle.std.specs.Prelude.{List, [], ◌++◌}
use Rattle.audit_serve_ready.specs.declared.departure.Departure.{Departure}

pub data NoteCall : Type 0 where
  -- a client has left, or a connection was turned away
  a_note : Departure → NoteCall
  -- a connection that had sent nothing was dropped, since the system gave no further descriptor
  a_silent_note : NoteCall

-- How contracts see a journal.
pub record NoteModel (J : Type 0) : Type 1 where
  -- these calls led from one state to another
  pub DidNote : J → J → List NoteCall → Type 0
  pub nothing_noted : (journal : J) → DidNote journal journal []
  pub more_noted : (old mid new : J) (notes later : List NoteCall) → DidNote old mid notes → DidNote mid new later
      → DidNote old new (notes ++ later)

-- nothing is known of the notes
abbrev pub unknown_notes : {J : Type 0} → NoteModel J
unknown_notes = record {
  DidNote = λ old new notes. Unit {0};
  nothing_noted = λ journal. tt;
  more_noted = λ old mid new notes later first second. tt;
}
