-- What was said on the messages.
use Rattle.std.specs.Prelude.{ℕ, Option, Some, None, IfSome, List, Result, Ok, Err, OnOk, OnErr}
use Rattle.std.specs.Io.KnownBytes.{Appends}
use Rattle.std.proofs.Common.{inl, inr}
use Rattle.std.proofs.KnownBytes.{Appends-trans}
use Rattle.audit_text.specs.Writing.{WritesInPart}
use Rattle.audit_cli_connection.specs.Messages.{Says, SaysFirst}

-- a line was written, or a part of it and then no more
pub said_or_not : {E : Type 0} (message : Option (List ℕ)) (old new : Option (List ℕ)) (failed : Type 0) (printed : Result (Unit {0}) E) → OnOk printed (IfSome message (Appends old new)) → OnErr printed (IfSome message (WritesInPart old new)) → OnErr printed failed
    → IfSome message (Says old new failed)
said_or_not None old new failed printed whole part broken = tt
said_or_not (Some text) old new failed (Ok done) whole part broken = inl whole
said_or_not (Some text) old new failed (Err error) whole part broken = inr (broken, part)

-- a line was written, and then another text
pub said_first : (message : Option (List ℕ)) (old mid new : Option (List ℕ)) (failed : Type 0) → IfSome message (Appends old mid) → (later : List ℕ) × Appends mid new later → IfSome message (SaysFirst old new failed)
said_first None old mid new failed whole more = tt
said_first (Some text) old mid new failed whole more = inl (more.0, Appends-trans old mid new text more.0 whole more.1)

pub said_in_part : (message : Option (List ℕ)) (old new : Option (List ℕ)) (failed : Type 0) → IfSome message (WritesInPart old new) → failed → IfSome message (SaysFirst old new failed)
said_in_part None old new failed part broken = tt
said_in_part (Some text) old new failed part broken = inr (broken, part)

-- whatever was written, nothing was taken back
pub grown : {E : Type 0} (printed : Result (Unit {0}) E) (old new : Option (List ℕ)) (text : List ℕ) → OnOk printed (Appends old new text) → OnErr printed (WritesInPart old new text) → (later : List ℕ) × Appends old new later
grown (Ok done) old new text whole part = (text, whole)
grown (Err error) old new text whole part = (part.written, part.appended)
