-- Lines that are written, and flushed.
use Rattle.std.proofs.Common.{◌∙◌, ℕ, Option, Some, None, List, [], sym, append-nil}
use Rattle.std.specs.Io.KnownBytes.{Appends, Keeps}
use Rattle.audit_text.specs.Writing.{WritesInPart}

pub appends_kept : (old now new : Option (List ℕ)) (text : List ℕ) → Appends old now text → Keeps now new → Appends old new text
appends_kept None now new text appended kept = tt
appends_kept (Some bytes) None new text appended kept = absurd appended
appends_kept (Some bytes) (Some held) None text appended kept = absurd kept
appends_kept (Some bytes) (Some held) (Some last) text appended kept = kept ∙ appended

-- all of the text is a part of it
pub whole_part : (old new : Option (List ℕ)) (text : List ℕ) → Appends old new text → WritesInPart old new text
whole_part old new text appended = record { written = text; rest = []; split = sym (append-nil text); appended = appended }
