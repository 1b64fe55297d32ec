-- One entry alone, as it is read.
use Rattle.std.proofs.Common.{◌≡◌, ℕ, List, [], append-nil, sym, ◌∙◌}
use Rattle.audit_chain.specs.EntryForm.{EntryParts, BeginsWithEntry, bytes_of_parts}
use Rattle.audit_chain.proofs.Reading.{parts_of_entry}
use Rattle.audit_link.specs.OpenedEntry.{IsEntryOf}

-- one entry alone is what is read at the start
pub begins_with : (bytes : List ℕ) (parts : EntryParts) → IsEntryOf bytes parts → BeginsWithEntry bytes parts
begins_with bytes parts is = record { parts_fit = is.0; rest = []; split = is.1 ∙ sym (append-nil (bytes_of_parts parts)) }

-- and nothing else is
pub read_alone : (bytes : List ℕ) (read parts : EntryParts) → BeginsWithEntry bytes read → IsEntryOf bytes parts → read ≡ parts
read_alone bytes read parts begins is = sym (parts_of_entry bytes read begins) ∙ parts_of_entry bytes parts (begins_with bytes parts is)

-- bytes are one entry alone in one way
pub one_alone : (bytes : List ℕ) (one other : EntryParts) → IsEntryOf bytes one → IsEntryOf bytes other → one ≡ other
one_alone bytes one other first second = read_alone bytes one other (begins_with bytes one first) second
