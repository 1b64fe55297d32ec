-- One entry alone, as it is read.
use Rattle.std.proofs.Common.{◌≡◌, ℕ, List, [], ◌∷◌, ◌++◌, Result, Ok, append-nil, length, refl, sym, ap, arith, length-append, ◌∙◌}
use Rattle.audit_chain.specs.EventData.{EventData}
use Rattle.audit_chain.specs.EntryForm.{EntryParts, BeginsWithEntry, bytes_of_parts}
use Rattle.audit_link.specs.OpenedEntry.{IsEntryOf}

-- one entry alone is what is read at the start
pub begins_with : (bytes : List ℕ) (parts : EntryParts) → IsEntryOf bytes parts → BeginsWithEntry bytes parts
begins_with bytes parts is = record { parts_fit = is.0; rest = []; split = is.1 ∙ sym (append-nil (bytes_of_parts parts)) }

ok_same : {E : Type 0} (a b : EntryParts) → (r : Result EntryParts E) → r ≡ Ok a → r ≡ Ok b → a ≡ b
ok_same a b r first second = cc (sym first ∙ second)

pub as_long : {E : Type 0} (bytes : List ℕ) (read parts : EntryParts) (r : Result EntryParts E) → r ≡ Ok read → r ≡ Ok parts → IsEntryOf bytes parts → length (bytes_of_parts read) ≡ length bytes
as_long bytes read parts r found same is =
    ap (λ (p : EntryParts). length (bytes_of_parts p)) (ok_same read parts r found same) ∙ sym (ap length is.1)

no_items : (xs : List ℕ) → length xs ≡ 0 → xs ≡ []
no_items [] none = refl
no_items (x ∷ xs) none = absurd (omega (arith, none))

-- what is read at the start of bytes of its length is the one entry
pub whole : (bytes : List ℕ) (parts : EntryParts) (size : ℕ) → BeginsWithEntry bytes parts → size ≡ length (bytes_of_parts parts) → size ≡ length bytes → IsEntryOf bytes parts
whole bytes parts size begins is long =
    let none : length begins.rest ≡ 0 = omega (arith, is, long, ap length begins.split, length-append (bytes_of_parts parts) begins.rest) in
    (begins.parts_fit, begins.split ∙ ap (λ rest. bytes_of_parts parts ++ rest) (no_items begins.rest none) ∙ append-nil (bytes_of_parts parts))

abbrev pub event_with : ℕ → List ℕ → EventData
event_with kind payload = record { kind = kind; payload = payload }
