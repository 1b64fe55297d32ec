-- One entry alone.
use Rattle.std.proofs.Common.{◌≡◌, ◌∙◌, ℕ, IsTrue, List, [], ◌∷◌, ◌++◌, Result, Ok, length, length-append, append-nil, sym, ap, arith}
use Rattle.std.specs.Prelude.{nat_eq}
use Rattle.audit_chain.specs.EntryForm.{EntryParts, BeginsWithEntry, bytes_of_parts}
use Rattle.audit_wire_ask.specs.Asking.{IsOneEntry}

no_rest : (front rest : List ℕ) → length (front ++ rest) ≡ length front → front ++ rest ≡ front
no_rest front [] same = append-nil front
no_rest front (byte ∷ rest) same = absurd (omega (arith, same, length-append front (byte ∷ rest)))

-- an entry that bytes begin with is as long as they are
pub alone : (bytes : List ℕ) (parts : EntryParts) → BeginsWithEntry bytes parts → length (bytes_of_parts parts) ≡ length bytes → IsOneEntry bytes
alone bytes parts begins same =
    (parts, begins.parts_fit, begins.split ∙ no_rest (bytes_of_parts parts) begins.rest (sym (ap length begins.split) ∙ sym same))

pub begins_with : (bytes : List ℕ) (one : IsOneEntry bytes) → BeginsWithEntry bytes one.0
begins_with bytes one = record { parts_fit = one.1; rest = []; split = one.2 ∙ sym (append-nil (bytes_of_parts one.0)) }

ok_same : {E : Type 0} (a b : EntryParts) → (r : Result EntryParts E) → r ≡ Ok a → r ≡ Ok b → a ≡ b
ok_same a b r first second = cc (sym first ∙ second)

-- the entry that was read is the one that they are
pub as_long : {E : Type 0} (bytes : List ℕ) (parts : EntryParts) (r : Result EntryParts E) → r ≡ Ok parts → ((other : EntryParts) → BeginsWithEntry bytes other → r ≡ Ok other) → IsOneEntry bytes → length (bytes_of_parts parts) ≡ length bytes
as_long bytes parts r read only one =
    ap (λ (p : EntryParts). length (bytes_of_parts p)) (ok_same parts one.0 r read (only one.0 (begins_with bytes one))) ∙ sym (ap length one.2)

pub same_number : (a b : ℕ) → IsTrue (nat_eq a b) → a ≡ b
same_number a b is = grind (arith)

pub is_same : (a b : ℕ) → a ≡ b → IsTrue (nat_eq a b)
is_same a b e = grind (arith)
