-- The bytes of an input that is read in pieces.
use Rattle.std.specs.Io.KnownBytes.{Consumes, IsAtEnd, prepend_known}
use Rattle.std.proofs.Common.{◌≡◌, ◌∙◌, ℕ, Option, Some, None, List, [], ◌++◌, sym, subst, ap}
use Rattle.audit_serve_sockets.specs.Input.{TakesByte}
use Rattle.audit_serve_sockets.specs.PieceInput.{TakesAtHand}

-- the next piece was read, and its first byte taken
taken_of_next : (before after : Option (List ℕ)) (old piece new : List ℕ) (byte : Option ℕ) → old ≡ [] → Consumes before after piece → (piece ≡ [] → IsAtEnd after) → TakesAtHand piece new byte → TakesByte (prepend_known old before) (prepend_known new after) byte
taken_of_next None after old piece new byte none read end taken = tt
taken_of_next (Some xs) None old piece new byte none read end taken = absurd read
taken_of_next (Some xs) (Some ys) old piece new None none read end (empty, left) = let at_end : ys ≡ [] = end empty in
    (ap (λ (l : List ℕ). l ++ xs) none ∙ read ∙ ap (λ (l : List ℕ). l ++ ys) empty ∙ at_end, ap (λ (l : List ℕ). l ++ ys) left ∙ at_end)
taken_of_next (Some xs) (Some ys) old piece new (Some byte) none read end is = ap (λ (l : List ℕ). l ++ xs) none ∙ read ∙ ap (λ (l : List ℕ). l ++ ys) is

pub taken_by_next : (was before after now : Option (List ℕ)) (old piece new : List ℕ) (byte : Option ℕ) → before ≡ was → now ≡ after → old ≡ [] → Consumes before after piece → (piece ≡ [] → IsAtEnd after) → TakesAtHand piece new byte → TakesByte (prepend_known old was) (prepend_known new now) byte
taken_by_next was before after now old piece new byte first last none read end taken =
    subst (λ (known : Option (List ℕ)). TakesByte (prepend_known old known) (prepend_known new now) byte) first
    (subst (λ (known : Option (List ℕ)). TakesByte (prepend_known old before) (prepend_known new known) byte) (sym last) (taken_of_next before after old piece new byte none read end taken))
