-- An input that is read in pieces.
use Rattle.std.specs.Prelude.{◌≡◌, ℕ, Option, Some, None, List, [], ◌∷◌, slice_range}
use Rattle.std.specs.Io.KnownBytes.{prepend_known}
use Rattle.audit_serve_sockets.specs.declared.piece_input.PieceInput.{PieceInput}

-- the bytes that were read and aren't taken yet
abbrev pub bytes_at_hand : {R : Type 0} → PieceInput R → List ℕ
bytes_at_hand pieces = slice_range pieces.piece pieces.next pieces.end

-- all bytes that are left, where those of the input are known
abbrev pub piece_remaining : {R : Type 0} → (R → Option (List ℕ)) → PieceInput R → Option (List ℕ)
piece_remaining remaining pieces = prepend_known (bytes_at_hand pieces) (remaining pieces.input.now)

-- the first of the bytes at hand was taken, or there are none
abbrev pub TakesAtHand : List ℕ → List ℕ → Option ℕ → Type 0
TakesAtHand old new None = (old ≡ []) × (new ≡ [])
TakesAtHand old new (Some byte) = old ≡ byte ∷ new
