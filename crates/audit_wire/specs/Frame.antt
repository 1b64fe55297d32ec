-- A frame: the length of its body as two big-endian bytes, then the body.
use Rattle.std.specs.Prelude.{ℕ, ◌<◌, ◌≤◌, Bool, ◌&&◌, nat_le, List, [], ◌∷◌, ◌++◌, length}
use Rattle.std.specs.Int.{w16, to_be_bytes, from_be_bytes}
use Rattle.audit_wire.specs.declared.limits.TheConstants.{MAX_BODY}

-- the frame of a body
abbrev pub frame : List ℕ → List ℕ
frame body = to_be_bytes w16 (length body) ++ body

-- the size that two length bytes state
abbrev pub size_of : ℕ → ℕ → ℕ
size_of high low = from_be_bytes w16 (high ∷ low ∷ [])

-- a size that the body of a request may have, as a proposition and as a test
abbrev pub IsBodySize : ℕ → Type 0
IsBodySize size = (1 ≤ size) × (size ≤ MAX_BODY)

abbrev pub is_body_size : ℕ → Bool
is_body_size size = nat_le 1 size && nat_le size MAX_BODY

-- less than a whole frame, but a prefix of some request's possible frame
abbrev pub IsPartial : List ℕ → Type 0
IsPartial [] = Unit {0}
IsPartial (high ∷ []) = Unit {0}
IsPartial (high ∷ low ∷ body) = IsBodySize (size_of high low) × (length body < size_of high low)

-- a length that no request has, and nothing after it
abbrev pub IsBadLength : List ℕ → Type 0
IsBadLength (high ∷ low ∷ []) = ¬ IsBodySize (size_of high low)
IsBadLength _ = ⊥
