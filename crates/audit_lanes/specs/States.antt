-- The hash values of four messages side by side.
use Rattle.std.specs.Prelude.{ℕ, List, [], ◌∷◌, slice_index}
use Rattle.audit_lanes.specs.declared.states.States.{States}

-- the hash value in lane k: that lane of each of the eight words
abbrev pub hash_in_lane : States → ℕ → List ℕ
hash_in_lane s k =
    slice_index s.a k ∷ slice_index s.b k ∷ slice_index s.c k ∷ slice_index s.d k
    ∷ slice_index s.e k ∷ slice_index s.f k ∷ slice_index s.g k ∷ slice_index s.h k ∷ []
