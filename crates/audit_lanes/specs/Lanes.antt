-- Four computations of SHA-256 side by side: each word is a vector of four, with one lane for each message.
use Rattle.std.specs.Prelude.{ℕ, List, [], ◌∷◌, map, slice_index, slice_index_or}

-- lane k of each of a list of vectors: of the eight of a state, the hash value of message k
abbrev pub lane : ℕ → List (List ℕ) → List ℕ
lane k vectors = map (λ vector. slice_index vector k) vectors

-- the one of four lists that belongs to lane k
abbrev pub of_four : List ℕ → List ℕ → List ℕ → List ℕ → ℕ → List ℕ
of_four a b c d k = slice_index_or (a ∷ b ∷ c ∷ d ∷ []) k []
