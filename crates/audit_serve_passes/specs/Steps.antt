-- The steps of a core that serves sessions, and what they feed from the stream of one session.
use Rattle.std.specs.Prelude.{◌≡◌, ◌⊎◌, ℕ, ◌+◌, Bool, false, ◌||◌, ◌==◌, if◌then◌else◌, List, [], ◌∷◌, ◌++◌}

pub data StepData : Type 0 where
  -- the next bytes of a session
  a_piece : ℕ → List ℕ → StepData
  -- the end of a session
  an_end : ℕ → StepData
  -- what waits is committed and answered
  a_flush : StepData

-- a step is about session k, or each of several steps is
abbrev pub IsAbout : ℕ → StepData → Type 0
IsAbout k (a_piece session piece) = session ≡ k
IsAbout k (an_end session) = session ≡ k
IsAbout k a_flush = ⊥

abbrev pub AreAbout : ℕ → List StepData → Type 0
AreAbout k [] = Unit {0}
AreAbout k (step ∷ steps) = IsAbout k step × AreAbout k steps

-- the part that is done of a step that may be refused: all of it, a prefix of its piece, or nothing
abbrev pub IsPartOf : StepData → List StepData → Type 0
IsPartOf (a_piece k piece) part = (part ≡ [])
    ⊎ ((front : List ℕ) × (rest : List ℕ) × (piece ≡ front ++ rest) × (part ≡ a_piece k front ∷ []))
IsPartOf (an_end k) part = (part ≡ []) ⊎ (part ≡ an_end k ∷ [])
IsPartOf a_flush part = (part ≡ []) ⊎ (part ≡ a_flush ∷ [])

-- the bytes that a step, or a list of steps in order, feeds to a session
abbrev pub bytes_in : ℕ → StepData → List ℕ
bytes_in k (a_piece session piece) = if session == k then piece else []
bytes_in k (an_end session) = []
bytes_in k a_flush = []

abbrev pub bytes_fed : ℕ → List StepData → List ℕ
bytes_fed k [] = []
bytes_fed k (step ∷ steps) = bytes_in k step ++ bytes_fed k steps

-- whether a step, or one of several steps, ends a session
abbrev pub is_end : ℕ → StepData → Bool
is_end k (a_piece session piece) = false
is_end k (an_end session) = session == k
is_end k a_flush = false

abbrev pub has_end : ℕ → List StepData → Bool
has_end k [] = false
has_end k (step ∷ steps) = is_end k step || has_end k steps

-- how many times a step, or a list of steps, ends a session
abbrev pub ends_in_step : ℕ → StepData → ℕ
ends_in_step k (a_piece session piece) = 0
ends_in_step k (an_end session) = if session == k then 1 else 0
ends_in_step k a_flush = 0

abbrev pub ends_in : ℕ → List StepData → ℕ
ends_in k [] = 0
ends_in k (step ∷ steps) = ends_in_step k step + ends_in k steps
