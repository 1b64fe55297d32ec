-- The steps that a core does for a session over lines, and what is written.
use Rattle.std.specs.Prelude.{◌≡◌, ℕ, ◌≤◌, Option, IfSome, List, [], ◌∷◌, ◌++◌, length}
use Rattle.std.specs.List.{flat_map}
use Rattle.audit_serve_passes.specs.declared.limits.TheConstants.{MAX_PIECE}
use Rattle.audit_serve_passes.specs.Steps.{StepData, a_piece, an_end, a_flush, bytes_fed}
use Rattle.audit_serve_passes.specs.Core.{CoreModel}
use Rattle.audit_serve_passes.specs.Transition.{AreElsewhere}
use Rattle.audit_serve_sockets.specs.Frames.{HasLines, AreUnfinished}
use Rattle.audit_serve_sockets.specs.Input.{SpellsFirst}

-- the steps feed pieces to session 0, and nothing else
abbrev pub ArePieces : List StepData → Type 0
ArePieces [] = Unit {0}
ArePieces (a_piece session piece ∷ steps) = (session ≡ 0) × (length piece ≤ MAX_PIECE) × ArePieces steps
ArePieces (an_end session ∷ steps) = ⊥
ArePieces (a_flush ∷ steps) = ⊥

-- pieces of session 0 feed these bytes except for `rest`
pub record Brings (bytes rest : List ℕ) (steps : List StepData) : Type 0 where
  pub pieces : ArePieces steps
  pub all : bytes_fed 0 steps ++ rest ≡ bytes

-- the bytes of a line, followed by a flush
pub record IsLinePass (bytes : List ℕ) (steps : List StepData) : Type 0 where
  pub pieces : List StepData
  pub are : steps ≡ pieces ++ a_flush ∷ []
  pub brings : Brings bytes [] pieces

-- one pass for each line
abbrev pub AreLinePasses : List (List ℕ) → List StepData → Type 0
AreLinePasses [] steps = steps ≡ []
AreLinePasses (bytes ∷ lines) steps =
    (first : List StepData) × (later : List StepData) × (steps ≡ first ++ later) × IsLinePass bytes first
    × AreLinePasses lines later

-- one pass for each line, the end of the session, and one more flush
pub record IsWholeLoop (lines : List (List ℕ)) (steps : List StepData) : Type 0 where
  pub turns : List StepData
  pub are : steps ≡ turns ++ (an_end 0 ∷ a_flush ∷ [])
  pub each : AreLinePasses lines turns

-- pieces of session 0 feed a prefix of these bytes
abbrev pub BringsFront : List ℕ → List StepData → Type 0
BringsFront bytes steps = (rest : List ℕ) × Brings bytes rest steps

-- The bytes fed to session 0 are a prefix of what the first lines spell, and no step is about another session.
pub record BringsLines (known : Option (List ℕ)) (steps : List StepData) : Type 0 where
  pub lines : List (List ℕ)
  pub rest : List ℕ
  pub front : bytes_fed 0 steps ++ rest ≡ flat_map (λ line. line) lines
  pub spells : IfSome known (SpellsFirst lines)
  pub elsewhere : (k : ℕ) → (k ≡ 0 → ⊥) → AreElsewhere k steps

-- The core did steps of this shape. Output was taken only from session 0, and its frames were written as lines.
pub record LoopTransition {C : Type 0} (M : CoreModel C) (old new : C) (before after : Option (List ℕ))
    (Shape : List StepData → Type 0) : Type 0 where
  pub steps : List StepData
  pub taken : ℕ → List ℕ
  pub did : M.DidSteps old new steps taken
  pub others : (k : ℕ) → (k ≡ 0 → ⊥) → taken k ≡ []
  pub shape : Shape steps
  pub written : HasLines before after (taken 0)

-- The core did steps of this shape, the last of which may be a part of a refused step. Output was taken only from
-- session 0.
pub record LoopReached {C : Type 0} (M : CoreModel C) (old new : C) (Shape : List StepData → Type 0) : Type 0 where
  pub steps : List StepData
  pub taken : ℕ → List ℕ
  pub reaches : M.DidStepsInPart old new steps taken
  pub others : (k : ℕ) → (k ≡ 0 → ⊥) → taken k ≡ []
  pub shape : Shape steps

-- The core did steps, and the output that was taken last from session 0 isn't whole frames.
pub record CutsFrameOff {C : Type 0} (M : CoreModel C) (old new : C) : Type 0 where
  pub steps : List StepData
  pub taken : ℕ → List ℕ
  pub reaches : M.DidStepsInPart old new steps taken
  pub earlier : List ℕ
  pub last : List ℕ
  pub split : taken 0 ≡ earlier ++ last
  pub cut_off : AreUnfinished last
