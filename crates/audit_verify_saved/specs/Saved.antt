-- The text of a state, with a newest commitment or without one.
use Rattle.std.specs.Prelude.{◌≡◌, ◌≢◌, ℕ, Option, None, Some, List, []}
use Rattle.audit_proof.specs.declared.commitment.Commitment.{Commitment}
use Rattle.audit_verify.specs.State.{StateData, IsFitting}
use Rattle.audit_verify.specs.Bookmark.{AreSoundParts, newest_lines, bookmark_text}
use Rattle.audit_verify_saved.specs.declared.saved.Saved.{Saved}

-- the state of these parts
abbrev pub shown : Saved → StateData
shown saved = record { key = saved.key; link = saved.link; closed = saved.closed; frontier = saved.tree }

-- The text is that of this state, whose parts fit each other.
pub record SpellsState (text : List ℕ) (state : StateData) : Type 0 where
  pub newest : Option Commitment
  pub fits : IsFitting state
  pub text_is : text ≡ bookmark_text state newest

-- the text is that of no state
abbrev pub IsNoState : List ℕ → Type 0
IsNoState text = (state : StateData) (newest : Option Commitment) → AreSoundParts state newest
    → text ≢ bookmark_text state newest

-- the lines of a newest commitment, if there is one
abbrev pub mark_lines : Option Commitment → List ℕ
mark_lines None = []
mark_lines (Some newest) = newest_lines newest
