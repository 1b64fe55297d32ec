-- The contents of a file from which a verification starts.
use Rattle.std.specs.Prelude.{◌≡◌, ◌⊎◌, ℕ, Option, None, List, IfSome, MatchOption}
use Rattle.audit_text.specs.declared.fault.LinesError.TheVariants.{Read, Memory}
use Rattle.audit_verify.specs.State.{StateData, first_state}
use Rattle.audit_proof.specs.declared.commitment.Commitment.{Commitment}
use Rattle.audit_verify.specs.Bookmark.{AreSoundParts, bookmark_text}
use Rattle.audit_cli_base.specs.KeyFile.{key_of_file}
use Rattle.audit_cli_base.specs.declared.fault.CommandError.{CommandError}
use Rattle.audit_cli_base.specs.declared.fault.CommandError.TheVariants.{BadArgument, Lines}

-- the text is that of a bookmark with this state, or it is a first key, and the state is the one before the first entry
abbrev pub IsStart : List ℕ → StateData → Type 0
IsStart text state = MatchOption (key_of_file text)
    ((newest : Option Commitment) × (text ≡ bookmark_text state newest)) (λ key. state ≡ first_state key)

-- the text has no key, and is that of no bookmark
pub record IsNoStart (text : List ℕ) : Type 0 where
  pub key : key_of_file text ≡ None
  pub state : (state : StateData) (newest : Option Commitment) → AreSoundParts state newest
      → text ≡ bookmark_text state newest → ⊥

-- why no start was read: the file has none, or reading failed, or memory was refused
abbrev pub IsStartFault : Option (List ℕ) → CommandError → Type 0
IsStartFault known BadArgument = IfSome known IsNoStart
IsStartFault known (Lines cause) = (cause ≡ Read) ⊎ (cause ≡ Memory)
IsStartFault known _ = ⊥
