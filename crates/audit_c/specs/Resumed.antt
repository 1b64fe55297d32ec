-- A verification that goes on after a saved state.
use Rattle.std.specs.Prelude.{◌≡◌, ◌⊎◌, ℕ, List, []}
use Rattle.audit_verify.specs.State.{StateData}
use Rattle.audit_verify_saved.specs.Saved.{SpellsState, IsNoState}
use Rattle.audit_c.specs.declared.answers.TheConstants.{OK, MALFORMED}
use Rattle.audit_c.specs.declared.verifier.Verifier.{Verifier}
use Rattle.audit_c.specs.Fed.{HasBeenFed}

-- nothing was fed from the state of this text on, or the text is that of none
abbrev pub IsBegunFrom : List ℕ → Verifier → Verifier → ℕ → Type 0
IsBegunFrom text old new answer =
    ((answer ≡ OK) × (state : StateData) × SpellsState text state × HasBeenFed state [] [] new)
    ⊎ (((answer ≡ MALFORMED) × (new ≡ old)) × IsNoState text)
