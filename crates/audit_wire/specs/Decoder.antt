-- How a decoder stores its progress: its state, and the bytes since the end of the previous frame.
use Rattle.std.specs.Prelude.{◌≡◌, ℕ, ◌≤◌, List, length, drop}
use Rattle.audit_wire.specs.declared.limits.TheConstants.{MAX_FRAME}
use Rattle.audit_wire.specs.declared.decoder.State.{State}
use Rattle.audit_wire.specs.declared.decoder.State.TheVariants as state
use Rattle.audit_wire.specs.Frame.{frame, IsBodySize, IsPartial, IsBadLength}
use Rattle.audit_wire.specs.Progress.{DecoderProgress, reading, whole, malformed, closed}

abbrev pub progress_of : State → List ℕ → DecoderProgress
progress_of state.Reading bytes = reading bytes
progress_of state.Whole bytes = whole (drop 2 bytes)
progress_of state.Malformed bytes = malformed bytes
progress_of state.Closed bytes = closed

-- the bytes in each state
abbrev pub IsState : State → List ℕ → Type 0
IsState state.Reading bytes = IsPartial bytes
IsState state.Whole bytes = IsBodySize (length (drop 2 bytes)) × (bytes ≡ frame (drop 2 bytes))
IsState state.Malformed bytes = IsBadLength bytes
IsState state.Closed bytes = Unit {0}

-- the bytes and the capacity of a decoder
pub record IsDecoderKept (current : State) (bytes : List ℕ) (capacity : ℕ) : Type 0 where
  pub state : IsState current bytes
  pub room : MAX_FRAME ≤ capacity
