-- The frame of a request, written into a buffer.
use Rattle.std.specs.Prelude.{◌≡◌, ◌⊎◌, ℕ, ◌≤◌, List, length, take}
use Rattle.audit_wire.specs.declared.request.Request.{Request}
use Rattle.audit_wire.specs.Request.{IsDaemonRequest}
use Rattle.audit_wire.specs.Stream.{request_frame}

-- a client may make the request, and its frame fits in the buffer
abbrev pub FitsInto : Request → List ℕ → Type 0
FitsInto asked buffer = IsDaemonRequest asked × (length (request_frame asked) ≤ length buffer)

-- The buffer begins with the request's frame, of this length.
pub record IsFrame (asked : Request) (before after : List ℕ) (written : ℕ) : Type 0 where
  pub room : FitsInto asked before
  pub size : written ≡ length (request_frame asked)
  pub front : take written after ≡ request_frame asked

-- it does, or no frame of the request has room, and nothing was written
abbrev pub IsRequestWritten : Request → List ℕ → List ℕ → ℕ → Type 0
IsRequestWritten asked before after written =
    IsFrame asked before after written ⊎ (((written ≡ 0) × (after ≡ before)) × ¬ FitsInto asked before)
