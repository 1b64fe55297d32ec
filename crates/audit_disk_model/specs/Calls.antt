-- The effects of a device's calls.
use Rattle.std.specs.Prelude.{◌≡◌, ◌⊎◌, ℕ, ◌+◌, ◌<◌, ◌≤◌, min, Result, OnOk, OnErr, IsErr, MatchResult}
use Rattle.audit_disk_model.specs.Image.{Sector, Image, sector_at, with_sector}
use Rattle.audit_disk_model.specs.View.{View, last_count}
use Rattle.audit_disk_model.specs.declared.fault.DeviceFault.{DeviceFault}

abbrev pub Outcome : Type 0
Outcome = Result (Unit {0}) DeviceFault

-- Some calls were made: what every call preserves, on every device and with any result.
pub record Continues (old new : View) : Type 0 where
  pub size : new.size ≡ old.size
  pub clock : old.clock ≤ new.clock
  pub failures : old.failures ≤ new.failures
  pub honest : old.honest → new.honest
  pub was_honest : new.honest → old.honest
  -- past moments keep their images and gain no other
  pub kept : (moment : ℕ) (image : Image) → moment ≤ old.clock → old.left_at moment image → new.left_at moment image
  pub no_other : (moment : ℕ) (image : Image) → moment ≤ old.clock → new.left_at moment image → old.left_at moment image

-- the count of failures rose, or is at its maximum
abbrev pub HasRisen : ℕ → ℕ → Type 0
HasRisen old new = min (old + 1) last_count ≤ new

-- an error is counted as a failure, and a success isn't
abbrev pub CountsFailure : {T E : Type 0} → ℕ → ℕ → Result T E → Type 0
CountsFailure old new result = MatchResult result (λ _. new ≡ old) (λ _. HasRisen old new)

-- the clock counts one more call, up to its maximum, where it stays
pub record Ticks (old new : ℕ) : Type 0 where
  pub before_end : old < last_count → new ≡ old + 1
  pub at_end : last_count ≤ old → new ≡ old

pub record IsRead (old new : View) (at : ℕ) (into : Sector) (result : Outcome) : Type 0 where
  pub continues : Continues old new
  pub clock : new.clock ≡ old.clock
  pub failures : CountsFailure old.failures new.failures result
  pub content : old.honest → new.content ≡ old.content
  pub bytes : old.honest → OnOk result (into ≡ sector_at old.content at)

-- an image that was possible before, or one with this sector written
pub record MayBeWritten (left : Image → Type 0) (at : ℕ) (bytes : Sector) (image : Image) : Type 0 where
  pub either : left image ⊎ ((before : Image) × left before × (image ≡ with_sector before at bytes))

pub record IsWrite (old new : View) (at : ℕ) (bytes : Sector) (result : Outcome) : Type 0 where
  pub continues : Continues old new
  pub clock : Ticks old.clock new.clock
  pub failures : CountsFailure old.failures new.failures result
  pub content : old.honest → OnOk result (new.content ≡ with_sector old.content at bytes)
  -- a write that failed may have reached the sector
  pub content_err : old.honest
      → OnErr result ((new.content ≡ old.content) ⊎ (new.content ≡ with_sector old.content at bytes))
  pub images : old.honest → (image : Image) → new.left_at new.clock image
      → MayBeWritten (old.left_at old.clock) at bytes image
  pub unwritten : old.honest → (image : Image) → old.left_at old.clock image → new.left_at new.clock image
  pub written : old.honest
      → OnOk result ((image : Image) → old.left_at old.clock image → new.left_at new.clock (with_sector image at bytes))
  -- at the end of the clock nothing is written
  pub at_end : last_count ≤ old.clock → IsErr result
  pub at_end_same : last_count ≤ old.clock → old.honest → new.content ≡ old.content

pub record IsSync (old new : View) (result : Outcome) : Type 0 where
  pub continues : Continues old new
  pub clock : Ticks old.clock new.clock
  pub failures : CountsFailure old.failures new.failures result
  pub content : old.honest → new.content ≡ old.content
  -- the content is the only image
  pub only : old.honest → OnOk result ((image : Image) → new.left_at new.clock image → image ≡ old.content)
  -- a failed sync leaves the same images
  pub no_other : old.honest → OnErr result ((image : Image) → new.left_at new.clock image → old.left_at old.clock image)
  pub kept : old.honest → OnErr result ((image : Image) → old.left_at old.clock image → new.left_at new.clock image)
  pub at_end : last_count ≤ old.clock → IsErr result
