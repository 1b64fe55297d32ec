-- Replaying the calls before a crash.
use Rattle.std.specs.Prelude.{◌≡◌, ℕ, zero, suc, ◌-◌, nat_lt, if◌then◌else◌, List, [], ◌∷◌, map, length}
use Rattle.audit_disk.specs.Held.{Held, picked, newest}
use Rattle.audit_disk.specs.declared.block.Block.{Block}
use Rattle.audit_disk.specs.declared.call.Effect.{Effect}
use Rattle.audit_disk.specs.declared.call.Effect.TheVariants.{Write, Sync}
use Rattle.audit_disk.specs.declared.progress.Progress.{Progress}

-- the replayed state of a sector with these contents
pub record IsSectorProgress (held : Held) (p : ℕ) (progress : Progress) : Type 0 where
  pub newest : progress.newest ≡ newest held.synced held.since
  pub landed : progress.landed ≡ picked held.synced held.since p
  pub pick : progress.pick ≡ p
  pub left : progress.left ≡ p - length held.since

-- the state of all sectors; a missing pick is 0
abbrev pub AreProgress : List Held → List ℕ → List Progress → Type 0
AreProgress [] picks [] = Unit {0}
AreProgress [] picks (progress ∷ others) = ⊥
AreProgress (held ∷ rest) picks [] = ⊥
AreProgress (held ∷ rest) [] (progress ∷ others) = IsSectorProgress held 0 progress × AreProgress rest [] others
AreProgress (held ∷ rest) (pick ∷ picks) (progress ∷ others) = IsSectorProgress held pick progress
    × AreProgress rest picks others

-- after a write
abbrev pub pushed : Progress → Block → Progress
pushed progress block = record {
  newest = block;
  landed = if nat_lt 0 progress.left then block else progress.landed;
  pick = progress.pick;
  left = progress.left - 1;
}

abbrev pub written_at : List Progress → ℕ → Block → List Progress
written_at [] at block = []
written_at (progress ∷ others) zero block = pushed progress block ∷ others
written_at (progress ∷ others) (suc at) block = progress ∷ written_at others at block

-- after a sync
abbrev pub synced : Progress → Progress
synced progress =
    record { newest = progress.newest; landed = progress.newest; pick = progress.pick; left = progress.pick }

-- after a call
abbrev pub after_effect : Effect → List Progress → List Progress
after_effect (Write at block) all = written_at all at block
after_effect Sync all = map synced all

-- what the crash leaves
abbrev pub landed_of : List Progress → List Block
landed_of all = map (λ (progress : Progress). progress.landed) all
