-- For the tests: a core whose sessions end only by `end`.
use Rattle.std.specs.Prelude.{◌≡◌, ℕ, ◌+◌, Bool, true, false, ◌||◌, if◌then◌else◌, List, [], ◌∷◌, length}
use Rattle.std.specs.Prelude.{slice_index_or, slice_set}
use Rattle.audit_serve_passes.specs.Steps.{StepData, has_end}
use Rattle.audit_serve_passes.specs.declared.rights.Rights.{Rights}

-- which sessions have ended, which were fed since the last flush, and the bytes that wait for each
pub record RecorderData : Type 0 where
  pub ended : List Bool
  pub fed : List Bool
  pub outputs : List (List ℕ)

abbrev pub has_ended : RecorderData → ℕ → Bool
has_ended core k = slice_index_or core.ended k false

abbrev pub recorded_output : RecorderData → ℕ → List ℕ
recorded_output core k = slice_index_or core.outputs k []

abbrev pub was_fed : RecorderData → ℕ → Bool
was_fed core k = slice_index_or core.fed k false

-- how many sessions were fed since the last flush
abbrev pub count_fed : List Bool → ℕ
count_fed [] = 0
count_fed (true ∷ fed) = 1 + count_fed fed
count_fed (false ∷ fed) = count_fed fed

-- no session was fed since the last flush
abbrev pub IsRecorderIdle : RecorderData → Type 0
IsRecorderIdle core = (k : ℕ) → was_fed core k ≡ false

-- the bytes that wait, and one more for a session that was fed
abbrev pub recorded_owed : RecorderData → ℕ → ℕ
recorded_owed core k = length (recorded_output core k) + (if was_fed core k then 1 else 0)

-- a session has ended afterwards if it had ended before or the steps contain its end
abbrev pub EndedBy : RecorderData → RecorderData → List StepData → Type 0
EndedBy old new steps = (k : ℕ) → has_ended new k ≡ (has_ended old k || has_end k steps)

-- a session is live again, whatever its rights, and the outputs are unchanged
pub record IsLiveAgain (k : ℕ) (allowed : Rights) (old new : RecorderData) : Type 0 where
  pub ended : new.ended ≡ slice_set old.ended k false
  pub fed : new.fed ≡ old.fed
  pub outputs : new.outputs ≡ old.outputs
