-- A log that is read on again and again.
use Rattle.std.specs.Prelude.{◌≡◌, ℕ, ◌^◌, ◌-◌, true, false, Option, Some, None, List, [], ◌∷◌, length, Result, Ok, Err}
use Rattle.std.specs.List.{flat_map, AllByRecursion}
use Rattle.audit_cli_connection.specs.declared.fault.RemoteError.{RemoteError}
use Rattle.audit_cli_connection.specs.declared.read_task.ReadTask.{ReadTask}
use Rattle.audit_cli_connection.specs.Faults.{is_passing_fault}
use Rattle.audit_cli_connection.specs.ServerCalls.{ServerCall, ServersModel, a_reading, a_rest}

-- After a reading that succeeded another follows, and nothing is reported; after one that failed for a while another
-- does, and that is reported. Every other fault ends it.
abbrev pub FollowsReading : Result (Unit {0}) RemoteError → Result (Option RemoteError) RemoteError → Type 0
FollowsReading (Ok done) (Ok reported) = reported ≡ None
FollowsReading (Ok done) (Err last) = ⊥
FollowsReading (Err fault) (Ok reported) = (is_passing_fault fault ≡ true) × (reported ≡ Some fault)
FollowsReading (Err fault) (Err last) = (is_passing_fault fault ≡ false) × (last ≡ fault)

-- one reading: the output before and after it, and how it ended
pub record OneReading : Type 0 where
  pub before : Option (List ℕ)
  pub after : Option (List ℕ)
  pub done : Result (Unit {0}) RemoteError

-- it succeeded, or failed for a while
abbrev pub IsReadAgain : Result (Unit {0}) RemoteError → Type 0
IsReadAgain (Ok done) = Unit {0}
IsReadAgain (Err fault) = is_passing_fault fault ≡ true

-- nothing was printed besides what each reading printed
abbrev pub ArePrintedInTurn : Option (List ℕ) → List OneReading → Option (List ℕ) → Type 0
ArePrintedInTurn old [] new = new ≡ old
ArePrintedInTurn old (reading ∷ later) new = (reading.before ≡ old) × ArePrintedInTurn reading.after later new

-- a reading, and the pause after it
abbrev pub reading_calls_of : ReadTask → ℕ → OneReading → List ServerCall
reading_calls_of task every reading = a_reading task reading.before reading.after reading.done ∷ a_rest every ∷ []

module _ {F : Type 0} (servers : ServersModel F) where
  -- A log was read on again and again, with a pause after each time, and each time it succeeded or failed for a while.
  pub record ReadsOnAgain (task : ReadTask) (every : ℕ) (was now : F) (old new : Option (List ℕ))
      (readings : List OneReading) : Type 0 where
    pub did : servers.DidCalls was now (flat_map (reading_calls_of task every) readings)
    pub again : AllByRecursion (λ (reading : OneReading). IsReadAgain reading.done) readings
    pub printed : ArePrintedInTurn old readings new

  -- It was read on so, and then for the last time: that failed for more than a while.
  pub record ReadsLast (task : ReadTask) (every : ℕ) (was now : F) (old new : Option (List ℕ)) (fault : RemoteError)
      : Type 0 where
    pub readings : List OneReading
    pub mid : F
    pub between : Option (List ℕ)
    pub earlier : ReadsOnAgain task every was mid old between readings
    pub last : servers.DidCalls mid now (a_reading task between new (Err fault) ∷ [])
    pub lasting : is_passing_fault fault ≡ false

  -- It was read on until there was a last time, or as often as a number counts.
  abbrev pub ReadsToTheEnd : ReadTask → ℕ → F → F → Option (List ℕ) → Option (List ℕ) → Result (Unit {0}) RemoteError
      → Type 0
  ReadsToTheEnd task every was now old new (Ok done) = (readings : List OneReading)
      × (length readings ≡ 2 ^ 64 - 1) × ReadsOnAgain task every was now old new readings
  ReadsToTheEnd task every was now old new (Err fault) = ReadsLast task every was now old new fault
