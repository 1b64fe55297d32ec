-- What a witness prints, and what it does after each look.
use Rattle.std.specs.Prelude.{◌≡◌, ◌⊎◌, ℕ, Bool, true, false, not, ◌&&◌, Option, Some, None, IfSome, Result, Ok, Err}
use Rattle.std.specs.Prelude.{List, [], ◌++◌, codes}
use Rattle.std.specs.Io.KnownBytes.{Appends, Keeps}
use Rattle.httpdate.specs.declared.date.HttpDate.{HttpDate as Date}
use Rattle.audit_wire_ask.specs.declared.watching.Sight.{Sight}
use Rattle.audit_wire_ask.specs.declared.watching.Sight.TheVariants.{Began, Same, Grew}
use Rattle.audit_text.specs.declared.fault.LinesError.TheVariants.{Write}
use Rattle.audit_cli_base.specs.declared.fault.CommandError.TheVariants.{File, Lines}
use Rattle.audit_cli_connection.specs.declared.fault.RemoteError.{RemoteError}
use Rattle.audit_cli_connection.specs.declared.fault.RemoteError.TheVariants.{Command}
use Rattle.audit_cli_connection.specs.Faults.{no_memory, is_passing_fault}
use Rattle.audit_cli_connection.specs.Messages.{message_of, SaysAnswersAgain, SaysFirst}
use Rattle.audit_cli_witness.specs.State.{commitment_word}

-- the line of what was seen; a quiet witness prints only its first commitment
abbrev pub sight_line : Bool → Sight → List ℕ
sight_line quiet (Began seen) = codes "began " ++ commitment_word seen ++ codes "\n"
sight_line true (Same seen) = []
sight_line true (Grew seen) = []
sight_line false (Same seen) = codes "same\n"
sight_line false (Grew seen) = codes "grew " ++ commitment_word seen ++ codes "\n"

-- the same of a repeated look, for which the same isn't printed again
abbrev pub change_line : Bool → Sight → List ℕ
change_line quiet (Began seen) = sight_line quiet (Began seen)
change_line quiet (Same seen) = []
change_line quiet (Grew seen) = sight_line quiet (Grew seen)

-- why a line wasn't printed: memory for it was refused, or the output failed
abbrev pub FailsToPrint : Type 0 → RemoteError → Type 0
FailsToPrint failed fault =
    (fault ≡ no_memory) ⊎ (failed × ((fault ≡ Command (Lines Write)) ⊎ (fault ≡ Command File)))

-- After a look that saw something its line is printed, or can't be; after one that failed nothing is, and that is the
-- fault.
abbrev pub PrintsLook : Bool → Result Sight RemoteError → Option (List ℕ) → Option (List ℕ) → Type 0
    → Result (Unit {0}) RemoteError → Type 0
PrintsLook quiet (Ok sight) old new failed (Ok done) = Appends old new (sight_line quiet sight)
PrintsLook quiet (Ok sight) old new failed (Err fault) = FailsToPrint failed fault
PrintsLook quiet (Err fault) old new failed (Ok done) = ⊥
PrintsLook quiet (Err fault) old new failed (Err last) = (last ≡ fault) × Keeps old new

-- the line of a repeated look; of one that failed there is none
abbrev pub look_line : Bool → Result Sight RemoteError → List ℕ
look_line quiet (Ok sight) = change_line quiet sight
look_line quiet (Err fault) = []

-- a look that another one follows: it saw something, or failed for a while
abbrev pub IsFollowed : Result Sight RemoteError → Type 0
IsFollowed (Ok sight) = Unit {0}
IsFollowed (Err fault) = is_passing_fault fault ≡ true

-- After a look that saw something, a repeated look prints it and goes on, or ends because it couldn't. After one that
-- failed it goes on, and has reported the fault, if that is a passing one; and ends with every other.
abbrev pub FollowsLook : Bool → Result Sight RemoteError → Option (List ℕ) → Option (List ℕ) → Type 0
    → Result (Option RemoteError) RemoteError → Type 0
FollowsLook quiet (Ok sight) old new failed (Ok reported) =
    (reported ≡ None) × Appends old new (change_line quiet sight)
FollowsLook quiet (Ok sight) old new failed (Err fault) = FailsToPrint failed fault
FollowsLook quiet (Err fault) old new failed (Ok reported) =
    (is_passing_fault fault ≡ true) × (reported ≡ Some fault) × Keeps old new
FollowsLook quiet (Err fault) old new failed (Err last) =
    (is_passing_fault fault ≡ false) × (last ≡ fault) × Keeps old new

-- a fault is said on the messages before all else, or nothing is
abbrev pub SaysFault : Bool → RemoteError → Option (List ℕ) → Option (List ℕ) → Type 0 → Type 0
SaysFault true fault old new failed = IfSome (message_of fault) (SaysFirst old new failed)
SaysFault false fault old new failed = Keeps old new

-- After a look that failed, its fault is said if it is a passing one and isn't the one that was reported. Otherwise
-- nothing is said.
abbrev pub SaysPassing : (RemoteError → Bool) → Result Sight RemoteError → Option (List ℕ) → Option (List ℕ) → Type 0
    → Type 0
SaysPassing is_reported (Ok sight) old new failed = Unit {0}
SaysPassing is_reported (Err fault) old new failed =
    SaysFault (is_passing_fault fault && not (is_reported fault)) fault old new failed

-- After a look that saw something, only the return of a server is said.
abbrev pub SaysReturn : Option RemoteError → Option Date → Result Sight RemoteError → Option (List ℕ)
    → Option (List ℕ) → Type 0 → Type 0
SaysReturn reported date (Err fault) old new failed = Unit {0}
SaysReturn reported date (Ok sight) old new failed = SaysAnswersAgain reported date old new failed
