-- What verifying an export in two passes writes, from a state on. The first pass accepts or refuses the export. The
-- second reads it again and writes its lines.
use Rattle.std.specs.Prelude.{◌≡◌, ◌≢◌, ◌⊎◌, ◌||◌, ℕ, ◌+◌, Option, List, [], ◌++◌, length}
use Rattle.std.specs.List.{AllByRecursion}
use Rattle.std.specs.Io.KnownBytes.{Appends, Keeps}
use Rattle.audit_chain.specs.Event.{EventData, IsEvent}
use Rattle.audit_chain.specs.Closing.{is_closed}
use Rattle.audit_chain.specs.Entries.{last_link_from}
use Rattle.audit_text.specs.Writing.{WritesInPart}
use Rattle.audit_proof.specs.declared.commitment.Commitment.{Commitment}
use Rattle.audit_text.specs.declared.fault.LinesError.{LinesError}
use Rattle.audit_text.specs.declared.fault.LinesError.TheVariants as lines
use Rattle.audit_verify.specs.declared.accepted.Accepted.{Accepted}
use Rattle.audit_verify.specs.declared.fault.VerifyFault.{VerifyFault}
use Rattle.audit_verify.specs.declared.fault.Cause.TheVariants.{WrongCommitment, ReadFault}
use Rattle.audit_verify.specs.declared.verifying.TheConstants.{BYTE_LIMIT}
use Rattle.audit_verify.specs.State.{StateData, MayFollow, bytes_from_state, next_state}
use Rattle.audit_verify.specs.Continuing.{IsVerifiedFrom, IsFaultFrom}
use Rattle.audit_verify.specs.GivenUp.{IsGivenUpFrom}
use Rattle.audit_verify.specs.Reading.{IsFaultThen}
use Rattle.audit_verify.specs.Links.{LinksCollide}
use Rattle.audit_cli_offline.specs.declared.fault.OfflineError.{OfflineError}
use Rattle.audit_cli_offline.specs.declared.fault.OfflineError.TheVariants.{Export, Lines}
use Rattle.audit_cli_offline.specs.Printing.{PrintingData}
use Rattle.audit_cli_offline.specs.VerifiedExport.{lines_from_state, report_from_state, IsUnwrittenReport}

-- how the log ends after the entries of these events, which follow a state: their number, the last link, and whether it
-- is closed
abbrev pub end_of_continuation : StateData → List EventData → Accepted
end_of_continuation state events = record {
  count = state.frontier.count + length events;
  last_link = last_link_from state.key state.link events;
  closed = state.closed || is_closed events;
}

-- the bytes begin with the valid entries of these events, which follow a state, and then comes this rest
pub record BeginsWithEvents (state : StateData) (bytes : List ℕ) (events : List EventData)
    (rest : List ℕ) : Type 0 where
  pub each : AllByRecursion IsEvent events
  pub closing : MayFollow state.closed events
  pub split : bytes ≡ bytes_from_state state events ++ rest

-- The second pass: these bytes are the entries of events, after which the log ends as the accepted one does, and the
-- events' lines were written.
pub record WritesAgain (printing : PrintingData) (state : StateData) (accepted : Accepted) (again : List ℕ)
    (old new : Option (List ℕ)) : Type 0 where
  pub events : List EventData
  pub begins : BeginsWithEvents state again events []
  pub same_end : accepted ≡ end_of_continuation state events
  pub written : Appends old new (report_from_state printing state events)

-- all entries are valid, and the log has another end than the accepted one
pub record IsOtherEnd (state : StateData) (accepted : Accepted) (again : List ℕ) (events : List EventData)
    (fault : VerifyFault) : Type 0 where
  pub whole : again ≡ bytes_from_state state events
  pub cause : fault.cause ≡ WrongCommitment
  pub index : fault.index ≡ state.frontier.count + length events
  pub other : accepted ≢ end_of_continuation state events

-- these bytes have a fault after the entries of events, or another end, and the events' lines were written
pub record StopsAgain (printing : PrintingData) (state : StateData) (accepted : Accepted) (again : List ℕ)
    (old new : Option (List ℕ)) (fault : VerifyFault) : Type 0 where
  pub events : List EventData
  pub rest : List ℕ
  pub begins : BeginsWithEvents state again events rest
  pub wrong : IsFaultThen state again events fault ⊎ IsOtherEnd state accepted again events fault
  pub written : Appends old new (lines_from_state printing state events)

-- the lines of valid entries were written, the last one in part
pub record WritesPartAgain (printing : PrintingData) (state : StateData) (again : List ℕ)
    (old new : Option (List ℕ)) : Type 0 where
  pub events : List EventData
  pub rest : List ℕ
  pub begins : BeginsWithEvents state again events rest
  pub part : WritesInPart old new (report_from_state printing state events)

-- the lines of valid entries were written, each of them whole
pub record WritesLinesAgain (printing : PrintingData) (state : StateData) (again : List ℕ)
    (old new : Option (List ℕ)) : Type 0 where
  pub events : List EventData
  pub rest : List ℕ
  pub begins : BeginsWithEvents state again events rest
  pub written : Appends old new (lines_from_state printing state events)

-- a fault of the second pass
abbrev pub IsFaultAgain : PrintingData → OfflineError → StateData → Accepted → List ℕ → Option (List ℕ)
    → Option (List ℕ) → Type 0
IsFaultAgain printing (Export fault) state accepted again old new =
    StopsAgain printing state accepted again old new fault
IsFaultAgain printing (Lines lines.Write) state accepted again old new = WritesPartAgain printing state again old new
IsFaultAgain printing (Lines lines.Memory) state accepted again old new = WritesLinesAgain printing state again old new
IsFaultAgain printing _ state accepted again old new = ⊥

-- Both passes. The first bytes are verified, and this is the state after them. The second ones are the same, or some
-- link of both logs is the SHA-256 of two texts; their log has the same end, and their lines were written.
pub record WritesTwice (printing : PrintingData) (state : StateData) (commitment : Commitment) (bytes again : List ℕ)
    (next : StateData) (old new : Option (List ℕ)) : Type 0 where
  pub events : List EventData
  pub others : List EventData
  pub verified : IsVerifiedFrom state commitment bytes events
  pub next_is : next ≡ next_state state events
  pub begins : BeginsWithEvents state again others []
  pub same : ((again ≡ bytes) × IsVerifiedFrom state commitment again others)
      ⊎ LinksCollide state.key state.link state.link events others
  pub same_end : end_of_continuation state events ≡ end_of_continuation state others
  pub written : Appends old new (report_from_state printing state others)

-- the first bytes are verified, and the second pass has a fault, which the same bytes don't have
pub record FailsAgain (printing : PrintingData) (error : OfflineError) (state : StateData) (commitment : Commitment)
    (bytes again : List ℕ) (old new : Option (List ℕ)) : Type 0 where
  pub events : List EventData
  pub verified : IsVerifiedFrom state commitment bytes events
  pub fault : IsFaultAgain printing error state (end_of_continuation state events) again old new

-- The first bytes have this fault, and nothing was written; or they are verified, and the second pass has this fault.
abbrev pub IsTwoPassFault : PrintingData → OfflineError → StateData → Commitment → List ℕ → List ℕ
    → Option (List ℕ) → Option (List ℕ) → Type 0
IsTwoPassFault printing (Export fault) state commitment bytes again old new =
    (IsFaultFrom state commitment bytes fault × Keeps old new)
    ⊎ FailsAgain printing (Export fault) state commitment bytes again old new
IsTwoPassFault printing (Lines fault) state commitment bytes again old new =
    FailsAgain printing (Lines fault) state commitment bytes again old new

-- a line wasn't written: a write failed within it, or memory was refused before it
abbrev pub IsLineUnwritten : LinesError → Option (List ℕ) → Option (List ℕ) → List ℕ → Type 0
IsLineUnwritten lines.Write old new line = WritesInPart old new line
IsLineUnwritten lines.Memory old new line = Keeps old new
IsLineUnwritten _ old new line = ⊥

-- the same in the second pass
abbrev pub IsSecondFault : OfflineError → StateData → Option (List ℕ) → Option (List ℕ) → (failed : Type 0) → Type 0
IsSecondFault (Export fault) state before after failed = fault.cause ≡ ReadFault
    → IsGivenUpFrom state BYTE_LIMIT before after failed fault
IsSecondFault (Lines fault) state before after failed = IsUnwrittenReport fault

-- A reader's fault is that of one of the two readers, whose last read failed if it exceeded no limit. Writing the lines
-- can fail only by a write or by memory.
abbrev pub IsPassFault : OfflineError → StateData → (first second : Option (List ℕ) × Option (List ℕ))
    → (first_failed second_failed : Type 0) → Type 0
IsPassFault (Export fault) state first second first_failed second_failed = fault.cause ≡ ReadFault
    → IsGivenUpFrom state BYTE_LIMIT first.0 first.1 first_failed fault
    ⊎ IsGivenUpFrom state BYTE_LIMIT second.0 second.1 second_failed fault
IsPassFault (Lines fault) state first second first_failed second_failed = IsUnwrittenReport fault
