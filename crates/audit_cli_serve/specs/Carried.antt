-- The effect of carrying out a request.
use denote.Ref.{Bor}
use Rattle.std.specs.Prelude.{◌≡◌, ◌⊎◌, ◌≤◌, ◌+◌, ◌^◌, ℕ, Option, None, Result, Ok, Err, List, [], length, IfSome}
use Rattle.std.specs.Io.KnownBytes.{Keeps, Appends}
use Rattle.audit_disk_model.specs.declared.sectors.Sectors as sectors
use Rattle.audit_disk.specs.FileFacts.{FileFacts}
use Rattle.audit_disk.specs.declared.files.TheConstants.{OWNER_ONLY}
use Rattle.audit_store.specs.declared.store.Store.{Store}
use Rattle.audit_serve_passes.specs.Streams.{CallModel}
use Rattle.audit_serve_sockets.specs.Bound.{CallFailed}
use Rattle.audit_serve_sockets.specs.Carrying.{LosesSome, client_end, server_end}
use Rattle.audit_serve_sockets.specs.Input.{SpellsInput, SpellsUpToBad}
use Rattle.audit_serve_sockets.specs.Listening.{ListenerModel}
use Rattle.audit_serve_sockets.specs.Looping.{AreLinePasses, IsWholeLoop}
use Rattle.audit_serve_sockets.specs.declared.link.Link.{Link}
use Rattle.audit_server_commit.specs.Serving.{StoreKeepsOn}
use Rattle.audit_text.specs.declared.fault.LinesError.TheVariants.{Read, Write}
use Rattle.audit_cli_base.specs.Arguments.{RefusesWords}
use Rattle.audit_cli_calls.specs.StoreCalls.{StoresModel, OpensAndLetsGo, OpensNone}
use Rattle.audit_cli_base.specs.Mode.{IsMode}
use Rattle.audit_cli_base.specs.declared.status.Status.{Status}
use Rattle.audit_cli_base.specs.declared.status.Status.TheVariants as ends
use Rattle.audit_cli_base.specs.declared.fault.CommandError.{CommandError}
use Rattle.audit_cli_base.specs.declared.fault.CommandError.TheVariants.{File, Lines, Replaced}
use Rattle.audit_cli_serve.specs.Arguments.{rounds_asked, sessions_wanted}
use Rattle.audit_cli_serve.specs.Faults.{serving_status}
use Rattle.audit_cli_serve.specs.Rounds.{round_lines, AreCutOff}
use Rattle.audit_cli_serve.specs.Served.{ServesRounds, StopsRounds, LoopsOver, LoopReachesOver, StopsLoop}
use Rattle.audit_cli_serve.specs.Served.{CutsFrameOver}
use Rattle.audit_cli_serve.specs.Words.{IsServingFault}
use Rattle.audit_cli_serve.specs.declared.fault.ServingError.{ServingError}
use Rattle.audit_cli_serve.specs.declared.fault.ServingError.TheVariants.{Command, BadFrameLine}
use Rattle.audit_cli_serve.specs.declared.request.TheConstants.{STRANGERS}
use Rattle.audit_cli_serve.specs.declared.request.Request.{Request}
use Rattle.audit_cli_serve.specs.declared.request.Request.TheVariants.{Serve, Loop}

-- the file that a request names
abbrev pub file_named : Request → List ℕ
file_named (Serve file socket rounds sessions mode) = file.now
file_named (Loop file socket mode) = file.now

-- the status if the output was written completely
abbrev pub serving_end_status : Result (Unit {0}) ServingError → Status
serving_end_status (Ok done) = ends.Done
serving_end_status (Err fault) = serving_status fault

-- a call of one of these failed, as `Failed` says of its last call
abbrev pub HasFailed : {T : Type 0} → (T → Type 0) → Type 0
HasFailed {T = T} Failed = (it : T) × Failed it

-- What is known because calls failed: some of the system or of files, some of the input, and some of the output.
pub record FailedCalls : Type 1 where
  pub of_system : Type 0
  pub of_input : Type 0
  pub of_output : Type 0

-- these calls, as `Unread` says of an input and `Unwritten` of an output
abbrev pub failed_calls : {F R W : Type 0} → Type 0 → (F → FileFacts) → (R → Type 0) → (W → Type 0) → FailedCalls
failed_calls Failed facts Unread Unwritten = record {
  of_system = CallFailed Failed facts;
  of_input = HasFailed Unread;
  of_output = HasFailed Unwritten;
}

-- `Met` says how many connections of others came in a search for one's own, and the others of an end of a connection
-- that its last call failed, or read these bytes.
module _ {E Q : Type 0} (Met : Q → ℕ → Type 0) (Unwritten Unread : E → Type 0) (Gave : E → List ℕ → Type 0) where
  -- as many connections of others came as are let in
  pub record MeetsOthers : Type 0 where
    pub search : Q
    pub met : Met search STRANGERS

  -- a piece was lost on a connection between two ends
  pub record LosesOnLink : Type 0 where
    pub link : Link E E
    pub lost : LosesSome Unwritten Unread Gave (client_end link) (server_end link)
        ⊎ LosesSome Unwritten Unread Gave (server_end link) (client_end link)

  -- How a loop fails though no call of the system did: there is no connection to oneself, or it lost a piece; or output
  -- of the core isn't whole frames.
  abbrev pub LosesLoop : {D : Type 0} {g : sectors.Ghosts D} → Store D g → Store D g → Type 0
  LosesLoop opened left = MeetsOthers ⊎ (LosesOnLink ⊎ CutsFrameOver opened left)

module _ {D : Type 0} {g : sectors.Ghosts D} where
  -- A whole session was served over a store, whose bytes the lines of the input spell, and its replies were written.
  pub record LoopsAt (input before after : Option (List ℕ)) (opened left : Store D g) : Type 0 where
    pub lines : List (List ℕ)
    pub looped : LoopsOver opened left before after (IsWholeLoop lines)
    pub spelled : IfSome input (SpellsInput lines)

  -- The lines before the one with this number were served, and their replies written; that one spells no bytes.
  pub record LoopsToBad (number : ℕ) (input before after : Option (List ℕ)) (opened left : Store D g) : Type 0 where
    pub lines : List (List ℕ)
    pub count : length lines + 1 ≡ number
    pub looped : LoopsOver opened left before after (AreLinePasses lines)
    pub spelled : IfSome input (SpellsUpToBad lines)

  -- As many lines as are counted were served, and their replies written.
  pub record LoopsThroughAll (before after : Option (List ℕ)) (opened left : Store D g) : Type 0 where
    pub lines : List (List ℕ)
    pub all : 2 ^ 64 ≤ length lines + 2
    pub looped : LoopsOver opened left before after (AreLinePasses lines)

  -- Why a loop over a store ended with an error: the store wasn't in its place at the end, or the session stopped. A
  -- fault of files, of reading or of writing needs a call that failed, as `Failed` says; that of files may also be the
  -- connection's, as `Lost` says, and that of reading comes after as many lines as are counted. Nothing was fed but a
  -- prefix of what the first lines spell; if one spells no bytes, all earlier ones were served.
  pub record IsLoopStopped (Failed : FailedCalls) (Lost : Type 0) (input before after : Option (List ℕ))
      (opened left : Store D g) (fault : ServingError) : Type 0 where
    pub why : (fault ≡ Command Replaced) ⊎ StopsLoop opened left fault
    pub cause : fault ≡ Command File → Failed.of_system ⊎ Lost
    pub unread : fault ≡ Command (Lines Read) → Failed.of_input ⊎ LoopsThroughAll before after opened left
    pub unwritten : fault ≡ Command (Lines Write) → Failed.of_output
    pub reached : (left ≡ opened) ⊎ LoopReachesOver opened left input
    pub bad : (number : ℕ) → fault ≡ BadFrameLine number → LoopsToBad number input before after opened left

-- `Bound` says where a socket was bound.
module _ {D : Type 0} {g : sectors.Ghosts D} {T L : Type 0} (M : CallModel T) (N : ListenerModel L T)
    (Bound : L → Type 0) where
  -- These rounds were served over a store, and this many sessions in each, by a socket that was bound there.
  pub record ServesAt (sessions : ℕ) (turns : List ℕ) (opened left : Store D g) : Type 0 where
    pub bound : L
    pub listens : Bound bound
    pub last : L
    pub served : ServesRounds M N sessions turns opened left bound last

  -- Serving over a store ended with an error, and this text was written: a round stopped.
  pub record StopsAt (sessions : ℕ) (opened left : Store D g) (text : List ℕ) (fault : ServingError) : Type 0 where
    pub bound : L
    pub listens : Bound bound
    pub last : L
    pub stops : StopsRounds M N sessions opened left bound last text fault

  -- Rounds were served over a store, and this text was written: the line of each, or the last one is cut off.
  pub record ServesWithLines (sessions : ℕ) (opened : Store D g) (text : List ℕ) : Type 0 where
    pub turns : List ℕ
    pub mid : Store D g
    pub bound : L
    pub listens : Bound bound
    pub last : L
    pub served : ServesRounds M N sessions turns opened mid bound last
    pub lines : (text ≡ round_lines 1 turns) ⊎ AreCutOff turns text

  -- Why serving over a store ended with an error: a round stopped; or there was no socket, and nothing was written; or
  -- the store wasn't in its place at the end, or the socket's file couldn't be removed.
  abbrev pub IsStoppedAt : ℕ → Store D g → Store D g → List ℕ → ServingError → Type 0
  IsStoppedAt sessions opened left text fault =
      StopsAt sessions opened left text fault
      ⊎ (((fault ≡ Command Replaced) ⊎ (fault ≡ Command File)) × ((text ≡ []) ⊎ ServesWithLines sessions opened text))

  -- the same, and the output has that text
  abbrev pub IsStoppedWith : ℕ → Store D g → Store D g → Option (List ℕ) → Option (List ℕ) → ServingError → Type 0
  IsStoppedWith sessions opened left before after fault =
      (text : List ℕ) × Appends before after text × IsStoppedAt sessions opened left text fault

-- ---- over the store that was opened, whose device has these ghost members. `At` says at which path it was, `stores`
-- which calls opened stores and let them go, and `Bound` at which path a socket listens, and which permission bits its
-- file has.

module _ {O S : Type 0} (stores : StoresModel O S) where
  -- No store was opened, this is why, and nothing was written: a word is wrong, or the opening failed.
  abbrev pub IsUnopened : List ℕ → O → O → Option (List ℕ) → Option (List ℕ) → ServingError → Type 0
  IsUnopened path was now before after fault = (cause : CommandError) × (fault ≡ Command cause)
      × (OpensNone stores path was now cause × Keeps before after)

module _ {D : Type 0} (g : sectors.Ghosts D) {O : Type 0} (stores : StoresModel O (Store D g))
    (At : List ℕ → Store D g → Type 0) where
  -- It was opened, and let go with the events that it had, and maybe more. No other call opened a store or let one go.
  pub record KeepsOpened (path : List ℕ) (was now : O) (opened left : Store D g) : Type 0 where
    pub at : At path opened
    pub calls : OpensAndLetsGo stores path was now opened left
    pub kept : StoreKeepsOn opened left

  -- the same, and a loop over it ended with an error
  pub record LoopStopsOpened (Failed : FailedCalls) (Lost : Store D g → Store D g → Type 0) (path : List ℕ)
      (was now : O) (input before after : Option (List ℕ)) (fault : ServingError) : Type 0 where
    pub opened : Store D g
    pub left : Store D g
    pub kept : KeepsOpened path was now opened left
    pub stopped : IsLoopStopped Failed (Lost opened left) input before after opened left fault

-- `Connects` says to which path a connection was made.
module _ {D : Type 0} (g : sectors.Ghosts D) {O : Type 0} (stores : StoresModel O (Store D g))
    (At : List ℕ → Store D g → Type 0) {L : Type 0} (Bound : List ℕ → ℕ → L → Type 0)
    (Connects : List ℕ → Type 0) where
  -- a whole session was served over it, such a socket was bound, and a connection was made to its path
  pub record LoopsOpened (path socket : List ℕ) (mode : ℕ) (was now : O) (input before after : Option (List ℕ))
      : Type 0 where
    pub opened : Store D g
    pub left : Store D g
    pub kept : KeepsOpened g stores At path was now opened left
    pub bound : L
    pub listens : Bound socket mode bound
    pub connects : Connects socket
    pub looped : LoopsAt input before after opened left

  -- the same with the permissions that were asked for
  pub record LoopsAsked (path socket : List ℕ) (socket_mode : Option (Bor (List ℕ))) (was now : O)
      (input before after : Option (List ℕ)) : Type 0 where
    pub mode : ℕ
    pub owner : socket_mode ≡ None → mode ≡ OWNER_ONLY
    pub mode_is : IfSome socket_mode (λ word. IsMode word.now mode)
    pub looped : LoopsOpened path socket mode was now input before after

module _ {D : Type 0} (g : sectors.Ghosts D) {O : Type 0} (stores : StoresModel O (Store D g))
    (At : List ℕ → Store D g → Type 0) {T L : Type 0} (M : CallModel T) (N : ListenerModel L T)
    (Bound : List ℕ → ℕ → L → Type 0) where
  -- this many rounds were served over it, and the line of each was written, in order
  pub record ServesOpened (path socket : List ℕ) (mode sessions rounds : ℕ) (was now : O)
      (before after : Option (List ℕ)) : Type 0 where
    pub opened : Store D g
    pub left : Store D g
    pub kept : KeepsOpened g stores At path was now opened left
    pub turns : List ℕ
    pub count : length turns ≡ rounds
    pub served : ServesAt M N (Bound socket mode) sessions turns opened left
    pub lines : Appends before after (round_lines 1 turns)

  -- as many as asked for, each of as many sessions, on a socket at the path and with the permissions that were asked for
  pub record ServesRoundsAsked (path socket rounds : List ℕ) (sessions socket_mode : Option (Bor (List ℕ)))
      (was now : O) (before after : Option (List ℕ)) : Type 0 where
    pub count : ℕ
    pub rounds_are : rounds_asked rounds ≡ Ok count
    pub each : ℕ
    pub sessions_are : sessions_wanted sessions ≡ Ok each
    pub mode : ℕ
    pub owner : socket_mode ≡ None → mode ≡ OWNER_ONLY
    pub mode_is : IfSome socket_mode (λ word. IsMode word.now mode)
    pub served : ServesOpened path socket mode each count was now before after

  -- serving over the store that was opened stopped with this error
  pub record StopsOpened (path socket : List ℕ) (mode sessions : ℕ) (was now : O) (before after : Option (List ℕ))
      (fault : ServingError) : Type 0 where
    pub opened : Store D g
    pub left : Store D g
    pub kept : KeepsOpened g stores At path was now opened left
    pub stopped : IsStoppedWith M N (Bound socket mode) sessions opened left before after fault

-- `Failed` says which calls failed, and `Lost` that a loop's connection did.
module _ {D : Type 0} (g : sectors.Ghosts D) {O : Type 0} (stores : StoresModel O (Store D g))
    (At : List ℕ → Store D g → Type 0) {T L : Type 0} (M : CallModel T) (N : ListenerModel L T)
    (Bound : List ℕ → ℕ → L → Type 0) (Failed : FailedCalls) (Connects : List ℕ → Type 0)
    (Lost : Store D g → Store D g → Type 0) where
  -- A store was opened in the file that was named, and let go with its events. As many sessions as asked for were served
  -- in each round over it, on a socket at the path that was asked for, up to this error. A fault of files or of writing
  -- needs a call that failed.
  abbrev pub StopsAsked : Request → O → O → Option (List ℕ) → Option (List ℕ) → Option (List ℕ) → ServingError
      → Type 0
  StopsAsked (Serve file socket rounds sessions mode) was now input before after fault =
      (fault ≡ Command File → Failed.of_system) × (fault ≡ Command (Lines Write) → Failed.of_output)
      × ((each : ℕ) × (sessions_wanted sessions ≡ Ok each)
      × ((bits : ℕ) × StopsOpened g stores At M N Bound file.now socket.now bits each was now before after fault))
  StopsAsked (Loop file socket mode) was now input before after fault =
      LoopStopsOpened g stores At Failed Lost file.now was now input before after fault

  abbrev pub IsServedAsAsked : Request → O → O → Option (List ℕ) → Option (List ℕ) → Option (List ℕ) → Type 0
  IsServedAsAsked (Serve file socket rounds sessions mode) was now input before after =
      ServesRoundsAsked g stores At M N Bound file.now socket.now rounds.now sessions mode was now before after
  IsServedAsAsked (Loop file socket mode) was now input before after =
      LoopsAsked g stores At Bound Connects file.now socket.now mode was now input before after

  -- A request was carried out with this result. On success what it asks for was served and written; otherwise no store
  -- was opened and nothing was written, or that one was which was named, and it was let go with its events.
  abbrev pub IsServingDone : Request → O → O → Option (List ℕ) → Option (List ℕ) → Option (List ℕ)
      → Result (Unit {0}) ServingError → Type 0
  IsServingDone request was now input before after (Ok done) = IsServedAsAsked request was now input before after
  IsServingDone request was now input before after (Err fault) =
      IsUnopened stores (file_named request) was now before after fault
      ⊎ StopsAsked request was now input before after fault

  -- A request was carried out with this result, and the output was then flushed. The program's status is that of the
  -- result, or that of an output that couldn't be flushed.
  pub record IsServingCarriedOut (request : Request) (was now : O) (input before after : Option (List ℕ))
      (Flushed Unflushed : Type 0) (status : Status) : Type 0 where
    pub done : Result (Unit {0}) ServingError
    pub written : Option (List ℕ)
    pub words : RefusesWords (IsServingFault request) before written done
    pub served : IsServingDone request was now input before written done
    pub flushed : Keeps written after
    pub status_is : ((status ≡ serving_end_status done) × Flushed) ⊎ ((status ≡ ends.Device) × Unflushed)
