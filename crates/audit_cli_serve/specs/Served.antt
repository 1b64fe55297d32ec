-- Serving a store by a new core: what was done, and the store that remains.
use Rattle.std.specs.Prelude.{◌≡◌, ◌⊎◌, ℕ, ◌≤◌, false, Option, List, [], ◌∷◌, length, map}
use Rattle.std.specs.List.{AllByRecursion}
use Rattle.audit_disk_model.specs.declared.sectors.Sectors as sectors
use Rattle.audit_store.specs.declared.store.Store.{Store}
use Rattle.audit_store.specs.declared.store_error.StoreError.{StoreError}
use Rattle.audit_server_commit.specs.Committer.{store_of}
use Rattle.audit_serve_passes.specs.Steps.{StepData}
use Rattle.audit_serve_passes.specs.Streams.{CallModel}
use Rattle.audit_serve_passes.specs.Pairs.{duplex_model, inner_of}
use Rattle.audit_serve_passes.specs.declared.duplex_stream.DuplexStream.{DuplexStream}
use Rattle.audit_serve_passes.specs.Transition.{Transition, EndsAs, Reached, IsServed, IsCut, AnySteps}
use Rattle.audit_server_commit.specs.Serving.{IsRefusedAs}
use Rattle.audit_server.specs.declared.server_core.Core.{Core}
use Rattle.audit_server.specs.Core.{committer_of}
use Rattle.audit_server.specs.CoreModel.{core_model}
use Rattle.audit_server.specs.NewCore.{CoreTerms, IsNewCore}
use Rattle.audit_text.specs.declared.fault.LinesError.TheVariants.{Read, Write, Memory}
use Rattle.audit_serve_sockets.specs.Listening.{ListenerModel}
use Rattle.audit_serve_sockets.specs.Looping.{BringsLines, CutsFrameOff, LoopTransition, LoopReached}
use Rattle.audit_cli_base.specs.declared.fault.CommandError.TheVariants.{File, Lines, Refused}
use Rattle.audit_cli_serve.specs.Rounds.{round_lines, AreCutOff}
use Rattle.audit_cli_serve.specs.declared.fault.ServingError.{ServingError}
use Rattle.audit_cli_serve.specs.declared.fault.ServingError.TheVariants.{Command, BadFrameLine, TooManyPasses}

-- a core of `serve` and `loop` keeps no reserve, and counts no kind
abbrev pub plain_terms : CoreTerms
plain_terms = record { reserve = 0; counted = [] }

-- memory was refused for the line of a round, or the line couldn't be written whole
abbrev pub IsLineLost : ServingError → Type 0
IsLineLost fault = (fault ≡ Command (Lines Write)) ⊎ (fault ≡ Command (Lines Memory))

-- lines couldn't be read or written, or memory was refused
abbrev pub AreLinesLost : ServingError → Type 0
AreLinesLost fault = (fault ≡ Command (Lines Read)) ⊎ IsLineLost fault

module _ {D : Type 0} {g : sectors.Ghosts D} where
  -- a session over lines, whose steps have this shape
  pub record LoopsOver (old new : Store D g) (before after : Option (List ℕ))
      (Shape : List StepData → Type 0) : Type 0 where
    pub core : Core D g
    pub made : IsNewCore plain_terms old core
    pub last : Core D g
    pub left : new ≡ store_of (committer_of last)
    pub run : LoopTransition core_model core last before after Shape

  -- a session over these lines of a reader did some steps
  pub record LoopReachesOver (old new : Store D g) (known : Option (List ℕ)) : Type 0 where
    pub core : Core D g
    pub made : IsNewCore plain_terms old core
    pub last : Core D g
    pub left : new ≡ store_of (committer_of last)
    pub run : LoopReached core_model core last (BringsLines known)

  -- output of a core over the store wasn't whole frames
  pub record CutsFrameOver (old new : Store D g) : Type 0 where
    pub core : Core D g
    pub made : IsNewCore plain_terms old core
    pub last : Core D g
    pub left : new ≡ store_of (committer_of last)
    pub cut : CutsFrameOff core_model core last

  -- the refusal: the core refused a step, or memory for a core was refused
  abbrev pub HasRefused : Store D g → Store D g → ServingError → Type 0
  HasRefused old new fault = (error : StoreError) × (fault ≡ Command (Refused error)) × IsRefusedAs error old new

  -- Why a session over lines stopped: a step or memory was refused, the connection or the lines failed, or a line
  -- spells no bytes.
  abbrev pub StopsLoop : Store D g → Store D g → ServingError → Type 0
  StopsLoop old new fault = HasRefused old new fault
      ⊎ ((fault ≡ Command File)
      ⊎ (AreLinesLost fault ⊎ ((number : ℕ) × (fault ≡ BadFrameLine number))))

-- no write has failed on the stream
abbrev pub IsOpen : {T : Type 0} → DuplexStream T → Type 0
IsOpen stream = stream.closed ≡ false

-- ---- the connections of a round

module _ {T L : Type 0} (N : ListenerModel L T) where
  -- these are streams over all connections that the socket accepted, as many as a round has sessions
  pub record AreAccepted (sessions : ℕ) (before after : L) (streams : List (DuplexStream T)) : Type 0 where
    pub each : length streams ≡ sessions
    pub accepted : N.Accepted before after (map inner_of streams)
    pub sound : AllByRecursion IsOpen streams

  -- at most that many connections were accepted, and let go
  pub record AreLetGo (sessions : ℕ) (before after : L) : Type 0 where
    pub gone : List T
    pub most : length gone ≤ sessions
    pub accepted : N.Accepted before after gone

-- Rounds over connections, given what the connections' calls do, and which connections the socket accepts.
module _ {D : Type 0} {g : sectors.Ghosts D} {T L : Type 0} (M : CallModel T) (N : ListenerModel L T) where
  -- A new core over the store served the streams of the connections that were accepted, of all of them, in this many
  -- passes.
  pub record ServesRound (sessions turns : ℕ) (old new : Store D g) (before after : L) : Type 0 where
    pub core : Core D g
    pub made : IsNewCore plain_terms old core
    pub last : Core D g
    pub left : new ≡ store_of (committer_of last)
    pub streams : List (DuplexStream T)
    pub later : List (DuplexStream T)
    pub accepted : AreAccepted N sessions before after streams
    pub run : Transition core_model (duplex_model M) core last streams later
        (IsServed core_model sessions turns core last)

  -- rounds in order, each by a new core over the store that the previous one left
  abbrev pub ServesRounds : ℕ → List ℕ → Store D g → Store D g → L → L → Type 0
  ServesRounds sessions [] old new before after = (new ≡ old) × (after ≡ before)
  ServesRounds sessions (turns ∷ later) old new before after = (mid : Store D g) × (between : L)
      × ServesRound sessions turns old mid before between × ServesRounds sessions later mid new between after

  -- ---- whatever stopped the round

  -- A new core over the store did some steps for such streams.
  pub record ReachesByRound (sessions : ℕ) (old new : Store D g) (before after : L) : Type 0 where
    pub core : Core D g
    pub made : IsNewCore plain_terms old core
    pub last : Core D g
    pub left : new ≡ store_of (committer_of last)
    pub streams : List (DuplexStream T)
    pub later : List (DuplexStream T)
    pub accepted : AreAccepted N sessions before after streams
    pub run : Reached core_model (duplex_model M) core last streams later AnySteps

  -- The round didn't begin: some of the connections that it is for were accepted, and were let go.
  pub record IsNotBegun (sessions : ℕ) (old new : Store D g) (before after : L) : Type 0 where
    pub same : new ≡ old
    pub gone : AreLetGo N sessions before after

  -- rounds in order, followed by a part of one, or by nothing
  pub record ReachesByRounds (sessions : ℕ) (turns : List ℕ) (old new : Store D g) (before after : L) : Type 0 where
    pub mid : Store D g
    pub between : L
    pub served : ServesRounds sessions turns old mid before between
    pub last : IsNotBegun sessions mid new between after ⊎ ReachesByRound sessions mid new between after

  -- ---- why the round stopped

  -- a round had as many passes as the limit allows, and the sessions that were still live were ended
  pub record CutsRound (sessions : ℕ) (old new : Store D g) (before after : L) : Type 0 where
    pub core : Core D g
    pub made : IsNewCore plain_terms old core
    pub last : Core D g
    pub left : new ≡ store_of (committer_of last)
    pub streams : List (DuplexStream T)
    pub later : List (DuplexStream T)
    pub accepted : AreAccepted N sessions before after streams
    pub run : EndsAs core_model (duplex_model M) core last streams later (IsCut core_model sessions core last)

  -- Why a round stopped: a step or memory was refused, a connection couldn't be accepted, or it had as many passes as
  -- the limit allows.
  abbrev pub StopsRound : ℕ → Store D g → Store D g → L → L → ServingError → Type 0
  StopsRound sessions old new before after fault = HasRefused old new fault
      ⊎ (((fault ≡ Command File) × (new ≡ old)) ⊎ ((fault ≡ TooManyPasses) × CutsRound sessions old new before after))

  -- Rounds were served, and this text was written. Then one stopped with this error, and each of them has its line; or
  -- the line of the last one was cut off.
  pub record StopsRounds (sessions : ℕ) (old new : Store D g) (before after : L) (text : List ℕ) (fault : ServingError)
      : Type 0 where
    pub turns : List ℕ
    pub mid : Store D g
    pub between : L
    pub served : ServesRounds sessions turns old mid before between
    pub stops : (StopsRound sessions mid new between after fault × (text ≡ round_lines 1 turns))
        ⊎ (IsLineLost fault × (new ≡ mid) × AreCutOff turns text)
