-- A core that serves sessions, as contracts see it.
use Rattle.std.specs.Prelude.{◌≡◌, ℕ, ◌+◌, ◌==◌, Bool, true, if◌then◌else◌, List, [], ◌∷◌, ◌++◌, length}
use Rattle.std.specs.List.{AllByRecursion}
use Rattle.audit_serve_passes.specs.declared.rights.Rights.{Rights}
use Rattle.audit_serve_passes.specs.Steps.{StepData, IsAbout, IsPartOf}

-- bytes for each session: none, or those of one session
abbrev pub no_bytes : ℕ → List ℕ
no_bytes session = []

abbrev pub bytes_for : ℕ → List ℕ → ℕ → List ℕ
bytes_for k bytes session = if session == k then bytes else []

-- what a request wants
pub data RequestKind : Type 0 where
  -- to append an event or to close the log
  appending : RequestKind
  -- it only asks, or is refused: this is the length in bytes of the longest reply to requests of its kind
  asking : ℕ → RequestKind

-- the longest replies to the questions among requests, all of them
abbrev pub asked_by : List RequestKind → ℕ
asked_by [] = 0
asked_by (appending ∷ requests) = asked_by requests
asked_by (asking reply ∷ requests) = reply + asked_by requests

pub record CoreModel (C : Type 0) : Type 1 where
  -- whether a session has ended after the core did these steps
  pub ended : C → List StepData → ℕ → Bool
  -- whether a session has ended by a request that its rights don't allow
  pub cut_off : C → ℕ → Bool
  -- the bytes that wait for a session
  pub output : C → ℕ → List ℕ
  -- nothing waits to be answered
  pub Idle : C → Type 0
  -- the most bytes that a session may be sent for what it has asked: those that wait for it, and the longest replies to
  -- its requests that wait to be answered
  pub owed : C → ℕ → ℕ
  -- how many requests wait to be answered
  pub waiting : C → ℕ
  -- the requests of a session that these bytes complete, in order, and the longest replies to all of them
  pub requests : C → ℕ → List ℕ → List RequestKind
  pub replies : C → ℕ → List ℕ → ℕ
  -- the longest reply to a request, to one that appends, and what a session is sent if the end of its stream cuts a
  -- request off
  pub longest : ℕ
  pub acknowledgement : ℕ
  pub refusal : ℕ
  -- from the first state to the second a session was started anew with these rights, and nothing else has changed
  pub Begins : ℕ → Rights → C → C → Type 0
  -- memory was refused for a session that was to be started anew
  pub LacksMemory : ℕ → C → C → Type 0
  -- the core did these steps from the first state to the second, and these bytes were taken from each session's output
  pub DidSteps : C → C → List StepData → (ℕ → List ℕ) → Type 0
  -- from the first state to the second the core did these steps, of which the last may be a part of a refused step,
  -- and these bytes were taken from each session's output
  pub DidStepsInPart : C → C → List StepData → (ℕ → List ℕ) → Type 0
  pub nothing_done : (core : C) → DidSteps core core [] no_bytes
  pub more_done : (old mid new : C) (steps later : List StepData) (taken more : ℕ → List ℕ)
      → DidSteps old mid steps taken → DidSteps mid new later more
      → DidSteps old new (steps ++ later) (λ session. taken session ++ more session)
  -- whether a session has ended depends only on the steps of that session
  pub ended_by_steps : (old new : C) (steps later : List StepData) (taken : ℕ → List ℕ) (k : ℕ)
      → DidSteps old new steps taken → ended new later k ≡ ended old (steps ++ later) k
  pub ended_alone : (core : C) (steps : List StepData) (step : StepData) (k : ℕ) → (IsAbout k step → ⊥)
      → ended core (steps ++ step ∷ []) k ≡ ended core steps k
  -- a session that has ended stays so
  pub ended_stays : (core : C) (steps later : List StepData) (k : ℕ) → ended core steps k ≡ true
      → ended core (steps ++ later) k ≡ true
  -- what bytes complete depends on no other session
  pub requests_alone : (old new : C) (steps : List StepData) (taken : ℕ → List ℕ) (k : ℕ) (bytes : List ℕ)
      → DidSteps old new steps taken → AllByRecursion (λ step. IsAbout k step → ⊥) steps
      → (requests new k bytes ≡ requests old k bytes) × (replies new k bytes ≡ replies old k bytes)
  pub no_replies : (core : C) (k : ℕ) (bytes : List ℕ) → requests core k bytes ≡ [] → replies core k bytes ≡ 0
  -- a session that is started anew doesn't change whether another has ended
  pub begun_alone : (old new : C) (k other : ℕ) (rights : Rights) → Begins k rights old new → (other ≡ k → ⊥)
      → ended new [] other ≡ ended old [] other
  pub none_waits : (core : C) → Idle core → waiting core ≡ 0
  -- if nothing waits to be answered, a session is owed what waits for it
  pub owed_idle : (core : C) (k : ℕ) → Idle core → owed core k ≡ length (output core k)
  pub done_in_part : (old new : C) (steps : List StepData) (taken : ℕ → List ℕ) → DidSteps old new steps taken
      → DidStepsInPart old new steps taken
  -- nothing more is done after a refusal
  pub then_in_part : (old mid new : C) (steps later : List StepData) (taken more : ℕ → List ℕ)
      → DidSteps old mid steps taken → DidStepsInPart mid new later more
      → DidStepsInPart old new (steps ++ later) (λ session. taken session ++ more session)

-- a call for this step, which may be refused, took the core through a part of the step
abbrev pub GoesBy : {C : Type 0} → CoreModel C → StepData → C → C → Type 0
GoesBy M step old new = (part : List StepData) × IsPartOf step part × M.DidStepsInPart old new part no_bytes
