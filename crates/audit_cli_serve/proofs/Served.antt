-- Serving a store by a new core.
use Rattle.std.proofs.Common.{◌≡◌, ◌⊎◌, ◌∙◌, inl, inr, ℕ, ◌≤◌, ◌+◌, ◌^◌, Option, Some, Result, Ok, Err, OnErr, List, [], ◌∷◌, ◌++◌, length, map, refl, sym, ap, subst, arith}
use Rattle.std.proofs.lemmas.List.{append-nil, map-append, length-append, length-map}
use Rattle.std.specs.List.{AllByRecursion}
use Rattle.std.specs.Prelude.{OnOk}
use Rattle.audit_disk_model.specs.declared.sectors.Sectors as sectors
use Rattle.audit_store.specs.declared.store.Store.{Store}
use Rattle.audit_store.specs.Store.{is_broken}
use Rattle.audit_store.specs.declared.store_error.StoreError.{StoreError}
use Rattle.audit_store.specs.declared.store_error.StoreError.TheVariants.{Memory}
use Rattle.audit_server_commit.specs.Committer.{store_of}
use Rattle.audit_server_commit.specs.Serving.{IsDurablyServed, IsRefusedAs, StoreKeepsOn}
use Rattle.audit_server_commit.proofs.ServedSteps.{kept_none, durably_keeps}
use Rattle.audit_server.specs.declared.server_core.Core.{Core}
use Rattle.audit_server.specs.Core.{committer_of, data_of, Refuses}
use Rattle.audit_server.specs.CoreModel.{core_model}
use Rattle.audit_serve_passes.specs.Steps.{StepData}
use Rattle.audit_serve_passes.specs.Streams.{CallModel}
use Rattle.audit_serve_passes.specs.Pairs.{duplex_model, inner_of, IsNewDuplex}
use Rattle.audit_serve_passes.specs.declared.duplex_stream.DuplexStream.{DuplexStream}
use Rattle.audit_serve_passes.specs.declared.serve_end.ServeFault.{ServeFault}
use Rattle.audit_serve_passes.specs.declared.serve_end.ServeFault.TheVariants as serving
use Rattle.audit_serve_passes.specs.Transition.{Transition, EndsAs, Reached, IsServed, IsCut, AnySteps}
use Rattle.audit_serve_sockets.specs.Listening.{ListenerModel}
use Rattle.audit_serve_sockets.specs.Looping.{AreLinePasses, BringsLines, CutsFrameOff, LoopTransition, LoopReached}
use Rattle.audit_serve_sockets.specs.LoopFaults.{IsLineFault, IsLoopError}
use Rattle.audit_serve_sockets.specs.declared.loop_fault.LoopError.{LoopError}
use Rattle.audit_serve_sockets.specs.declared.loop_fault.LoopError.TheVariants as looping
use Rattle.audit_text.specs.declared.fault.LinesError.{LinesError}
use Rattle.audit_text.specs.declared.fault.LinesError.TheVariants as lines
use Rattle.audit_cli_base.specs.declared.fault.CommandError.TheVariants.{File, Lines, Refused}
use Rattle.audit_cli_serve.specs.declared.fault.ServingError.{ServingError}
use Rattle.audit_cli_serve.specs.declared.fault.ServingError.TheVariants.{Command, BadFrameLine}
use Rattle.audit_cli_serve.specs.Faults.{of_serving, of_loop}
use Rattle.audit_server.specs.NewCore.{IsNewCore}
use Rattle.audit_cli_serve.specs.Served.{plain_terms, CutsFrameOver, LoopsOver, ServesRound, ServesRounds, LoopReachesOver, ReachesByRound, IsOpen, AreAccepted, AreLetGo, AreLinesLost, IsLineLost, HasRefused, StopsRound, StopsLoop}

-- no other fault is reported as a line that spells no bytes
pub bad_of_loop : (fault : LoopError StoreError) (number : ℕ) → of_loop fault ≡ BadFrameLine number → fault ≡ looping.BadLine number
bad_of_loop looping.Connection number is = absurd (cc is)
bad_of_loop (looping.Lines fault) number is = absurd (cc is)
bad_of_loop (looping.BadLine line) number is = cc is
bad_of_loop (looping.Core error) number is = absurd (cc is)

-- nor as a file fault, or one of lines
pub file_of_loop : (fault : LoopError StoreError) → of_loop fault ≡ Command File → fault ≡ looping.Connection
file_of_loop looping.Connection is = refl
file_of_loop (looping.Lines fault) is = absurd (cc is)
file_of_loop (looping.BadLine line) is = absurd (cc is)
file_of_loop (looping.Core error) is = absurd (cc is)

pub lines_of_loop : (fault : LoopError StoreError) (cause : LinesError) → of_loop fault ≡ Command (Lines cause) → fault ≡ looping.Lines cause
lines_of_loop looping.Connection cause is = absurd (cc is)
lines_of_loop (looping.Lines fault) cause is = cc is
lines_of_loop (looping.BadLine line) cause is = absurd (cc is)
lines_of_loop (looping.Core error) cause is = absurd (cc is)

-- which errors a session over lines has of them
lines_lost : (cause : LinesError) → IsLineFault cause → AreLinesLost (Command (Lines cause))
lines_lost lines.Read is = inl refl
lines_lost lines.Write is = inr (inl refl)
lines_lost lines.Memory is = inr (inr refl)
lines_lost lines.InputTooLong is = absurd is
lines_lost (lines.Line line cause) is = absurd is

-- a refused step is no file fault
pub serving_no_file : (fault : ServeFault StoreError) → of_serving fault ≡ Command File → ⊥
serving_no_file (serving.Core error) is = cc is
serving_no_file serving.ReadFault is = cc is

-- what holds of a result that is Ok, and of one that isn't
pub on_ok : {A F P : Type 0} (outcome : Result A F) (value : A) → outcome ≡ Ok value → P → OnOk outcome P
on_ok {A = A} {F = F} {P = P} outcome value is has = subst (λ (answer : Result A F). OnOk answer P) (sym is) has

pub on_err : {A F : Type 0} (P : Type 0) (outcome : Result A F) (fault : F) → outcome ≡ Err fault → OnOk outcome P
on_err {A = A} {F = F} P outcome fault is = subst (λ (answer : Result A F). OnOk answer P) (sym is) tt

-- the line of a round wasn't written
pub line_lost : (cause : LinesError) (fault : ServingError) → fault ≡ Command (Lines cause) → (cause ≡ lines.Write) ⊎ (cause ≡ lines.Memory) → IsLineLost fault
line_lost cause fault is (inl write) = inl (is ∙ ap (λ (of : LinesError). Command (Lines of)) write)
line_lost cause fault is (inr memory) = inr (is ∙ ap (λ (of : LinesError). Command (Lines of)) memory)

module _ {D : Type 0} {g : sectors.Ghosts D} where
  -- an unchanged store
  pub kept_as : (old new : Store D g) → new ≡ old → StoreKeepsOn old new
  kept_as old new same = subst (StoreKeepsOn old) (sym same) (kept_none old)

  -- the stores of a new core and of the same core afterwards
  pub kept_by : {steps : List StepData} {taken : ℕ → List ℕ} (old new : Store D g) (core last : Core D g) → store_of (committer_of core) ≡ old → new ≡ store_of (committer_of last) → IsDurablyServed (data_of core) (data_of last) steps taken
      → StoreKeepsOn old new
  kept_by old new core last made left durably =
      subst (StoreKeepsOn old) (sym left) (subst (λ (store : Store D g). StoreKeepsOn store (store_of (committer_of last))) made (durably_keeps (data_of core) (data_of last) durably))

  pub looped : (old new : Store D g) (core last : Core D g) {before after : Option (List ℕ)} {Shape : List StepData → Type 0} → IsNewCore plain_terms old core → new ≡ store_of (committer_of last) → LoopTransition core_model core last before after Shape
      → LoopsOver old new before after Shape
  looped old new core last made left run = record { core = core; made = made; last = last; left = left; run = run }

  -- whatever stopped the session
  pub loop_reached : (old new : Store D g) (core last : Core D g) {known : Option (List ℕ)} → IsNewCore plain_terms old core → new ≡ store_of (committer_of last) → LoopReached core_model core last (BringsLines known) → LoopReachesOver old new known
  loop_reached old new core last made left run = record { core = core; made = made; last = last; left = left; run = run }

  -- ---- why it stopped

  -- output wasn't whole frames
  pub cut_over : {A B : Type 0} (old new : Store D g) (core last : Core D g) → IsNewCore plain_terms old core → new ≡ store_of (committer_of last) → A ⊎ (B ⊎ CutsFrameOff core_model core last) → A ⊎ (B ⊎ CutsFrameOver old new)
  cut_over old new core last made left (inl one) = inl one
  cut_over old new core last made left (inr (inl other)) = inr (inl other)
  cut_over old new core last made left (inr (inr cut)) = inr (inr (record { core = core; made = made; last = last; left = left; cut = cut }))

  -- there were as many lines as are counted
  pub unread_over : {A : Type 0} {before after : Option (List ℕ)} (old new : Store D g) (core last : Core D g) → IsNewCore plain_terms old core → new ≡ store_of (committer_of last)
      → A ⊎ ((lines : List (List ℕ)) × (2 ^ 64 ≤ length lines + 2) × LoopTransition core_model core last before after (AreLinePasses lines))
      → A ⊎ ((lines : List (List ℕ)) × (2 ^ 64 ≤ length lines + 2) × LoopsOver old new before after (AreLinePasses lines))
  unread_over old new core last made left (inl failed) = inl failed
  unread_over old new core last made left (inr (lines, many, run)) = inr (lines, many, looped old new core last made left run)

  -- memory was refused, and the store is unchanged
  pub no_memory_for : (old new : Store D g) (fault : ServingError) → fault ≡ Command (Refused Memory) → new ≡ old → HasRefused old new fault
  no_memory_for old new fault is same = (Memory, is, inr (inr (refl, ap is_broken same)))

  -- the core refused a step
  pub core_refused : (old new : Store D g) (core last : Core D g) (error : StoreError) → IsNewCore plain_terms old core → new ≡ store_of (committer_of last) → Refuses core last error → IsRefusedAs error old new
  core_refused old new core last error made left refused =
      subst (λ (store : Store D g). IsRefusedAs error old store) (sym left) (subst (λ (store : Store D g). IsRefusedAs error store (store_of (committer_of last))) made.store_is refused)

  pub loop_stopped : (old new : Store D g) (core last : Core D g) (fault : LoopError StoreError) → IsNewCore plain_terms old core → new ≡ store_of (committer_of last) → IsLoopError fault
      → ((error : StoreError) → fault ≡ looping.Core error → Refuses core last error) → StopsLoop old new (of_loop fault)
  loop_stopped old new core last looping.Connection made left kind refused = inr (inl refl)
  loop_stopped old new core last (looping.Lines cause) made left kind refused = inr (inr (inl (lines_lost cause kind)))
  loop_stopped old new core last (looping.BadLine number) made left kind refused = inr (inr (inr (number, refl)))
  loop_stopped old new core last (looping.Core error) made left kind refused = inl (error, refl, core_refused old new core last error made left (refused error refl))

-- one more element
pub all_and : {X : Type 0} (P : X → Type 0) (xs : List X) (x : X) → AllByRecursion P xs → P x → AllByRecursion P (xs ++ x ∷ [])
all_and P [] x each one = (one, tt)
all_and P (first ∷ xs) x each one = (each.0, all_and P xs x each.1 one)

-- ---- the connections of a round

module _ {T L : Type 0} (N : ListenerModel L T) where
  pub none_yet : (socket : L) → AreAccepted N 0 socket socket []
  none_yet socket = record { each = refl; accepted = N.none_accepted socket; sound = tt }

  pub one_more : (count : ℕ) (before between after : L) (streams : List (DuplexStream T)) (connection : T) (stream : DuplexStream T) → AreAccepted N count before between streams → N.Accepted between after (connection ∷ [])
      → IsNewDuplex connection stream → AreAccepted N (count + 1) before after (streams ++ stream ∷ [])
  one_more count before between after streams connection stream so_far next new = record {
    each = length-append streams (stream ∷ []) ∙ ap (λ (n : ℕ). n + 1) so_far.each;
    accepted = subst (N.Accepted before after) (ap (λ (one : T). map inner_of streams ++ one ∷ []) (sym new.inner_is) ∙ sym (map-append inner_of streams (stream ∷ [])))
        (N.more_accepted before between after (map inner_of streams) (connection ∷ []) so_far.accepted next);
    sound = all_and IsOpen streams stream so_far.sound new.closed;
  }

  -- The round doesn't begin if a further connection can't be accepted.
  pub gone_at_a_fault : {A F : Type 0} (count most : ℕ) (before between after : L) (streams : List (DuplexStream T)) (result : Result A F) → count ≤ most → AreAccepted N count before between streams → N.Accepted between after [] → OnErr result (AreLetGo N most before after)
  gone_at_a_fault count most before between after streams (Ok value) few so_far none = tt
  gone_at_a_fault count most before between after streams (Err fault) few so_far none = record {
    gone = map inner_of streams;
    most = omega (arith, few, so_far.each, length-map streams inner_of);
    accepted = subst (N.Accepted before after) (append-nil (map inner_of streams)) (N.more_accepted before between after (map inner_of streams) [] so_far.accepted none);
  }

  pub none_gone : (most : ℕ) (socket : L) → AreLetGo N most socket socket
  none_gone most socket = record { gone = []; most = omega arith; accepted = N.none_accepted socket }

-- ---- rounds

module _ {D : Type 0} {g : sectors.Ghosts D} {T L : Type 0} (M : CallModel T) (N : ListenerModel L T) where
  -- one more round
  pub rounds_more : (sessions turns : ℕ) (earlier : List ℕ) (old mid new : Store D g) (before between after : L) → ServesRounds M N sessions earlier old mid before between
      → ServesRound M N sessions turns mid new between after → ServesRounds M N sessions (earlier ++ turns ∷ []) old new before after
  rounds_more sessions turns [] old mid new before between after same round = (
    new,
    after,
    subst (λ (store : Store D g). ServesRound M N sessions turns store new before after) same.0
        (subst (λ (socket : L). ServesRound M N sessions turns mid new socket after) same.1 round),
    (refl, refl),
  )
  rounds_more sessions turns (first ∷ earlier) old mid new before between after h round =
      (h.0, h.1, h.2, rounds_more sessions turns earlier h.0 mid new h.1 between after h.3 round)

  pub round_served : (old new : Store D g) (before after : L) (core last : Core D g) (sessions turns : ℕ) (streams later : List (DuplexStream T)) → IsNewCore plain_terms old core → new ≡ store_of (committer_of last)
      → AreAccepted N sessions before after streams → Transition core_model (duplex_model M) core last streams later (IsServed core_model (length streams) turns core last)
      → ServesRound M N sessions turns old new before after
  round_served old new before after core last sessions turns streams later made left accepted run = record {
    core = core;
    made = made;
    last = last;
    left = left;
    streams = streams;
    later = later;
    accepted = accepted;
    run = subst (λ (count : ℕ). Transition core_model (duplex_model M) core last streams later (IsServed core_model count turns core last)) accepted.each run;
  }

  pub round_reached : (old new : Store D g) (before after : L) (core last : Core D g) (sessions : ℕ) (streams later : List (DuplexStream T)) → IsNewCore plain_terms old core → new ≡ store_of (committer_of last)
      → AreAccepted N sessions before after streams → Reached core_model (duplex_model M) core last streams later AnySteps → ReachesByRound M N sessions old new before after
  round_reached old new before after core last sessions streams later made left accepted run = record {
    core = core;
    made = made;
    last = last;
    left = left;
    streams = streams;
    later = later;
    accepted = accepted;
    run = run;
  }

  -- a round writes nothing
  pub round_no_write : (sessions : ℕ) (old new : Store D g) (before after : L) (fault : ServingError) → StopsRound M N sessions old new before after fault → fault ≡ Command (Lines lines.Write) → ⊥
  round_no_write sessions old new before after fault (inl (error, refused, why)) is = cc (sym refused ∙ is)
  round_no_write sessions old new before after fault (inr (inl (file, same))) is = cc (sym file ∙ is)
  round_no_write sessions old new before after fault (inr (inr (many, cut))) is = cc (sym many ∙ is)

  -- not every session has a stream
  pub streams_refused : (sessions : ℕ) (store : Store D g) (before after : L) (fault : ServingError) → (fault ≡ Command (Refused Memory)) ⊎ (fault ≡ Command File) → StopsRound M N sessions store store before after fault
  streams_refused sessions store before after fault (inl memory) = inl (no_memory_for store store fault memory refl)
  streams_refused sessions store before after fault (inr file) = inr (inl (file, refl))

  pub round_stopped : (old new : Store D g) (before after : L) (core last : Core D g) (sessions : ℕ) (streams later : List (DuplexStream T)) (fault : ServeFault StoreError) → IsNewCore plain_terms old core
      → new ≡ store_of (committer_of last) → AreAccepted N sessions before after streams → ((error : StoreError) → Some fault ≡ Some (serving.Core error) → Refuses core last error)
      → (Some fault ≡ Some serving.ReadFault → EndsAs core_model (duplex_model M) core last streams later (IsCut core_model (length streams) core last))
      → StopsRound M N sessions old new before after (of_serving fault)
  round_stopped old new before after core last sessions streams later (serving.Core error) made left accepted refused cut = inl (error, refl, core_refused old new core last error made left (refused error refl))
  round_stopped old new before after core last sessions streams later serving.ReadFault made left accepted refused cut = inr (inr (
    refl,
    record {
      core = core;
      made = made;
      last = last;
      left = left;
      streams = streams;
      later = later;
      accepted = accepted;
      run = subst (λ (count : ℕ). EndsAs core_model (duplex_model M) core last streams later (IsCut core_model count core last)) accepted.each (cut refl);
    },
  ))
