-- What a request to serve comes to.
use base.Fml.{GName}
use denote.Ref.{Bor}
use Rattle.std.specs.List.{flat_map}
use Rattle.std.specs.Prelude.{IfErr, OnOk, OnErr, IsOk, IsErr, IfSome}
use Rattle.std.specs.Io.KnownBytes.{Appends, Keeps}
use Rattle.std.proofs.Common.{◌≡◌, ◌⊎◌, ◌∙◌, inl, inr, ℕ, ◌≤◌, ◌+◌, ◌^◌, Bool, true, false, Option, Some, None, Result, Ok, Err, List, [], ◌∷◌, ◌++◌, length, append-nil, ap, refl, sym, subst}
use Rattle.audit_disk_model.specs.declared.sectors.Sectors as sectors
use Rattle.audit_store.specs.declared.store.Store.{Store}
use Rattle.audit_serve_passes.specs.Steps.{StepData}
use Rattle.audit_serve_passes.specs.Streams.{CallModel}
use Rattle.audit_serve_sockets.specs.Frames.{frame_line}
use Rattle.audit_serve_sockets.specs.Carrying.{LosesSome, client_end, server_end}
use Rattle.audit_serve_sockets.specs.Input.{SpellsInput, SpellsUpToBad}
use Rattle.audit_serve_sockets.specs.Listening.{ListenerModel}
use Rattle.audit_serve_sockets.specs.Looping.{AreLinePasses, IsWholeLoop}
use Rattle.audit_serve_sockets.specs.declared.link.Link.{Link}
use Rattle.audit_cli_base.specs.Mode.{IsMode}
use Rattle.audit_cli_base.specs.Watched.{after_reference}
use Rattle.audit_text.specs.declared.fault.LinesError.{LinesError}
use Rattle.audit_text.specs.declared.fault.LinesError.TheVariants.{Read, Write}
use Rattle.audit_disk.specs.declared.files.TheConstants.{OWNER_ONLY}
use Rattle.audit_cli_base.specs.declared.fault.CommandError.TheVariants.{File, Lines, Replaced}
use Rattle.audit_cli_serve.specs.Arguments.{rounds_asked, sessions_wanted}
use Rattle.audit_cli_base.specs.declared.fault.CommandError.{CommandError}
use Rattle.audit_cli_calls.specs.StoreCalls.{StoresModel, an_opening, a_letting_go}
use Rattle.audit_server_commit.specs.Serving.{StoreKeepsOn}
use Rattle.audit_cli_serve.specs.Carried.{FailedCalls, HasFailed, IsServingDone, IsUnopened, IsLoopStopped, KeepsOpened, LoopsAt, LoopsThroughAll, LoopsToBad, LosesLoop, LoopsOpened, LoopStopsOpened, ServesAt, ServesWithLines, IsStoppedWith, ServesOpened, StopsOpened}
use Rattle.audit_cli_serve.specs.Rounds.{round_lines, AreCutOff}
use Rattle.audit_cli_serve.specs.Served.{CutsFrameOver, LoopsOver, LoopReachesOver, ServesRounds, StopsLoop, StopsRounds}
use Rattle.audit_cli_serve.specs.WatchedLines.{LineFailed}
use Rattle.audit_cli_serve.specs.declared.watched_lines.WatchedLines.{WatchedLines}
use Rattle.audit_cli_serve.specs.declared.fault.ServingError.{ServingError}
use Rattle.audit_cli_serve.specs.declared.fault.ServingError.TheVariants.{Command, BadFrameLine}
use Rattle.audit_cli_serve.specs.declared.request.Request.{Request}
use Rattle.audit_cli_serve.specs.declared.request.Request.TheVariants.{Serve, Loop}

abbrev Ending : Type 0
Ending = Result (Unit {0}) ServingError

-- whether the store was in its place at the end, and the result if it was
abbrev IsWatched : Bool → Ending → Ending → Type 0
IsWatched true served watched = watched ≡ Err (Command Replaced)
IsWatched false served watched = watched ≡ served

is_watched : (replaced : Bool) (served watched : Ending) → (replaced ≡ true → watched ≡ Err (Command Replaced)) → (replaced ≡ false → watched ≡ served) → IsWatched replaced served watched
is_watched true served watched is not = is refl
is_watched false served watched is not = not refl

ok_served : (replaced : Bool) (served watched : Ending) → IsWatched replaced served watched → IsOk watched → served ≡ watched
ok_served true served watched is ok = absurd (cc (subst IsOk is ok))
ok_served false served watched is ok = sym is

-- what serving promises if it succeeded, once it was looked whether the store was in its place and the socket's file was removed
pub after_all : (P : Type 0) (replaced : Bool) (served watched result : Ending) → OnOk served P → (replaced ≡ true → watched ≡ Err (Command Replaced)) → (replaced ≡ false → watched ≡ served) → OnOk result (IsOk watched) → OnOk result P
after_all P replaced served watched (Err fault) holds is not ok = tt
after_all P replaced served watched (Ok done) holds is not ok = by served watched holds ok (ok_served replaced served watched (is_watched replaced served watched is not) ok)
  where
    by : (served watched : Ending) → OnOk served P → IsOk watched → served ≡ watched → P
    by (Ok done) watched holds ok same = holds
    by (Err fault) watched holds ok same = absurd (cc (subst IsOk (sym same) ok))

-- what was appended behind the number of a reference was appended to what the reference leads to
pub plain : (one other : GName) (was old new end : Option (List ℕ)) (text : List ℕ) → was ≡ after_reference one old → (one ≡ other → end ≡ new) → Appends was (after_reference other new) text → Appends old end text
plain one other was old new end text is same appends = by old new (subst (λ (first : Option (List ℕ)). Appends first (after_reference other new) text) is appends) same
  where
    by : (old new : Option (List ℕ)) → Appends (after_reference one old) (after_reference other new) text → (one ≡ other → end ≡ new) → Appends old end text
    by None new appends same = tt
    by (Some xs) None appends same = absurd appends
    by (Some xs) (Some ys) appends same = let reference : one ≡ other = cc appends in
        let bytes : ys ≡ xs ++ text = cc appends in
        subst (λ (last : Option (List ℕ)). Appends (Some xs) last text) (sym (same reference)) bytes

-- known bytes stay as they were
kept_bytes : (known : Option (List ℕ)) → Keeps known known
kept_bytes None = tt
kept_bytes (Some bytes) = refl

pub nothing : (known : Option (List ℕ)) → Appends known known []
nothing None = tt
nothing (Some bytes) = sym (append-nil bytes)

-- once the socket's file was removed: a file fault needs a call that failed
pub failed_after : (Failed : Type 0) (replaced : Bool) (served watched : Ending) → (served ≡ Err (Command File) → Failed) → (replaced ≡ true → watched ≡ Err (Command Replaced)) → (replaced ≡ false → watched ≡ served) → watched ≡ Err (Command File) → Failed
failed_after Failed true served watched failed is not file = absurd (cc (is refl))
failed_after Failed false served watched failed is not file = failed (sym (not refl) ∙ file)

-- once the socket's file was removed: a fault of lines is that of serving, and the store was in its place
line_fault : (replaced : Bool) (served watched : Ending) (fault : ServingError) (cause : LinesError) → (replaced ≡ true → watched ≡ Err (Command Replaced)) → (replaced ≡ false → watched ≡ served) → (watched ≡ Err fault) ⊎ (fault ≡ Command File) → fault ≡ Command (Lines cause)
    → (replaced ≡ false) × (served ≡ Err (Command (Lines cause)))
line_fault replaced served watched fault cause is not (inr file) line = let two : Command File ≡ Command (Lines cause) = sym file ∙ line in absurd (cc two)
line_fault true served watched fault cause is not (inl same) line = let two : Command Replaced ≡ Command (Lines cause) = cc (sym (is refl) ∙ same ∙ ap Err line) in absurd (cc two)
line_fault false served watched fault cause is not (inl same) line = (refl, sym (not refl) ∙ same ∙ ap Err line)

pub line_failed_after : (Failed : Type 0) (replaced : Bool) (served watched result : Ending) (cause : LinesError) → (replaced ≡ false → served ≡ Err (Command (Lines cause)) → Failed) → (replaced ≡ true → watched ≡ Err (Command Replaced)) → (replaced ≡ false → watched ≡ served)
    → IfErr result (λ fault. (watched ≡ Err fault) ⊎ (fault ≡ Command File)) → result ≡ Err (Command (Lines cause)) → Failed
line_failed_after Failed replaced served watched (Ok done) cause failed is not ends line = absurd (cc line)
line_failed_after Failed replaced served watched (Err fault) cause failed is not ends line = let at = line_fault replaced served watched fault cause is not ends (cc line) in failed at.0 at.1

-- a call of the output failed, if the store was in its place
pub output_failed : {F W : Type 0} (Unwritten : W → Type 0) (watched : WatchedLines F W) → LineFailed Unwritten watched → watched.is_replaced ≡ false → HasFailed Unwritten
output_failed Unwritten watched (inl gone) in_place = let two : true ≡ false = sym gone ∙ in_place in absurd (cc two)
output_failed Unwritten watched (inr failed) in_place = (watched.output.now, failed)

pub input_failed : {R B : Type 0} (Unread : R → Type 0) (input : R) → Unread input ⊎ B → HasFailed Unread ⊎ B
input_failed Unread input (inl failed) = inl (input, failed)
input_failed Unread input (inr other) = inr other

-- one that couldn't be removed is the fault of a call
pub removed_by : {A E : Type 0} (Failed : Type 0) (removed : Result A E) → OnErr removed Failed → IsErr removed → Failed
removed_by Failed (Ok done) failed is = absurd (cc is)
removed_by Failed (Err error) failed is = failed

module _ {D : Type 0} {g : sectors.Ghosts D} where
  -- why a loop ended with an error, once it was looked whether the store was in its place and the socket's file was removed
  pub loop_stopped_after : (Failed : FailedCalls) (Lost : Type 0) (replaced : Bool) (input before mid after : Option (List ℕ)) (opened left : Store D g) (served watched result : Ending) → after ≡ mid → IfErr served (StopsLoop opened left)
      → (left ≡ opened) ⊎ LoopReachesOver opened left input → ((number : ℕ) → served ≡ Err (BadFrameLine number) → LoopsToBad number input before mid opened left)
      → (served ≡ Err (Command (Lines Read)) → Failed.of_input ⊎ LoopsThroughAll before mid opened left) → (replaced ≡ false → served ≡ Err (Command (Lines Write)) → Failed.of_output)
      → (replaced ≡ true → watched ≡ Err (Command Replaced)) → (replaced ≡ false → watched ≡ served)
      → IfErr result (λ fault. (watched ≡ Err fault) ⊎ (fault ≡ Command File)) → (result ≡ Err (Command File) → Failed.of_system ⊎ Lost) → IfErr result (IsLoopStopped Failed Lost input before after opened left)
  loop_stopped_after Failed Lost replaced input before mid after opened left served watched (Ok done) same_output stops reached bad unread unwritten is not ends failed = tt
  loop_stopped_after Failed Lost replaced input before mid after opened left served watched (Err fault) same_output stops reached bad unread unwritten is not ends failed = record {
    why = by ends;
    cause = λ file. failed (ap Err file);
    unread = λ line. subst (λ (known : Option (List ℕ)). Failed.of_input ⊎ LoopsThroughAll before known opened left) (sym same_output) (unread (line_fault replaced served watched fault Read is not ends line).1);
    unwritten = λ line. let at = line_fault replaced served watched fault Write is not ends line in unwritten at.0 at.1;
    reached = reached;
    bad = λ number line. bad_by number line ends;
  }
    where
      watched_by : (replaced : Bool) → IsWatched replaced served watched → watched ≡ Err fault → (fault ≡ Command Replaced) ⊎ StopsLoop opened left fault
      watched_by true gone same = inl (cc (sym same ∙ gone))
      watched_by false stays same = inr (subst (λ (ending : Ending). IfErr ending (StopsLoop opened left)) (sym stays ∙ same) stops)

      by : (watched ≡ Err fault) ⊎ (fault ≡ Command File) → (fault ≡ Command Replaced) ⊎ StopsLoop opened left fault
      by (inl same) = watched_by replaced (is_watched replaced served watched is not) same
      by (inr file) = inr (inr (inl file))

      bad_watched : (number : ℕ) (replaced : Bool) → IsWatched replaced served watched → fault ≡ BadFrameLine number → watched ≡ Err fault → LoopsToBad number input before after opened left
      bad_watched number true gone line same = let two : Command Replaced ≡ BadFrameLine number = cc (sym gone ∙ same ∙ ap Err line) in absurd (cc two)
      bad_watched number false stays line same =
          subst (λ (known : Option (List ℕ)). LoopsToBad number input before known opened left) (sym same_output) (bad number (sym stays ∙ same ∙ ap Err line))

      bad_by : (number : ℕ) → fault ≡ BadFrameLine number → (watched ≡ Err fault) ⊎ (fault ≡ Command File) → LoopsToBad number input before after opened left
      bad_by number line (inl same) = bad_watched number replaced (is_watched replaced served watched is not) line same
      bad_by number line (inr file) = let two : Command File ≡ BadFrameLine number = sym file ∙ line in absurd (cc two)

  pub loops_at : (input before after : Option (List ℕ)) (opened left : Store D g) (done : Ending) → OnOk done ((lines : List (List ℕ)) × LoopsOver opened left before after (IsWholeLoop lines) × IfSome input (SpellsInput lines)) → OnOk done (LoopsAt input before after opened left)
  loops_at input before after opened left (Err fault) looped = tt
  loops_at input before after opened left (Ok done) (lines, looped, spelled) = record { lines = lines; looped = looped; spelled = spelled }

  pub bad_at : (input before after : Option (List ℕ)) (opened left : Store D g) (number : ℕ) → (lines : List (List ℕ)) × (length lines + 1 ≡ number) × LoopsOver opened left before after (AreLinePasses lines) × IfSome input (SpellsUpToBad lines) → LoopsToBad number input before after opened left
  bad_at input before after opened left number (lines, count, looped, spelled) = record { lines = lines; count = count; looped = looped; spelled = spelled }

  -- there were as many lines as are counted
  pub through_all : {A : Type 0} (before after : Option (List ℕ)) (opened left : Store D g) → A ⊎ ((lines : List (List ℕ)) × (2 ^ 64 ≤ length lines + 2) × LoopsOver opened left before after (AreLinePasses lines)) → A ⊎ LoopsThroughAll before after opened left
  through_all before after opened left (inl failed) = inl failed
  through_all before after opened left (inr (lines, all, looped)) = inr (record { lines = lines; all = all; looped = looped })

  -- the same bytes of the input
  pub reached_by : (opened left : Store D g) (known input : Option (List ℕ)) → (left ≡ opened) ⊎ LoopReachesOver opened left known → known ≡ input → (left ≡ opened) ⊎ LoopReachesOver opened left input
  reached_by opened left known input reached same = subst (λ (bytes : Option (List ℕ)). (left ≡ opened) ⊎ LoopReachesOver opened left bytes) same reached

  pub bad_by_input : (number : ℕ) (known input before after : Option (List ℕ)) (opened left : Store D g) → LoopsToBad number known before after opened left → known ≡ input → LoopsToBad number input before after opened left
  bad_by_input number known input before after opened left bad same = subst (λ (bytes : Option (List ℕ)). LoopsToBad number bytes before after opened left) same bad

  -- why the connection failed
  pub lost_on : {E Q : Type 0} (Met : Q → ℕ → Type 0) (Unwritten Unread : E → Type 0) (Gave : E → List ℕ → Type 0) (opened left : Store D g) (link : Link E E) → LosesSome Unwritten Unread Gave (client_end link) (server_end link) ⊎ (LosesSome Unwritten Unread Gave (server_end link) (client_end link) ⊎ CutsFrameOver opened left)
      → LosesLoop Met Unwritten Unread Gave opened left
  lost_on Met Unwritten Unread Gave opened left link (inl sent) = inr (inl (record { link = link; lost = inl sent }))
  lost_on Met Unwritten Unread Gave opened left link (inr (inl back)) = inr (inl (record { link = link; lost = inr back }))
  lost_on Met Unwritten Unread Gave opened left link (inr (inr cut)) = inr (inr cut)

  -- what was written behind the number of a reference was written to what it leads to
  over_plain : (one other : GName) (was old new end : Option (List ℕ)) (opened left : Store D g) {Shape : List StepData → Type 0} → was ≡ after_reference one old → (one ≡ other → end ≡ new) → LoopsOver opened left was (after_reference other new) Shape → LoopsOver opened left old end Shape
  over_plain one other was old new end opened left is same over =
      let run = over.run in
      let written = run.written in record {
        core = over.core;
        made = over.made;
        last = over.last;
        left = over.left;
        run = record {
          steps = run.steps;
          taken = run.taken;
          did = run.did;
          others = run.others;
          shape = run.shape;
          written = record { bodies = written.bodies; are = written.are; all = written.all; written = plain one other was old new end (flat_map frame_line written.bodies) is same written.written };
        };
      }

  loops_plain : (one other : GName) (input was old new end : Option (List ℕ)) (opened left : Store D g) → was ≡ after_reference one old → (one ≡ other → end ≡ new) → LoopsAt input was (after_reference other new) opened left → LoopsAt input old end opened left
  loops_plain one other input was old new end opened left is same at = record { lines = at.lines; looped = over_plain one other was old new end opened left is same at.looped; spelled = at.spelled }

  bad_plain : (number : ℕ) (one other : GName) (input was old new end : Option (List ℕ)) (opened left : Store D g) → was ≡ after_reference one old → (one ≡ other → end ≡ new) → LoopsToBad number input was (after_reference other new) opened left → LoopsToBad number input old end opened left
  bad_plain number one other input was old new end opened left is same bad = record { lines = bad.lines; count = bad.count; looped = over_plain one other was old new end opened left is same bad.looped; spelled = bad.spelled }

  all_plain : {A : Type 0} (one other : GName) (was old new end : Option (List ℕ)) (opened left : Store D g) → was ≡ after_reference one old → (one ≡ other → end ≡ new) → A ⊎ LoopsThroughAll was (after_reference other new) opened left → A ⊎ LoopsThroughAll old end opened left
  all_plain one other was old new end opened left is same (inl failed) = inl failed
  all_plain one other was old new end opened left is same (inr through) = inr (record { lines = through.lines; all = through.all; looped = over_plain one other was old new end opened left is same through.looped })

  -- a store that was opened and let go
  pub keeps_opened : {O : Type 0} (stores : StoresModel O (Store D g)) (At : List ℕ → Store D g → Type 0) (path : List ℕ) (first mid last : O) (opened left : Store D g) → At path opened → stores.DidCalls first mid (an_opening path (Ok opened) ∷ []) → stores.DidCalls mid last (a_letting_go left ∷ []) → StoreKeepsOn opened left → KeepsOpened g stores At path first last opened left
  keeps_opened stores At path first mid last opened left at opens goes kept = record { at = at; calls = stores.more_called first mid last (an_opening path (Ok opened) ∷ []) (a_letting_go left ∷ []) opens goes; kept = kept }

  pub loops_opened : {O L : Type 0} (stores : StoresModel O (Store D g)) (At : List ℕ → Store D g → Type 0) (Bound : List ℕ → ℕ → L → Type 0) (Connects : List ℕ → Type 0) (path socket : List ℕ) (mode : ℕ) (first last : O) (one other : GName) (input was old new end : Option (List ℕ)) (opened left : Store D g) (done : Ending) → KeepsOpened g stores At path first last opened left → was ≡ after_reference one old → (one ≡ other → end ≡ new)
      → OnOk done (LoopsAt input was (after_reference other new) opened left) → OnOk done ((bound : L) × Bound socket mode bound) → OnOk done (Connects socket) → OnOk done (LoopsOpened g stores At Bound Connects path socket mode first last input old end)
  loops_opened stores At Bound Connects path socket mode first last one other input was old new end opened left (Err fault) kept is same looped bound connects = tt
  loops_opened stores At Bound Connects path socket mode first last one other input was old new end opened left (Ok done) kept is same looped bound connects =
      record { opened = opened; left = left; kept = kept; bound = bound.0; listens = bound.1; connects = connects; looped = loops_plain one other input was old new end opened left is same looped }

  pub loops_stopped : {O : Type 0} (stores : StoresModel O (Store D g)) (At : List ℕ → Store D g → Type 0) (Failed : FailedCalls) (Lost : Store D g → Store D g → Type 0) (path : List ℕ) (first last : O) (one other : GName) (input was old new end : Option (List ℕ)) (opened left : Store D g) (done : Ending) → KeepsOpened g stores At path first last opened left → was ≡ after_reference one old → (one ≡ other → end ≡ new)
      → IfErr done (IsLoopStopped Failed (Lost opened left) input was (after_reference other new) opened left) → IfErr done (λ fault. IsUnopened stores path first last old end fault ⊎ LoopStopsOpened g stores At Failed Lost path first last input old end fault)
  loops_stopped stores At Failed Lost path first last one other input was old new end opened left (Ok done) kept is same stopped = tt
  loops_stopped stores At Failed Lost path first last one other input was old new end opened left (Err fault) kept is same stopped = inr (record {
    opened = opened;
    left = left;
    kept = kept;
    stopped = record {
      why = stopped.why;
      cause = stopped.cause;
      unread = λ line. all_plain one other was old new end opened left is same (stopped.unread line);
      unwritten = stopped.unwritten;
      reached = stopped.reached;
      bad = λ number line. bad_plain number one other input was old new end opened left is same (stopped.bad number line);
    };
  })

module _ {D : Type 0} {g : sectors.Ghosts D} {T L : Type 0} (M : CallModel T) (N : ListenerModel L T) where
  -- all rounds
  abbrev ServesAll : (sessions rounds : ℕ) (opened left : Store D g) (bound last : L) (before after : Option (List ℕ)) → Type 0
  ServesAll sessions rounds opened left bound last before after = (turns : List ℕ) × (length turns ≡ rounds) × ServesRounds M N sessions turns opened left bound last × Appends before after (round_lines 1 turns)

  -- up to an error
  abbrev ServesUpTo : (sessions : ℕ) (opened left : Store D g) (bound last : L) (before after : Option (List ℕ)) (fault : ServingError) → Type 0
  ServesUpTo sessions opened left bound last before after fault = (text : List ℕ) × Appends before after text × StopsRounds M N sessions opened left bound last text fault

  pub serves_at : (Bound : L → Type 0) (rounds sessions : ℕ) (opened left : Store D g) (bound last : L) (before mid after : Option (List ℕ)) (result : Ending) → Bound bound → after ≡ mid → OnOk result (ServesAll sessions rounds opened left bound last before mid)
      → OnOk result ((turns : List ℕ) × (length turns ≡ rounds) × ServesAt M N Bound sessions turns opened left × Appends before after (round_lines 1 turns))
  serves_at Bound rounds sessions opened left bound last before mid after (Err fault) listens same served = tt
  serves_at Bound rounds sessions opened left bound last before mid after (Ok done) listens same (turns, count, all, lines) =
      (turns, count, record { bound = bound; listens = listens; last = last; served = all }, subst (λ (known : Option (List ℕ)). Appends before known (round_lines 1 turns)) (sym same) lines)

  -- what was printed, however serving ended
  abbrev Prints : (Bound : L → Type 0) (sessions : ℕ) (opened : Store D g) (before after : Option (List ℕ)) → Type 0
  Prints Bound sessions opened before after = (text : List ℕ) × Appends before after text × ServesWithLines M N Bound sessions opened text

  printed : (Bound : L → Type 0) (sessions rounds : ℕ) (opened left : Store D g) (bound last : L) (before after : Option (List ℕ)) (served : Ending) → Bound bound → OnOk served (ServesAll sessions rounds opened left bound last before after) → IfErr served (ServesUpTo sessions opened left bound last before after) → Prints Bound sessions opened before after
  printed Bound sessions rounds opened left bound last before after (Ok done) listens (turns, count, all, lines) stopped =
      (round_lines 1 turns, lines, record { turns = turns; mid = left; bound = bound; listens = listens; last = last; served = all; lines = inl refl })
  printed Bound sessions rounds opened left bound last before after (Err fault) listens served (text, appends, stops) =
      (text, appends, record { turns = stops.turns; mid = stops.mid; bound = bound; listens = listens; last = stops.between; served = stops.served; lines = by stops.stops })
    where
      by : {A B C : Type 0} → (A × (text ≡ round_lines 1 stops.turns)) ⊎ (B × C × AreCutOff stops.turns text) → (text ≡ round_lines 1 stops.turns) ⊎ AreCutOff stops.turns text
      by (inl (round, is)) = inl is
      by (inr (lost, same, cut)) = inr cut

  pub stops_at : (Bound : L → Type 0) (sessions rounds : ℕ) (opened left : Store D g) (bound last : L) (before mid after : Option (List ℕ)) (replaced : Bool) (served watched result : Ending) → Bound bound → after ≡ mid → OnOk served (ServesAll sessions rounds opened left bound last before mid) → IfErr served (ServesUpTo sessions opened left bound last before mid)
      → (replaced ≡ true → watched ≡ Err (Command Replaced)) → (replaced ≡ false → watched ≡ served) → IfErr result (λ fault. (watched ≡ Err fault) ⊎ (fault ≡ Command File)) → IfErr result (IsStoppedWith M N Bound sessions opened left before after)
  stops_at Bound sessions rounds opened left bound last before mid after replaced served watched (Ok done) listens same all stopped is not ends = tt
  stops_at Bound sessions rounds opened left bound last before mid after replaced served watched (Err fault) listens same all stopped is not ends =
      subst (λ (known : Option (List ℕ)). IsStoppedWith M N Bound sessions opened left before known fault) (sym same) (by ends)
    where
      prints : Prints Bound sessions opened before mid
      prints = printed Bound sessions rounds opened left bound last before mid served listens all stopped

      stopped_by : (replaced : Bool) → IsWatched replaced served watched → watched ≡ Err fault → IsStoppedWith M N Bound sessions opened left before mid fault
      stopped_by true gone same = (prints.0, prints.1, inr (inl (cc (sym same ∙ gone)), inr prints.2))
      stopped_by false not same =
          let why = subst (λ (ending : Ending). IfErr ending (ServesUpTo sessions opened left bound last before mid)) (sym not ∙ same) stopped in
          (why.0, why.1, inl (record { bound = bound; listens = listens; last = last; stops = why.2 }))

      by : (watched ≡ Err fault) ⊎ (fault ≡ Command File) → IsStoppedWith M N Bound sessions opened left before mid fault
      by (inl same) = stopped_by replaced (is_watched replaced served watched is not) same
      by (inr file) = (prints.0, prints.1, inr (inr file, inr prints.2))

  -- there was no socket
  pub no_socket : (Bound : L → Type 0) (sessions : ℕ) (opened : Store D g) (known : Option (List ℕ)) (result : Ending) → IfErr result (λ fault. fault ≡ Command File) → IfErr result (IsStoppedWith M N Bound sessions opened opened known known)
  no_socket Bound sessions opened known (Ok done) file = tt
  no_socket Bound sessions opened known (Err fault) file = ([], nothing known, inr (inr file, inl refl))

  -- over the store that was opened, once the output isn't watched any more
  module _ {O : Type 0} (stores : StoresModel O (Store D g)) (At : List ℕ → Store D g → Type 0) (Bound : List ℕ → ℕ → L → Type 0) (path socket : List ℕ) (mode sessions : ℕ) (first last : O) (one other : GName) (was old new end : Option (List ℕ)) (opened left : Store D g) (kept : KeepsOpened g stores At path first last opened left) (is : was ≡ after_reference one old) (same : one ≡ other → end ≡ new) where
    pub serves_opened : (rounds : ℕ) (result : Ending) → OnOk result ((turns : List ℕ) × (length turns ≡ rounds) × ServesAt M N (Bound socket mode) sessions turns opened left × Appends was (after_reference other new) (round_lines 1 turns)) → OnOk result (ServesOpened g stores At M N Bound path socket mode sessions rounds first last old end)
    serves_opened rounds (Err fault) served = tt
    serves_opened rounds (Ok done) (turns, count, served, lines) =
        record { opened = opened; left = left; kept = kept; turns = turns; count = count; served = served; lines = plain one other was old new end (round_lines 1 turns) is same lines }

    pub stops_opened : (result : Ending) → IfErr result (IsStoppedWith M N (Bound socket mode) sessions opened left was (after_reference other new)) → IfErr result (λ fault. IsUnopened stores path first last old end fault ⊎ StopsOpened g stores At M N Bound path socket mode sessions first last old end fault)
    stops_opened (Ok done) stopped = tt
    stops_opened (Err fault) (text, appends, why) = inr (record { opened = opened; left = left; kept = kept; stopped = (text, plain one other was old new end text is same appends, why) })

module _ {D : Type 0} (g : sectors.Ghosts D) {O : Type 0} (stores : StoresModel O (Store D g)) (At : List ℕ → Store D g → Type 0) {T L : Type 0} (M : CallModel T) (N : ListenerModel L T) (Bound : List ℕ → ℕ → L → Type 0) (Failed : FailedCalls) (Connects : List ℕ → Type 0) (Lost : Store D g → Store D g → Type 0) (was now : O) where
  pub loop_performed : (input before after : Option (List ℕ)) (request : Request) (file socket : Bor (List ℕ)) (socket_mode : Option (Bor (List ℕ))) (mode : ℕ) (done : Ending) → request ≡ Loop file socket socket_mode → (socket_mode ≡ None → mode ≡ OWNER_ONLY) → IfSome socket_mode (λ word. IsMode word.now mode)
      → OnOk done (LoopsOpened g stores At Bound Connects file.now socket.now mode was now input before after) → IfErr done (λ fault. IsUnopened stores file.now was now before after fault ⊎ LoopStopsOpened g stores At Failed Lost file.now was now input before after fault) → IsServingDone g stores At M N Bound Failed Connects Lost request was now input before after done
  loop_performed input before after request file socket socket_mode mode done is owner mode_is looped stopped = subst (λ (one : Request). IsServingDone g stores At M N Bound Failed Connects Lost one was now input before after done) (sym is) (by done looped stopped)
    where
      by : (done : Ending) → OnOk done (LoopsOpened g stores At Bound Connects file.now socket.now mode was now input before after) → IfErr done (λ fault. IsUnopened stores file.now was now before after fault ⊎ LoopStopsOpened g stores At Failed Lost file.now was now input before after fault) → IsServingDone g stores At M N Bound Failed Connects Lost (Loop file socket socket_mode) was now input before after done
      by (Ok done) looped stopped = record { mode = mode; owner = owner; mode_is = mode_is; looped = looped }
      by (Err fault) looped stopped = stopped

  pub performed : (input before after : Option (List ℕ)) (file socket rounds : Bor (List ℕ)) (sessions socket_mode : Option (Bor (List ℕ))) (count each mode : ℕ) (done : Ending) → rounds_asked rounds.now ≡ Ok count → sessions_wanted sessions ≡ Ok each → (socket_mode ≡ None → mode ≡ OWNER_ONLY) → IfSome socket_mode (λ word. IsMode word.now mode)
      → OnOk done (ServesOpened g stores At M N Bound file.now socket.now mode each count was now before after) → IfErr done (λ fault. IsUnopened stores file.now was now before after fault ⊎ StopsOpened g stores At M N Bound file.now socket.now mode each was now before after fault) → (done ≡ Err (Command File) → IsUnopened stores file.now was now before after (Command File) ⊎ Failed.of_system) → (done ≡ Err (Command (Lines Write)) → IsUnopened stores file.now was now before after (Command (Lines Write)) ⊎ Failed.of_output)
      → IsServingDone g stores At M N Bound Failed Connects Lost (Serve file socket rounds sessions socket_mode) was now input before after done
  performed input before after file socket rounds sessions socket_mode count each mode (Ok done) asked wanted owner mode_is served stopped failed unwritten = record { count = count; rounds_are = asked; each = each; sessions_are = wanted; mode = mode; owner = owner; mode_is = mode_is; served = served }
  performed input before after file socket rounds sessions socket_mode count each mode (Err (Command File)) asked wanted owner mode_is served stopped failed unwritten = by stopped (failed refl)
    where
      by : IsUnopened stores file.now was now before after (Command File) ⊎ StopsOpened g stores At M N Bound file.now socket.now mode each was now before after (Command File) → IsUnopened stores file.now was now before after (Command File) ⊎ Failed.of_system
          → IsServingDone g stores At M N Bound Failed Connects Lost (Serve file socket rounds sessions socket_mode) was now input before after (Err (Command File))
      by stops (inl unopened) = inl unopened
      by (inl unopened) (inr why) = inl unopened
      by (inr stops) (inr why) = inr ((λ file_fault. why), (λ line. absurd (cc line)), (each, wanted, (mode, stops)))
  performed input before after file socket rounds sessions socket_mode count each mode (Err (Command (Lines Write))) asked wanted owner mode_is served stopped failed unwritten = by stopped (unwritten refl)
    where
      by : IsUnopened stores file.now was now before after (Command (Lines Write)) ⊎ StopsOpened g stores At M N Bound file.now socket.now mode each was now before after (Command (Lines Write)) → IsUnopened stores file.now was now before after (Command (Lines Write)) ⊎ Failed.of_output
          → IsServingDone g stores At M N Bound Failed Connects Lost (Serve file socket rounds sessions socket_mode) was now input before after (Err (Command (Lines Write)))
      by stops (inl unopened) = inl unopened
      by (inl unopened) (inr why) = inl unopened
      by (inr stops) (inr why) = inr ((λ file_fault. absurd (cc file_fault)), (λ line. why), (each, wanted, (mode, stops)))
  performed input before after file socket rounds sessions socket_mode count each mode (Err fault) asked wanted owner mode_is served (inl unopened) failed unwritten = inl unopened
  performed input before after file socket rounds sessions socket_mode count each mode (Err fault) asked wanted owner mode_is served (inr stopped) failed unwritten = inr ((λ file_fault. absurd (cc file_fault)), (λ line. absurd (cc line)), (each, wanted, (mode, stopped)))

-- an error before a store was opened
pub unopened : {D : Type 0} (g : sectors.Ghosts D) {O : Type 0} (stores : StoresModel O (Store D g)) (At : List ℕ → Store D g → Type 0) {T L : Type 0} (M : CallModel T) (N : ListenerModel L T) (Bound : List ℕ → ℕ → L → Type 0) (Failed : FailedCalls) (Connects : List ℕ → Type 0) (Lost : Store D g → Store D g → Type 0) (was : O) (request : Request) (cause : CommandError) (done : Ending) (input before : Option (List ℕ)) → done ≡ Err (Command cause) → IsServingDone g stores At M N Bound Failed Connects Lost request was was input before before done
unopened g stores At M N Bound Failed Connects Lost was request cause done input before is = subst (λ (ending : Ending). IsServingDone g stores At M N Bound Failed Connects Lost request was was input before before ending) (sym is) (inl (cause, refl, (inl (stores.nothing_called was), kept_bytes before)))

-- the opening failed
pub opening_failed : {O S : Type 0} (stores : StoresModel O S) (path : List ℕ) (was now : O) (cause : CommandError) (done : Ending) (before : Option (List ℕ)) → done ≡ Err (Command cause) → stores.DidCalls was now (an_opening path (Err cause) ∷ []) → IfErr done (λ fault. IsUnopened stores path was now before before fault)
opening_failed stores path was now cause (Ok done) before is called = tt
opening_failed stores path was now cause (Err fault) before is called = (cause, cc is, (inr called, kept_bytes before))
