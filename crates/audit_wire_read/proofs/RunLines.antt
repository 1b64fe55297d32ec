-- The lines of runs are those of the log of the last commitment that was kept, or there is a collision; and none is missing.
use Rattle.std.specs.Prelude.{◌||◌}
use Rattle.std.specs.List.{AllByRecursion, concat}
use Rattle.std.proofs.Common.{◌≡◌, ◌∙◌, ◌⊎◌, inl, inr, true, false, ℕ, zero, suc, ◌+◌, ◌<◌, ◌≤◌, List, [], ◌∷◌, ◌++◌, length, take, drop, refl, sym, ap, subst, arith, append_assoc, length-append, take_all}
use Rattle.std.proofs.lemmas.Bool.{cases_lt, cases_eq, cases_Bool, or_right}
use Rattle.std.proofs.lemmas.List.{take-append-drop}
use Rattle.audit_base.specs.declared.limits.TheConstants.{MAX_COUNT}
use Rattle.audit_chain.specs.Event.{EventData, IsEvent}
use Rattle.audit_chain.specs.Closing.{is_closed}
use Rattle.audit_chain.specs.Entries.{first_link, log_entries}
use Rattle.audit_chain.proofs.Chaining.{same_exports, entries_from-take}
use Rattle.audit_chain.proofs.Closing.{is_closed-append}
use Rattle.audit_chain.proofs.Sizes.{length-entries_from}
use Rattle.audit_proof.specs.declared.commitment.Commitment.{Commitment}
use Rattle.audit_proof.specs.Acceptance.{commitment_to}
use Rattle.audit_verify.specs.State.{StateData, first_state, next_state, commitment_after}
use Rattle.audit_verify.proofs.Commitments.{length-leaves, commitment_first, commitment_end, commitment_then, count_then, state_then}
use Rattle.audit_verify.proofs.Following.{all_append}
use Rattle.audit_proof.proofs.SameEntries.{same_entries}
use Rattle.audit_wire_ask.specs.Joined.{IsVouchedFor}
use Rattle.audit_wire_read.specs.Front.{kept_after_calls}
use Rattle.audit_wire_read.specs.Outlet.{OutletCall, a_keeping, a_printing}
use Rattle.audit_wire_read.specs.ReadingOn.{IsPiece, AreReadPieces, reading_calls}
use Rattle.audit_wire_read.specs.Runs.{with_indices, lines_by_calls, newest_after_calls, IsPrintedPart, WereCutOff, ReadRun, IsReadRun, AreReadRuns, state_after_runs, newest_after_runs, lines_of_runs, IsLineOf, HasLine, HasCollision}
use Rattle.audit_wire_read.proofs.OlderLogs.{Fits, vouched_fits, extends_fits}

abbrev Line : Type 0
Line = ℕ × EventData

abbrev AreLines : List EventData → List Line → Type 0
AreLines log lines = AllByRecursion (IsLineOf log) lines

lines_append : (log : List EventData) (xs ys : List Line) → AreLines log xs → AreLines log ys → AreLines log (xs ++ ys)
lines_append log [] ys first second = second
lines_append log (x ∷ xs) ys first second = (first.0, lines_append log xs ys first.1 second)

lines_front : (log : List EventData) (n : ℕ) (xs ys : List EventData) → AreLines log (with_indices n (xs ++ ys)) → AreLines log (with_indices n xs)
lines_front log n [] ys all = tt
lines_front log n (x ∷ xs) ys all = (all.0, lines_front log (n + 1) xs ys all.1)

taken : (n : ℕ) (events : List EventData) → AllByRecursion IsEvent events → AllByRecursion IsEvent (take n events)
taken zero [] each = tt
taken (suc n) [] each = tt
taken zero (event ∷ events) each = tt
taken (suc n) (event ∷ events) each = (each.0, taken n events each.1)

-- events that follow others in a log are lines of it
lines_within : (log before events after : List EventData) → log ≡ before ++ (events ++ after) → AreLines log (with_indices (length before) events)
lines_within log before [] after same = tt
lines_within log before (event ∷ events) after same = (
  (before, events ++ after, same, refl),
  subst (λ n. AreLines log (with_indices n events)) (length-append before (event ∷ []))
      (lines_within log (before ++ event ∷ []) events after (same ∙ sym (append_assoc before (event ∷ []) (events ++ after)))),
)

-- no call that keeps is made in part
no_part : (made : OutletCall) (state : StateData) (newest : Commitment) → IsPrintedPart made (a_keeping state newest) → ⊥
no_part (a_keeping next other) state newest part = part
no_part (a_printing first shown) state newest part = part

-- the state is that of an open log of events
record IsAfter (key : List ℕ) (state : StateData) (past : List EventData) : Type 0 where
  is : state ≡ next_state (first_state key) past
  goes : is_closed past ≡ false
  each : AllByRecursion IsEvent past

-- it is so, or the log is closed
abbrev IsKnown : List ℕ → StateData → Type 0
IsKnown key state = ((past : List EventData) × IsAfter key state past) ⊎ (state.closed ≡ true)

known_next : (key : List ℕ) (state : StateData) (newest : Commitment) (piece : List EventData) → IsKnown key state → IsPiece state newest piece → IsKnown key (next_state state piece)
known_next key state newest piece (inr closed) is = inr (ap (λ shut. shut || is_closed piece) closed)
known_next key state newest piece (inl (past, after)) is = elim (cases_Bool (is_closed piece)) [
  | inl shut ↦ inr (or_right state.closed (is_closed piece) shut)
  | inr open_still ↦ inl (
    past ++ piece,
    record {
      is = ap (λ (s : StateData). next_state s piece) after.is ∙ state_then (first_state key) past piece after.goes;
      goes = is_closed-append past piece ∙ ap (λ shut. shut || is_closed piece) after.goes ∙ open_still;
      each = all_append past piece after.each is.follows.each;
    },
  )
]

known_after : (key : List ℕ) (state held : StateData) (newest : Commitment) (pieces : List (List EventData)) (calls : List OutletCall) → IsKnown key state → IsKnown key held
    → AreReadPieces state newest pieces → WereCutOff calls (reading_calls state newest pieces) → IsKnown key (kept_after_calls held calls)
known_after key state held newest pieces [] known was are cut = was
known_after key state held newest [] (one ∷ []) known was are (inl both) = subst (λ (call : OutletCall). IsKnown key (kept_after_calls held (call ∷ []))) (sym both.0) known
known_after key state held newest [] (one ∷ two ∷ calls) known was are (inl both) = absurd both.1
known_after key state held newest [] (one ∷ calls) known was are (inr part) = absurd (no_part one state newest part.1)
known_after key state held newest (piece ∷ pieces) (one ∷ []) known was are (inl both) = subst (λ (call : OutletCall). IsKnown key (kept_after_calls held (call ∷ []))) (sym both.0) known
known_after key state held newest (piece ∷ pieces) (one ∷ two ∷ calls) known was are (inl (same, inl (also, rest))) =
    let next = known_next key state newest piece known are.0 in
    subst (λ (call : OutletCall). IsKnown key (kept_after_calls held (call ∷ two ∷ calls))) (sym same)
    (subst (λ (call : OutletCall). IsKnown key (kept_after_calls state (call ∷ calls))) (sym also)
    (known_after key (next_state state piece) state newest pieces calls next known are.1 rest))
known_after key state held newest (piece ∷ pieces) (one ∷ a_keeping other another ∷ calls) known was are (inl (same, inr part)) = absurd part.1
known_after key state held newest (piece ∷ pieces) (one ∷ a_printing first shown ∷ calls) known was are (inl (same, inr part)) =
    subst (λ (call : OutletCall). IsKnown key (kept_after_calls held (call ∷ a_printing first shown ∷ calls))) (sym same)
    (subst (λ (cs : List OutletCall). IsKnown key (kept_after_calls state cs)) (sym part.0) known)
known_after key state held newest (piece ∷ pieces) (one ∷ calls) known was are (inr part) = absurd (no_part one state newest part.1)

-- the newest commitment is kept once anything is
newest_stays : (state : StateData) (held newest : Commitment) (pieces : List (List EventData)) (calls : List OutletCall) → held ≡ newest
    → WereCutOff calls (reading_calls state newest pieces) → newest_after_calls held calls ≡ newest
newest_stays state held newest pieces [] is cut = is
newest_stays state held newest [] (one ∷ []) is (inl both) = ap (λ (call : OutletCall). newest_after_calls held (call ∷ [])) both.0
newest_stays state held newest [] (one ∷ two ∷ calls) is (inl both) = absurd both.1
newest_stays state held newest [] (one ∷ calls) is (inr part) = absurd (no_part one state newest part.1)
newest_stays state held newest (piece ∷ pieces) (one ∷ []) is (inl both) = ap (λ (call : OutletCall). newest_after_calls held (call ∷ [])) both.0
newest_stays state held newest (piece ∷ pieces) (one ∷ two ∷ calls) is (inl (same, inl (also, rest))) =
    ap (λ (call : OutletCall). newest_after_calls held (call ∷ two ∷ calls)) same
    ∙ ap (λ (call : OutletCall). newest_after_calls newest (call ∷ calls)) also
    ∙ newest_stays (next_state state piece) newest newest pieces calls refl rest
newest_stays state held newest (piece ∷ pieces) (one ∷ a_keeping other another ∷ calls) is (inl (same, inr part)) = absurd part.1
newest_stays state held newest (piece ∷ pieces) (one ∷ a_printing first shown ∷ calls) is (inl (same, inr part)) =
    ap (λ (call : OutletCall). newest_after_calls held (call ∷ a_printing first shown ∷ calls)) same
    ∙ ap (λ (cs : List OutletCall). newest_after_calls newest cs) part.0
newest_stays state held newest (piece ∷ pieces) (one ∷ calls) is (inr part) = absurd (no_part one state newest part.1)

first_is : (state : StateData) (newest : Commitment) (pieces : List (List EventData)) (one : OutletCall) (calls : List OutletCall)
    → WereCutOff (one ∷ calls) (reading_calls state newest pieces) → one ≡ a_keeping state newest
first_is state newest [] one calls (inl both) = both.0
first_is state newest [] one calls (inr part) = absurd (no_part one state newest part.1)
first_is state newest (piece ∷ pieces) one calls (inl both) = both.0
first_is state newest (piece ∷ pieces) one calls (inr part) = absurd (no_part one state newest part.1)

newest_or_none : (state : StateData) (kept newest : Commitment) (pieces : List (List EventData)) (calls : List OutletCall) → WereCutOff calls (reading_calls state newest pieces)
    → (calls ≡ []) ⊎ (newest_after_calls kept calls ≡ newest)
newest_or_none state kept newest pieces [] cut = inl refl
newest_or_none state kept newest pieces (one ∷ calls) cut =
    let is = first_is state newest pieces one calls cut in
    inr (ap (λ (call : OutletCall). newest_after_calls kept (call ∷ calls)) is
    ∙ sym (ap (λ (call : OutletCall). newest_after_calls newest (call ∷ calls)) is)
    ∙ newest_stays state newest newest pieces (one ∷ calls) refl cut)

module _ (key : List ℕ) (log : List EventData) (each : AllByRecursion IsEvent log) where
  abbrev texts : List (List ℕ)
  texts = log_entries key log

  abbrev OrCollision : Type 0 → Type 0
  OrCollision holds = holds ⊎ HasCollision texts

  -- events that follow others, with the commitment to all of them
  log_begins : (past piece : List EventData) → AllByRecursion IsEvent past → AllByRecursion IsEvent piece → 0 < length piece → Fits texts (commitment_to (log_entries key (past ++ piece)))
      → OrCollision (AreLines log (with_indices (length past) piece))
  log_begins past piece first second some (inl none) =
      absurd (omega (arith, none, some, length-entries_from key first_link (past ++ piece), length-append past piece))
  log_begins past piece first second some (inr (within, is)) =
      let n = length (log_entries key (past ++ piece)) in
      elim (same_entries (log_entries key (past ++ piece)) (take n texts) is) [
        | inr trees ↦ inr record { size = n; within = within; found = inr (log_entries key (past ++ piece), is, trees) }
        | inl same ↦
            (let front : past ++ piece ≡ take n log =
            same_exports key first_link (past ++ piece) (take n log) (all_append past piece first second) (taken n log each)
            (ap concat (same ∙ sym (entries_from-take key first_link log n))) in
            inl (lines_within log past piece (drop n log)
            (sym (take-append-drop n log) ∙ ap (λ events. events ++ drop n log) (sym front) ∙ append_assoc past piece (drop n log))))
      ]

  piece_lines : (state : StateData) (newest : Commitment) (piece : List EventData) → IsKnown key state → IsPiece state newest piece → Fits texts newest
      → OrCollision (AreLines log (with_indices state.frontier.count piece))
  piece_lines state newest [] known is fits = inl tt
  piece_lines state newest (event ∷ events) (inr closed) is fits = absurd (omega (arith, ap length (is.follows.closing.none closed)))
  piece_lines state newest (event ∷ events) (inl (past, after)) is fits =
      let piece = event ∷ events in
      let start = first_state key in
      let here : IsPiece (next_state start past) newest piece = subst (λ (s : StateData). IsPiece s newest piece) after.is is in
      let count : state.frontier.count ≡ length past = ap (λ (s : StateData). s.frontier.count) after.is ∙ omega (arith, length-leaves start past) in
      let few : start.frontier.count + length (past ++ piece) ≤ MAX_COUNT = omega (arith, here.follows.few, count_then start past piece) in
      let own : commitment_after (next_state (next_state start past) piece) [] ≡ commitment_to (log_entries key (past ++ piece)) =
      commitment_end (next_state start past) piece here.follows.few ∙ commitment_then start past piece after.goes few ∙ commitment_first key (past ++ piece) in
      let vouched = subst (λ (c : Commitment). IsVouchedFor c newest) own here.leads in
      elim (vouched_fits texts (commitment_to (log_entries key (past ++ piece))) newest fits vouched) [
        | inr collision ↦ inr collision
        | inl theirs ↦ subst (λ n. OrCollision (AreLines log (with_indices n piece))) (sym count)
            (log_begins past piece after.each is.follows.each (omega arith) theirs)
      ]

  together : (xs ys : List Line) → OrCollision (AreLines log xs) → OrCollision (AreLines log ys) → OrCollision (AreLines log (xs ++ ys))
  together xs ys (inr collision) second = inr collision
  together xs ys (inl first) (inr collision) = inr collision
  together xs ys (inl first) (inl second) = inl (lines_append log xs ys first second)

  part_lines : (first index : ℕ) (shown piece later : List EventData) → first ≡ index → piece ≡ shown ++ later → OrCollision (AreLines log (with_indices index piece))
      → OrCollision (AreLines log (with_indices first shown))
  part_lines first index shown piece later same split (inr collision) = inr collision
  part_lines first index shown piece later same split (inl lines) =
      inl (subst (λ n. AreLines log (with_indices n shown)) (sym same) (lines_front log index shown later (subst (λ (p : List EventData). AreLines log (with_indices index p)) split lines)))

  abbrev LinesOf : List OutletCall → Type 0
  LinesOf calls = OrCollision (AreLines log (lines_by_calls calls))

  call_lines : (state : StateData) (newest : Commitment) (pieces : List (List EventData)) (calls : List OutletCall) → IsKnown key state → AreReadPieces state newest pieces → Fits texts newest
      → WereCutOff calls (reading_calls state newest pieces) → LinesOf calls
  call_lines state newest pieces [] known are fits cut = inl tt
  call_lines state newest [] (one ∷ []) known are fits (inl both) = subst (λ (call : OutletCall). LinesOf (call ∷ [])) (sym both.0) (inl tt)
  call_lines state newest [] (one ∷ two ∷ calls) known are fits (inl both) = absurd both.1
  call_lines state newest [] (one ∷ calls) known are fits (inr part) = absurd (no_part one state newest part.1)
  call_lines state newest (piece ∷ pieces) (one ∷ []) known are fits (inl both) = subst (λ (call : OutletCall). LinesOf (call ∷ [])) (sym both.0) (inl tt)
  call_lines state newest (piece ∷ pieces) (one ∷ two ∷ calls) known are fits (inl (same, inl (also, rest))) =
      let later = call_lines (next_state state piece) newest pieces calls (known_next key state newest piece known are.0) are.1 fits rest in
      subst (λ (call : OutletCall). LinesOf (call ∷ two ∷ calls)) (sym same)
      (subst (λ (call : OutletCall). LinesOf (call ∷ calls)) (sym also)
      (together (with_indices state.frontier.count piece) (lines_by_calls calls) (piece_lines state newest piece known are.0 fits) later))
  call_lines state newest (piece ∷ pieces) (one ∷ a_keeping other another ∷ calls) known are fits (inl (same, inr part)) = absurd part.1
  call_lines state newest (piece ∷ pieces) (one ∷ a_printing first shown ∷ calls) known are fits (inl (same, inr part)) =
      let lines = part_lines first state.frontier.count shown piece part.1.1 part.1.0 part.1.2 (piece_lines state newest piece known are.0 fits) in
      subst (λ (call : OutletCall). LinesOf (call ∷ a_printing first shown ∷ calls)) (sym same)
      (subst (λ (cs : List OutletCall). LinesOf (a_printing first shown ∷ cs)) (sym part.0) (together (with_indices first shown) [] lines (inl tt)))
  call_lines state newest (piece ∷ pieces) (one ∷ calls) known are fits (inr part) = absurd (no_part one state newest part.1)

  abbrev Holds : Commitment → List ReadRun → Type 0
  Holds kept runs = OrCollision (Fits texts kept × AreLines log (lines_of_runs runs))

  -- what was kept before a run that printed nothing, and before one that printed
  run_none : (kept : Commitment) (run : ReadRun) (runs : List ReadRun) → run.calls ≡ [] → Holds (newest_after_calls kept run.calls) runs → Holds kept (run ∷ runs)
  run_none kept run runs none (inr collision) = inr collision
  run_none kept run runs none (inl (fits, lines)) = inl (
    subst (λ (cs : List OutletCall). Fits texts (newest_after_calls kept cs)) none fits,
    subst (λ (cs : List OutletCall). AreLines log (lines_by_calls cs ++ lines_of_runs runs)) (sym none) lines,
  )

  run_kept : (state : StateData) (kept : Commitment) (run : ReadRun) → IsReadRun state kept run → Fits texts run.newest → OrCollision (Fits texts kept)
  run_kept state kept run is fits = elim (extends_fits texts run.after run.newest fits is.extends) [
    | inr collision ↦ inr collision
    | inl after ↦ extends_fits texts kept run.after after is.witnessed
  ]

  run_some : (state : StateData) (kept : Commitment) (run : ReadRun) (runs : List ReadRun) → IsKnown key state → IsReadRun state kept run → newest_after_calls kept run.calls ≡ run.newest
      → Holds (newest_after_calls kept run.calls) runs → Holds kept (run ∷ runs)
  run_some state kept run runs known is same (inr collision) = inr collision
  run_some state kept run runs known is same (inl (theirs, lines)) =
      let fits = subst (Fits texts) same theirs in
      elim (call_lines state run.newest run.pieces run.calls known is.are fits is.cut_off) [
        | inr collision ↦ inr collision
        | inl own ↦ elim (run_kept state kept run is fits) [
          | inr collision ↦ inr collision
          | inl before ↦ inl (before, lines_append log (lines_by_calls run.calls) (lines_of_runs runs) own lines)
        ]
      ]

  runs_right : (runs : List ReadRun) (state : StateData) (kept : Commitment) → IsKnown key state → AreReadRuns state kept runs → Fits texts (newest_after_runs kept runs) → Holds kept runs
  runs_right [] state kept known are fits = inl (fits, tt)
  runs_right (run ∷ runs) state kept known are fits =
      let after = known_after key state state run.newest run.pieces run.calls known known are.0.are are.0.cut_off in
      let later = runs_right runs (kept_after_calls state run.calls) (newest_after_calls kept run.calls) after are.1 fits in
      elim (newest_or_none state kept run.newest run.pieces run.calls are.0.cut_off) [
        | inl none ↦ run_none kept run runs none later
        | inr same ↦ run_some state kept run runs known are.0 same later
      ]

  pub lines_right : (past : List EventData) (state : StateData) (kept : Commitment) (runs : List ReadRun) → AllByRecursion IsEvent past → is_closed past ≡ false
      → state ≡ next_state (first_state key) past → AreReadRuns state kept runs → commitment_to (log_entries key log) ≡ newest_after_runs kept runs
      → AllByRecursion (IsLineOf log) (lines_of_runs runs) ⊎ HasCollision (log_entries key log)
  lines_right past state kept runs first goes is are committed =
      let last = newest_after_runs kept runs in
      let count : length texts ≡ last.count = ap (λ (c : Commitment). c.count) committed in
      let all : last ≡ commitment_to (take last.count texts) = sym committed ∙ ap commitment_to (sym (take_all last.count texts (omega (arith, count)))) in
      let known : IsKnown key state = inl (past, record { is = is; goes = goes; each = first }) in
      elim (runs_right runs state kept known are (inr (omega (arith, count), all))) [
        | inr collision ↦ inr collision
        | inl right ↦ inl right.1
      ]

-- an index among numbered events
in_numbered : (first index : ℕ) (events : List EventData) → first ≤ index → index < first + length events → HasLine index (with_indices first events)
in_numbered first index [] from to = absurd (omega (arith, from, to))
in_numbered first index (event ∷ events) from to = elim (cases_eq first index) [
  | inl here ↦ inl here
  | inr other ↦ inr (in_numbered (first + 1) index events (omega (arith, from, other)) (omega (arith, to)))
]

has_first : (index : ℕ) (xs ys : List Line) → HasLine index xs → HasLine index (xs ++ ys)
has_first index [] ys has = absurd has
has_first index (x ∷ xs) ys (inl here) = inl here
has_first index (x ∷ xs) ys (inr later) = inr (has_first index xs ys later)

has_second : (index : ℕ) (xs ys : List Line) → HasLine index ys → HasLine index (xs ++ ys)
has_second index [] ys has = has
has_second index (x ∷ xs) ys has = inr (has_second index xs ys has)

abbrev Covers : ℕ → StateData → List OutletCall → Type 0
Covers index held calls = index < (kept_after_calls held calls).frontier.count → HasLine index (lines_by_calls calls)

covered : (state held : StateData) (newest : Commitment) (pieces : List (List EventData)) (calls : List OutletCall) (index : ℕ) → WereCutOff calls (reading_calls state newest pieces)
    → state.frontier.count ≤ index → held.frontier.count ≤ index → Covers index held calls
covered state held newest pieces [] index cut from was = λ within. absurd (omega (arith, was, within))
covered state held newest [] (one ∷ []) index (inl both) from was =
    subst (λ (call : OutletCall). Covers index held (call ∷ [])) (sym both.0) (λ within. absurd (omega (arith, from, within)))
covered state held newest [] (one ∷ two ∷ calls) index (inl both) from was = absurd both.1
covered state held newest [] (one ∷ calls) index (inr part) from was = absurd (no_part one state newest part.1)
covered state held newest (piece ∷ pieces) (one ∷ []) index (inl both) from was =
    subst (λ (call : OutletCall). Covers index held (call ∷ [])) (sym both.0) (λ within. absurd (omega (arith, from, within)))
covered state held newest (piece ∷ pieces) (one ∷ two ∷ calls) index (inl (same, inl (also, rest))) from was =
    let next = next_state state piece in
    let count : next.frontier.count ≡ state.frontier.count + length piece = omega (arith, length-leaves state piece) in
    let found : Covers index state (a_printing state.frontier.count piece ∷ calls) = λ within. elim (cases_lt index (state.frontier.count + length piece)) [
      | inl inside ↦ has_first index (with_indices state.frontier.count piece) (lines_by_calls calls) (in_numbered state.frontier.count index piece from inside)
      | inr past ↦ has_second index (with_indices state.frontier.count piece) (lines_by_calls calls)
          (covered next state newest pieces calls index rest (omega (arith, past, count)) from within)
    ] in
    subst (λ (call : OutletCall). Covers index held (call ∷ two ∷ calls)) (sym same) (subst (λ (call : OutletCall). Covers index state (call ∷ calls)) (sym also) found)
covered state held newest (piece ∷ pieces) (one ∷ a_keeping other another ∷ calls) index (inl (same, inr part)) from was = absurd part.1
covered state held newest (piece ∷ pieces) (one ∷ a_printing first shown ∷ calls) index (inl (same, inr part)) from was =
    subst (λ (call : OutletCall). Covers index held (call ∷ a_printing first shown ∷ calls)) (sym same)
    (subst (λ (cs : List OutletCall). Covers index state (a_printing first shown ∷ cs)) (sym part.0) (λ within. absurd (omega (arith, from, within))))
covered state held newest (piece ∷ pieces) (one ∷ calls) index (inr part) from was = absurd (no_part one state newest part.1)

pub runs_cover : (state : StateData) (kept : Commitment) (runs : List ReadRun) (index : ℕ) → AreReadRuns state kept runs → state.frontier.count ≤ index
    → index < (state_after_runs state runs).frontier.count → HasLine index (lines_of_runs runs)
runs_cover state kept [] index are from to = absurd (omega (arith, from, to))
runs_cover state kept (run ∷ runs) index are from to =
    let next = kept_after_calls state run.calls in
    elim (cases_lt index next.frontier.count) [
      | inl here ↦ has_first index (lines_by_calls run.calls) (lines_of_runs runs)
          (covered state state run.newest run.pieces run.calls index are.0.cut_off from from here)
      | inr later ↦ has_second index (lines_by_calls run.calls) (lines_of_runs runs)
          (runs_cover next (newest_after_calls kept run.calls) runs index are.1 later to)
    ]
