-- Turns of reading, one after another.
use Rattle.std.proofs.Common.{◌≡◌, ◌⊎◌, inl, inr, ◌∙◌, ℕ, ◌+◌, ◌<◌, ◌≤◌, Bool, true, false, ◌||◌, cond, Option, List, [], ◌∷◌, ◌++◌, length, set, get_or, replicate, refl, sym, ap, subst, arith, true≢false}
use Rattle.std.proofs.lemmas.Bool.{cases_Bool, cases_eq, eq-eqb, ne_eqb}
use Rattle.std.proofs.lemmas.List.{length-set, get_or-set_same, get_or-set_other}
use Rattle.std.specs.List.{AllByRecursion}
use Rattle.audit_serve_passes.specs.Steps.{StepData, a_piece, an_end, a_flush, IsAbout, AreAbout}
use Rattle.audit_serve_passes.specs.Streams.{StreamCall, CallModel, calls_for, bytes_read, bytes_sent}
use Rattle.audit_serve_passes.specs.Core.{CoreModel, asked_by, no_bytes}
use Rattle.audit_serve_passes.specs.CallLaws.{or_of_three, bytes_read-append, bytes_sent-append}
use Rattle.audit_serve_passes.proofs.Calls.{calls_here, calls_there, or_left, or_right}
use Rattle.audit_serve_passes.proofs.StreamSteps.{about_elsewhere}
use Rattle.audit_serve_passes.proofs.Transitions.{none_of_both}
use Rattle.audit_serve_ready.specs.declared.note.Note.{Note}
use Rattle.audit_serve_ready.specs.Slot.{SlotData, vacant, unread_of, noted_of, noted_after_call, noted_after_reading, is_read, has_read, is_shut, IsSamePlace}
use Rattle.audit_serve_ready.specs.Places.{slot_at, has_last_read, IsServedAt, IsReadyPass, ServesPlaces}
use Rattle.audit_serve_ready.specs.Reading.{IsWait, IsTurn, asked_in, IsShort, is_about, steps_about, mark, IsTurnTaken, IsAttended, HasTurn, IsTurnOfLive, IsLeftOut, TakesTurns, ReadsPlaces}
use Rattle.audit_serve_ready.specs.declared.limits.TheConstants.{MAX_ASKED}
use Rattle.audit_serve_ready.specs.Backlog.{TakesUp}
use Rattle.audit_serve_ready.proofs.Asking.{takes_longer, taken_stays, taken_later}
use Rattle.audit_serve_ready.proofs.Accounts.{either_of, last-append, served_elsewhere}
use Rattle.audit_serve_ready.proofs.Passes.{pass_then}
use Rattle.audit_serve_ready.proofs.Bounds.{mark_set, unmarked, ended_still}

abbrev one_if : Bool → ℕ
one_if b = cond b 1 0

abbrev one_of_one : Bool → ℕ
one_of_one b = cond b 1 0 + 0

pub read-append : (calls later : List StreamCall) → has_read (calls ++ later) ≡ (has_read calls || has_read later)
read-append [] later = refl
read-append (call ∷ calls) later =
    ap (λ (more : Bool). is_read call || more) (read-append calls later) ∙ or_of_three (is_read call) (has_read calls) (has_read later)

about-append : (k : ℕ) (steps later : List StepData) → steps_about k (steps ++ later) ≡ steps_about k steps + steps_about k later
about-append k [] later = omega arith
about-append k (step ∷ steps) later = ap (λ n. cond (is_about k step) 1 0 + n) (about-append k steps later) ∙ omega arith

pub all_append : (P : StepData → Type 0) (steps later : List StepData) → AllByRecursion P steps → AllByRecursion P later → AllByRecursion P (steps ++ later)
all_append P [] later first second = second
all_append P (step ∷ steps) later first second = (first.0, all_append P steps later first.1 second)

pub all_map : (P Q : StepData → Type 0) (steps : List StepData) → ((step : StepData) → P step → Q step) → AllByRecursion P steps → AllByRecursion Q steps
all_map P Q [] by all = tt
all_map P Q (step ∷ steps) by all = (by step all.0, all_map P Q steps by all.1)

pub all_split : (P : StepData → Type 0) (steps later : List StepData) → AllByRecursion P (steps ++ later) → AllByRecursion P steps × AllByRecursion P later
all_split P [] later all = (tt, all)
all_split P (step ∷ steps) later all =
    let rest = all_split P steps later all.1 in
    ((all.0, rest.0), rest.1)

pub then_moves : (moved found more : Bool) → ((moved || (found || more)) || false) ≡ true → ((moved || found) || more) ≡ true
then_moves true found more moving = refl
then_moves false true more moving = refl
then_moves false false true moving = refl
then_moves false false false moving = absurd (true≢false (sym moving))

pub last_moves : (moved found more now : Bool) → now ≡ (moved || (found || more)) → now ≡ true → ((moved || found) || more) ≡ true
last_moves moved found more now is moving = then_moves moved found more (ap (λ (b : Bool). b || false) (sym is ∙ moving))

pub all_moves : (moved found now : Bool) → now ≡ moved → now ≡ true → (moved || found) ≡ true
all_moves moved found now is moving = ap (λ (b : Bool). b || found) (sym is ∙ moving)

pub one_of : (x y : Bool) → (x || y) ≡ true → (x ≡ true) ⊎ (y ≡ true)
one_of true y is = inl refl
one_of false y is = inr is

pub neither_of : (x y : Bool) → (x || y) ≡ false → (x ≡ false) × (y ≡ false)
neither_of true y still = absurd (true≢false still)
neither_of false y still = (refl, still)

pub then_still : (moved found more : Bool) → ((moved || (found || more)) || false) ≡ false → ((moved || found) || more) ≡ false
then_still true found more still = absurd (true≢false still)
then_still false true more still = absurd (true≢false still)
then_still false false true still = absurd (true≢false still)
then_still false false false still = refl

pub last_still : (moved found more now : Bool) → now ≡ (moved || (found || more)) → now ≡ false → ((moved || found) || more) ≡ false
last_still moved found more now is still = then_still moved found more (ap (λ (b : Bool). b || false) (sym is ∙ still))

pub all_still : (moved found now : Bool) → now ≡ moved → found ≡ false → now ≡ false → (moved || found) ≡ false
all_still moved found now is none still = ap (λ (b : Bool). b || found) (sym is ∙ still) ∙ none

-- one step is about one session
turn_about : (k : ℕ) (step : StepData) → IsTurn k step → IsAbout k step
turn_about k (a_piece session piece) turn = turn.0
turn_about k (an_end session) turn = turn
turn_about k a_flush turn = turn

one_at_most : (k : ℕ) (step : StepData) → steps_about k (step ∷ []) ≤ 1
one_at_most k step = elim (cases_Bool (is_about k step)) [
  | inl is ↦ omega (arith, ap one_of_one is)
  | inr apart ↦ omega (arith, ap one_of_one apart)
]

step_of_both : (k other : ℕ) (step : StepData) → (other ≡ k → ⊥) → IsAbout k step → IsAbout other step → ⊥
step_of_both k other (a_piece session piece) apart about also = apart (sym also ∙ about)
step_of_both k other (an_end session) apart about also = apart (sym also ∙ about)
step_of_both k other a_flush apart about also = about

not_about : (k other : ℕ) (step : StepData) → (other ≡ k → ⊥) → IsAbout k step → is_about other step ≡ false
not_about k other (a_piece session piece) apart about = ne_eqb session other (λ same. apart (sym same ∙ about))
not_about k other (an_end session) apart about = ne_eqb session other (λ same. apart (sym same ∙ about))
not_about k other a_flush apart about = refl

none_about : (k other : ℕ) (step : StepData) → (other ≡ k → ⊥) → IsAbout k step → steps_about other (step ∷ []) ≡ 0
none_about k other step apart about = ap one_of_one (not_about k other step apart about)

unmarked_by : (marks : List Bool) (k : ℕ) → mark marks k ≡ 0 → get_or marks k true ≡ false
unmarked_by marks k none = by (get_or marks k true) none
  where
    by : (b : Bool) → one_if b ≡ 0 → b ≡ false
    by true h = absurd (omega (arith, h))
    by false h = refl

one_mark : (marks : List Bool) (k : ℕ) → mark marks k ≤ 1
one_mark marks k = by (get_or marks k true)
  where
    by : (b : Bool) → one_if b ≤ 1
    by true = omega arith
    by false = omega arith

noted-append : (calls later : List StreamCall) (noted : Option Note) → noted_after_reading (calls ++ later) noted ≡ noted_after_reading later (noted_after_reading calls noted)
noted-append [] later noted = refl
noted-append (call ∷ calls) later noted = noted-append calls later (noted_after_call call noted)

module _ {S : Type 0} where
  same_none : (slot : SlotData S) → IsSamePlace [] slot slot
  same_none slot = record { kept = refl; mute = refl; shut = refl; noted = refl }

  same_then : (calls later : List StreamCall) (a b c : SlotData S) → IsSamePlace calls a b → IsSamePlace later b c → IsSamePlace (calls ++ later) a c
  same_then calls later a b c first second = record {
    kept = second.kept ∙ first.kept;
    mute = second.mute ∙ first.mute;
    shut = second.shut ∙ first.shut;
    noted = second.noted ∙ ap (noted_after_reading later) first.noted ∙ sym (noted-append calls later (noted_of a));
  }

module _ {C S : Type 0} (M : CoreModel C) (N : CallModel S) where
  seen_first : (k : ℕ) (calls later : List StreamCall) (mid new : C) (before : SlotData S) → (M.ended mid [] k ≡ true → M.ended new [] k ≡ true) → IsAttended M N k calls mid before → IsAttended M N k (calls ++ later) new before
  seen_first k calls later mid new before stays (inl (shut, ended)) = inl (shut, stays ended)
  seen_first k calls later mid new before stays (inr (inl some)) = inr (inl some)
  seen_first k calls later mid new before stays (inr (inr asked)) = inr (inr (read-append calls later ∙ or_left (has_read calls) (has_read later) asked))

  seen_later : (k : ℕ) (calls later : List StreamCall) (new : C) (before between : SlotData S) → is_shut between ≡ is_shut before → unread_of between ≡ unread_of before → IsAttended M N k later new between → IsAttended M N k (calls ++ later) new before
  seen_later k calls later new before between same unread (inl (shut, ended)) = inl (sym same ∙ shut, ended)
  seen_later k calls later new before between same unread (inr (inl some)) = inr (inl (λ none. some (unread ∙ none)))
  seen_later k calls later new before between same unread (inr (inr asked)) = inr (inr (read-append calls later ∙ or_right (has_read calls) (has_read later) asked))

module _ {C S : Type 0} (M : CoreModel C) (N : CallModel S) (backlog : ℕ) where
  pub turns_none : {Meant : ℕ → Type 0} {given : ℕ} (marks : List Bool) (core : C) (slots : List (SlotData S)) → ((k : ℕ) → k < length slots → get_or marks k true ≡ false → M.ended core [] k ≡ false → Meant k → ⊥) → TakesTurns M N backlog given given false Meant marks marks core core slots slots
  turns_none marks core slots none = record {
    steps = [];
    calls = λ k. [];
    pass = record { count = refl; did = M.nothing_done core; others = λ k above. refl; at = λ k within. served_elsewhere N k [] (slot_at k slots) tt };
    turns = tt;
    once = λ k. omega arith;
    waits = λ still. tt;
    moves = λ moving waits. true≢false (sym moving);
    marks = λ k had. had;
    seen = λ k within unmarked live meant. elim meant [
      | inl is ↦ absurd (none k within unmarked live is)
      | inr marked ↦ absurd (true≢false (sym marked ∙ unmarked))
    ];
    last = λ k within last. absurd (true≢false (sym last));
    same = λ k. same_none (slot_at k slots);
    quiet = λ k. refl;
    left = λ k within unmarked live unshut meant. elim meant [
      | inl is ↦ absurd (none k within unmarked live is)
      | inr marked ↦ absurd (true≢false (sym marked ∙ unmarked))
    ];
    share = record { fewer = omega arith; spent = omega arith };
    alone = λ k unmarked. record { ended = refl; requests = λ bytes. (refl, refl); unread = refl; read = refl };
    over = λ k had. (refl, refl);
  }

  -- whoever is asked now wasn't asked before
  asked_same : (marks : List Bool) (steps : List StepData) (old between : C) → ((k : ℕ) → steps_about k steps + mark marks k ≤ 1) → ((k : ℕ) (bytes : List ℕ) → get_or marks k true ≡ false → M.requests between k bytes ≡ M.requests old k bytes) → asked_in M between steps ≡ asked_in M old steps
  asked_same marks [] old between once same = refl
  asked_same marks (a_piece k piece ∷ steps) old between once same =
      omega (arith, ap asked_by (same k piece (unmarked_by marks k (omega (arith, once k, ap one_if (eq-eqb k k refl))))), asked_same marks steps old between (λ j. omega (arith, once j)) same)
  asked_same marks (an_end k ∷ steps) old between once same = asked_same marks steps old between (λ j. omega (arith, once j)) same
  asked_same marks (a_flush ∷ steps) old between once same = asked_same marks steps old between (λ j. omega (arith, once j)) same

  asked-append : (core : C) (steps later : List StepData) → asked_in M core (steps ++ later) ≡ asked_in M core steps + asked_in M core later
  asked-append core [] later = omega arith
  asked-append core (a_piece k piece ∷ steps) later = omega (arith, asked-append core steps later)
  asked-append core (an_end k ∷ steps) later = asked-append core steps later
  asked-append core (a_flush ∷ steps) later = asked-append core steps later

  left_out_then : (k : ℕ) (calls later : List StreamCall) (old between new : C) (before middle after : SlotData S) → IsLeftOut M k calls old between before middle → IsLeftOut M k later between new middle after → IsLeftOut M k (calls ++ later) old new before after
  left_out_then k calls later old between new before middle after first second = record {
    ended = second.ended ∙ first.ended;
    requests = λ bytes. ((second.requests bytes).0 ∙ (first.requests bytes).0, (second.requests bytes).1 ∙ (first.requests bytes).1);
    unread = second.unread ∙ first.unread;
    read = bytes_read-append calls later ∙ none_of_both (bytes_read calls) (bytes_read later) first.read second.read;
  }

  pub turns_then : {First Next Both : ℕ → Type 0} {given midway remains : ℕ} (was moved : Bool) (had mid now : List Bool) (old between new : C) (before middle after : List (SlotData S)) → TakesTurns M N backlog given midway was First had mid old between before middle → TakesTurns M N backlog midway remains moved Next mid now between new middle after
      → ((k : ℕ) → k < length before → Both k → First k ⊎ Next k) → TakesTurns M N backlog given remains (was || moved) Both had now old new before after
  turns_then {First} {Next} {Both} {given} {midway} {remains} was moved had mid now old between new before middle after first second either = record {
    steps = first.steps ++ second.steps;
    calls = λ k. first.calls k ++ second.calls k;
    pass = pass_then N {First = M.DidSteps old between} {Next = M.DidSteps between new} {Both = M.DidSteps old new} no_bytes first.steps second.steps no_bytes no_bytes first.calls second.calls before middle after first.pass second.pass
        (λ did then_. M.more_done old between new first.steps second.steps no_bytes no_bytes did then_);
    turns = all_append (IsTurnOfLive M N (length before) old) first.steps second.steps first.turns
        (all_map (IsTurnOfLive M N (length middle) between) (IsTurnOfLive M N (length before) old) second.steps
        (λ step is. (is.0, omega (arith, is.1, first.pass.count), was_live is.0 is.2, is.3)) second.turns);
    once = λ k. omega (arith, about-append k first.steps second.steps, first.once k, second.once k);
    waits = λ still. all_append IsWait first.steps second.steps (first.waits (neither_of was moved still).0) (second.waits (neither_of was moved still).1);
    moves = λ moving waits.
        let split = all_split IsWait first.steps second.steps waits in
        either_of was moved moving (λ is. first.moves is split.0) (λ is. second.moves is split.1);
    marks = λ k marked. second.marks k (first.marks k marked);
    seen = λ k within unmarked live meant. elim (cases_Bool (get_or mid k true)) [
      | inl marked ↦ seen_first M N k (first.calls k) (second.calls k) between new (slot_at k before) (stays k) (first.seen k within unmarked live (inr marked))
      | inr not_yet ↦ not_marked k within unmarked live not_yet meant
    ];
    last = λ k within last. either_of (has_last_read (first.calls k)) (has_last_read (second.calls k)) (sym (last-append (first.calls k) (second.calls k)) ∙ last) (λ is. stays k (first.last k within is))
        (λ is. second.last k (omega (arith, within, first.pass.count)) is);
    same = λ k. same_then (first.calls k) (second.calls k) (slot_at k before) (slot_at k middle) (slot_at k after) (first.same k) (second.same k);
    quiet = λ k. bytes_sent-append (first.calls k) (second.calls k) ∙ none_of_both (bytes_sent (first.calls k)) (bytes_sent (second.calls k)) (first.quiet k) (second.quiet k);
    left = λ k within unmarked live unshut meant. elim (cases_Bool (get_or mid k true)) [
      | inl marked ↦
          let over = second.over k marked in
          taken_stays M backlog k (first.calls k) (second.calls k) old (slot_at k before) (slot_at k middle) (slot_at k after) over.0 over.1 (shorter k (first.left k within unmarked live unshut (inr marked)))
      | inr not_yet ↦ left_later k within unmarked live unshut not_yet meant
    ];
    share = record {
      fewer = omega (arith, first.share.fewer, second.share.fewer);
      spent = omega (arith, first.share.spent, second.share.spent, asked-append old first.steps second.steps, asked_same mid second.steps old between (λ k. omega (arith, second.once k, one_mark now k)) (λ k bytes unmarked. ((first.alone k unmarked).requests bytes).0));
    };
    alone = λ k unmarked. left_out_then k (first.calls k) (second.calls k) old between new (slot_at k before) (slot_at k middle) (slot_at k after) (first.alone k (before_too k unmarked)) (second.alone k unmarked);
    over = λ k marked.
        let mine = first.over k marked in
        let then_ = second.over k (first.marks k marked) in (bytes_read-append (first.calls k) (second.calls k) ∙ none_of_both (bytes_read (first.calls k)) (bytes_read (second.calls k)) mine.0 then_.0, then_.1 ∙ mine.1);
  }
    where
      shorter : (k : ℕ) → TakesUp M backlog (IsShort midway) k (first.calls k) old (slot_at k before) (slot_at k middle) → TakesUp M backlog (IsShort remains) k (first.calls k) old (slot_at k before) (slot_at k middle)
      shorter k = takes_longer M backlog k (first.calls k) old (slot_at k before) (slot_at k middle) (λ reply short. omega (arith, short, second.share.fewer))

      stays : (k : ℕ) → M.ended between [] k ≡ true → M.ended new [] k ≡ true
      stays k = ended_still M between new second.steps no_bytes k second.pass.did

      was_live : (k : ℕ) → M.ended between [] k ≡ false → M.ended old [] k ≡ false
      was_live k live = elim (cases_Bool (M.ended old [] k)) [
        | inl ended ↦ absurd (true≢false (sym (ended_still M old between first.steps no_bytes k first.pass.did ended) ∙ live))
        | inr is ↦ is
      ]

      before_too : (k : ℕ) → get_or now k true ≡ false → get_or mid k true ≡ false
      before_too k unmarked = elim (cases_Bool (get_or mid k true)) [
        | inl marked ↦ absurd (true≢false (sym (second.marks k marked) ∙ unmarked))
        | inr is ↦ is
      ]

      by_next : (k : ℕ) → k < length before → M.ended old [] k ≡ false → get_or mid k true ≡ false → Next k ⊎ (get_or now k true ≡ true) → IsAttended M N k (first.calls k ++ second.calls k) new (slot_at k before)
      by_next k within live not_yet meant =
          let was = first.alone k not_yet in
          seen_later M N k (first.calls k) (second.calls k) new (slot_at k before) (slot_at k middle) (first.same k).shut was.unread
          (second.seen k (omega (arith, within, first.pass.count)) not_yet (was.ended ∙ live) meant)

      not_marked : (k : ℕ) → k < length before → get_or had k true ≡ false → M.ended old [] k ≡ false → get_or mid k true ≡ false → Both k ⊎ (get_or now k true ≡ true) → IsAttended M N k (first.calls k ++ second.calls k) new (slot_at k before)
      not_marked k within unmarked live not_yet (inr marked) = by_next k within live not_yet (inr marked)
      not_marked k within unmarked live not_yet (inl meant) = elim (either k within meant) [
        | inl is ↦ seen_first M N k (first.calls k) (second.calls k) between new (slot_at k before) (stays k) (first.seen k within unmarked live (inl is))
        | inr is ↦ by_next k within live not_yet (inl is)
      ]

      taken_next : (k : ℕ) → k < length before → M.ended old [] k ≡ false → is_shut (slot_at k before) ≡ false → get_or mid k true ≡ false → Next k ⊎ (get_or now k true ≡ true) → TakesUp M backlog (IsShort remains) k (first.calls k ++ second.calls k) old (slot_at k before) (slot_at k after)
      taken_next k within live unshut not_yet meant =
          let was = first.alone k not_yet in
          taken_later M backlog k (first.calls k) (second.calls k) between old (slot_at k before) (slot_at k middle) (slot_at k after) was.read was.unread (first.same k).kept was.requests
          (second.left k (omega (arith, within, first.pass.count)) not_yet (was.ended ∙ live) ((first.same k).shut ∙ unshut) meant)

      left_later : (k : ℕ) → k < length before → get_or had k true ≡ false → M.ended old [] k ≡ false → is_shut (slot_at k before) ≡ false → get_or mid k true ≡ false → Both k ⊎ (get_or now k true ≡ true) → TakesUp M backlog (IsShort remains) k (first.calls k ++ second.calls k) old (slot_at k before) (slot_at k after)
      left_later k within unmarked live unshut not_yet (inr marked) = taken_next k within live unshut not_yet (inr marked)
      left_later k within unmarked live unshut not_yet (inl meant) = elim (either k within meant) [
        | inr is ↦ taken_next k within live unshut not_yet (inl is)
        | inl is ↦ elim (cases_Bool (get_or now k true)) [
          | inl marked ↦ taken_next k within live unshut not_yet (inr marked)
          | inr never ↦
              let out = second.alone k never in
              taken_stays M backlog k (first.calls k) (second.calls k) old (slot_at k before) (slot_at k middle) (slot_at k after) out.read out.unread (shorter k (first.left k within unmarked live unshut (inl is)))
        ]
      ]

  -- ---- one turn

  about_all : (k : ℕ) (had : Bool) (steps : List StepData) → IsTurnTaken k had steps → AreAbout k steps
  about_all k true steps taken = subst (AreAbout k) (sym taken.1) (turn_about k taken.0 taken.2, tt)
  about_all k false steps none = subst (AreAbout k) (sym none) tt

  turn_pass : (k : ℕ) (steps : List StepData) (calls : List StreamCall) (old new : C) (slots : List (SlotData S)) (after : SlotData S) → k < length slots → M.DidSteps old new steps no_bytes → AreAbout k steps → IsServedAt N k steps [] [] calls (slot_at k slots) after
      → IsReadyPass N (M.DidSteps old new) no_bytes steps no_bytes (calls_for k calls) slots (set slots k after)
  turn_pass k steps calls old new slots after within did about served = record {
    count = length-set slots k after;
    did = did;
    others = λ other above. refl;
    at = λ other inside. elim (cases_eq other k) [
      | inl same ↦ subst (λ (j : ℕ). IsServedAt N j steps [] [] (calls_for k calls j) (slot_at j slots) (slot_at j (set slots k after))) (sym same)
          (subst (λ (now : List StreamCall). IsServedAt N k steps [] [] now (slot_at k slots) (slot_at k (set slots k after))) (sym (calls_here k calls))
          (subst (λ (now : SlotData S). IsServedAt N k steps [] [] calls (slot_at k slots) now) (sym (get_or-set_same slots k after vacant within)) served))
      | inr apart ↦
          subst (λ (now : List StreamCall). IsServedAt N other steps [] [] now (slot_at other slots) (slot_at other (set slots k after))) (sym (calls_there k other calls apart))
          (subst (λ (now : SlotData S). IsServedAt N other steps [] [] [] (slot_at other slots) now) (sym (get_or-set_other slots k other after vacant apart))
          (served_elsewhere N other steps (slot_at other slots) (about_elsewhere k other steps apart about)))
    ];
  }

  mark_same : (k other : ℕ) (had : List Bool) (is : Bool) → (other ≡ k → ⊥) → mark (set had k is) other ≡ mark had other
  mark_same k other had is apart = ap one_if (get_or-set_other had k other is true apart)

  once_more : (k : ℕ) (had : List Bool) (is : Bool) (steps : List StepData) → get_or had k true ≡ false → IsTurnTaken k is steps → (other : ℕ) → steps_about other steps + mark had other ≤ mark (set had k is) other
  once_more k had true steps due taken other = elim (cases_eq other k) [
    | inl same ↦ omega (
      arith,
      ap (steps_about other) taken.1,
      one_at_most other taken.0,
      ap one_if (ap (λ (j : ℕ). get_or had j true) same ∙ due),
      ap one_if (ap (λ (j : ℕ). get_or (set had k true) j true) same ∙ mark_set k had true (λ e. true≢false e)),
    )
    | inr apart ↦ omega (arith, ap (steps_about other) taken.1, none_about k other taken.0 apart (turn_about k taken.0 taken.2), mark_same k other had true apart)
  ]
  once_more k had false steps due none other = elim (cases_eq other k) [
    | inl same ↦ omega (arith, ap (steps_about other) none, ap one_if (ap (λ (j : ℕ). get_or had j true) same ∙ due))
    | inr apart ↦ omega (arith, ap (steps_about other) none, mark_same k other had false apart)
  ]

  turn_of_live : (k count : ℕ) (is : Bool) (core : C) (steps : List StepData) → k < count → M.ended core [] k ≡ false → IsTurnTaken k is steps → AllByRecursion (IsTurnOfLive M N count core) steps
  turn_of_live k count true core steps below live taken = subst (AllByRecursion (IsTurnOfLive M N count core)) (sym taken.1) ((k, below, live, taken.2), tt)
  turn_of_live k count false core steps below live none = subst (AllByRecursion (IsTurnOfLive M N count core)) (sym none) tt

  others_about : (k other : ℕ) (is : Bool) (steps : List StepData) → (other ≡ k → ⊥) → IsTurnTaken k is steps → AllByRecursion (λ step. IsAbout other step → ⊥) steps
  others_about k other true steps apart taken = subst (AllByRecursion (λ step. IsAbout other step → ⊥)) (sym taken.1) (step_of_both k other taken.0 apart (turn_about k taken.0 taken.2), tt)
  others_about k other false steps apart none = subst (AllByRecursion (λ step. IsAbout other step → ⊥)) (sym none) tt

  -- whoever isn't the one whose turn it is
  ended_same : (k other : ℕ) (is : Bool) (old new : C) (steps : List StepData) → (other ≡ k → ⊥) → M.DidSteps old new steps no_bytes → IsTurnTaken k is steps → M.ended new [] other ≡ M.ended old [] other
  ended_same k other false old new steps apart did none =
      M.ended_by_steps old new steps [] no_bytes other did ∙ ap (λ (all : List StepData). M.ended old (all ++ []) other) none
  ended_same k other true old new steps apart did taken =
      M.ended_by_steps old new steps [] no_bytes other did ∙ ap (λ (all : List StepData). M.ended old (all ++ []) other) taken.1
      ∙ M.ended_alone old [] taken.0 other (λ about. step_of_both k other taken.0 apart (turn_about k taken.0 taken.2) about)

  unmarked_is : (k : ℕ) (had : List Bool) (is : Bool) → get_or (set had k is) k true ≡ false → is ≡ false
  unmarked_is k had true unmarked = absurd (true≢false (sym (mark_set k had true (λ e. true≢false e)) ∙ unmarked))
  unmarked_is k had false unmarked = refl

  pub one_turn : {given remains : ℕ} (moved : Bool) (k : ℕ) (had : List Bool) (is : Bool) (old new : C) (slots : List (SlotData S)) (after : SlotData S) → k < length slots → get_or had k true ≡ false → M.ended old [] k ≡ false → HasTurn M N backlog given remains moved k is old new (slot_at k slots) after
      → TakesTurns M N backlog given remains moved (λ j. j ≡ k) had (set had k is) old new slots (set slots k after)
  one_turn {given} {remains} moved k had is old new slots after within due live turn = record {
    steps = turn.steps;
    calls = calls_for k turn.calls;
    pass = turn_pass k turn.steps turn.calls old new slots after within turn.did (about_all k is turn.steps turn.taken) turn.served;
    turns = turn_of_live k (length slots) is old turn.steps within live turn.taken;
    once = once_more k had is turn.steps due turn.taken;
    waits = turn.waits;
    moves = turn.moves;
    marks = λ other marked. get_or-set_other had k other is true (λ same. true≢false (sym marked ∙ ap (λ (j : ℕ). get_or had j true) same ∙ due)) ∙ marked;
    seen = λ other inside unmarked alive meant. elim (cases_eq other k) [
      | inl same ↦ subst (λ (j : ℕ). IsAttended M N j (calls_for k turn.calls j) new (slot_at j slots)) (sym same) (subst (λ (calls : List StreamCall). IsAttended M N k calls new (slot_at k slots)) (sym (calls_here k turn.calls)) turn.seen)
      | inr apart ↦ absurd (not_meant other apart unmarked meant)
    ];
    last = λ other inside last. elim (cases_eq other k) [
      | inl same ↦ ap (M.ended new []) same ∙ turn.last (sym (ap has_last_read (calls_here k turn.calls)) ∙ sym (ap (λ (j : ℕ). has_last_read (calls_for k turn.calls j)) same) ∙ last)
      | inr apart ↦ absurd (true≢false (sym last ∙ ap has_last_read (calls_there k other turn.calls apart)))
    ];
    same = λ other. elim (cases_eq other k) [
      | inl same ↦ subst (λ (j : ℕ). IsSamePlace (calls_for k turn.calls j) (slot_at j slots) (slot_at j (set slots k after))) (sym same)
          (subst (λ (calls : List StreamCall). IsSamePlace calls (slot_at k slots) (slot_at k (set slots k after))) (sym (calls_here k turn.calls))
          (subst (IsSamePlace turn.calls (slot_at k slots)) (sym (get_or-set_same slots k after vacant within)) turn.same))
      | inr apart ↦ subst (λ (calls : List StreamCall). IsSamePlace calls (slot_at other slots) (slot_at other (set slots k after))) (sym (calls_there k other turn.calls apart))
          (subst (IsSamePlace [] (slot_at other slots)) (sym (get_or-set_other slots k other after vacant apart)) (same_none (slot_at other slots)))
    ];
    quiet = λ other. elim (cases_eq other k) [
      | inl same ↦ ap (λ (j : ℕ). bytes_sent (calls_for k turn.calls j)) same ∙ ap bytes_sent (calls_here k turn.calls) ∙ turn.quiet
      | inr apart ↦ ap bytes_sent (calls_there k other turn.calls apart)
    ];
    left = λ other inside unmarked alive unshut meant. elim (cases_eq other k) [
      | inl same ↦ subst (λ (j : ℕ). TakesUp M backlog (IsShort remains) j (calls_for k turn.calls j) old (slot_at j slots) (slot_at j (set slots k after))) (sym same)
          (subst (λ (calls : List StreamCall). TakesUp M backlog (IsShort remains) k calls old (slot_at k slots) (slot_at k (set slots k after))) (sym (calls_here k turn.calls))
          (subst (TakesUp M backlog (IsShort remains) k turn.calls old (slot_at k slots)) (sym (get_or-set_same slots k after vacant within)) (turn.left (sym (ap (λ (j : ℕ). is_shut (slot_at j slots)) same) ∙ unshut))))
      | inr apart ↦ absurd (not_meant other apart unmarked meant)
    ];
    share = turn.share;
    alone = λ other unmarked. elim (cases_eq other k) [
      | inl same ↦
          let idle = unmarked_is k had is (sym (ap (λ (j : ℕ). get_or (set had k is) j true) same) ∙ unmarked) in
          subst (λ (j : ℕ). IsLeftOut M j (calls_for k turn.calls j) old new (slot_at j slots) (slot_at j (set slots k after))) (sym same)
          (subst (λ (calls : List StreamCall). IsLeftOut M k calls old new (slot_at k slots) (slot_at k (set slots k after))) (sym (calls_here k turn.calls))
          (subst (IsLeftOut M k turn.calls old new (slot_at k slots)) (sym (get_or-set_same slots k after vacant within)) (record {
            ended = nothing_done is turn.steps turn.did turn.taken idle;
            requests = λ bytes. M.requests_alone old new turn.steps no_bytes k bytes turn.did (idle_about is turn.steps turn.taken idle);
            unread = (turn.none idle).0;
            read = (turn.none idle).1;
          })))
      | inr apart ↦ record {
        ended = ended_same k other is old new turn.steps apart turn.did turn.taken;
        requests = λ bytes. M.requests_alone old new turn.steps no_bytes other bytes turn.did (others_about k other is turn.steps apart turn.taken);
        unread = ap unread_of (get_or-set_other slots k other after vacant apart);
        read = ap bytes_read (calls_there k other turn.calls apart);
      }
    ];
    over = λ other marked. elim (cases_eq other k) [
      | inl same ↦ absurd (true≢false (sym marked ∙ ap (λ (j : ℕ). get_or had j true) same ∙ due))
      | inr apart ↦ (ap bytes_read (calls_there k other turn.calls apart), ap unread_of (get_or-set_other slots k other after vacant apart))
    ];
  }
    where
      not_meant : (other : ℕ) → (other ≡ k → ⊥) → get_or had other true ≡ false → (other ≡ k) ⊎ (get_or (set had k is) other true ≡ true) → ⊥
      not_meant other apart unmarked (inl same) = apart same
      not_meant other apart unmarked (inr marked) = true≢false (sym marked ∙ get_or-set_other had k other is true apart ∙ unmarked)

      idle_about : (is : Bool) (steps : List StepData) → IsTurnTaken k is steps → is ≡ false → AllByRecursion (λ step. IsAbout k step → ⊥) steps
      idle_about true steps taken idle = absurd (true≢false idle)
      idle_about false steps none idle = subst (AllByRecursion (λ step. IsAbout k step → ⊥)) (sym none) tt

      nothing_done : (is : Bool) (steps : List StepData) → M.DidSteps old new steps no_bytes → IsTurnTaken k is steps → is ≡ false → M.ended new [] k ≡ M.ended old [] k
      nothing_done true steps did taken idle = absurd (true≢false idle)
      nothing_done false steps did none idle = M.ended_by_steps old new steps [] no_bytes k did ∙ ap (λ (all : List StepData). M.ended old (all ++ []) k) none

  -- what others are meant
  pub turns_mean : {Meant Other : ℕ → Type 0} {given remains : ℕ} (moved : Bool) (had now : List Bool) (old new : C) (before after : List (SlotData S)) → ((k : ℕ) → k < length before → Other k → Meant k) → TakesTurns M N backlog given remains moved Meant had now old new before after → TakesTurns M N backlog given remains moved Other had now old new before after
  turns_mean {Meant} {Other} moved had now old new before after by done = record {
    steps = done.steps;
    calls = done.calls;
    pass = done.pass;
    turns = done.turns;
    once = done.once;
    waits = done.waits;
    moves = done.moves;
    marks = done.marks;
    seen = λ k within unmarked live meant. done.seen k within unmarked live (to k within meant);
    last = done.last;
    same = done.same;
    quiet = done.quiet;
    left = λ k within unmarked live unshut meant. done.left k within unmarked live unshut (to k within meant);
    share = done.share;
    alone = done.alone;
    over = done.over;
  }
    where
      to : (k : ℕ) → k < length before → Other k ⊎ (get_or now k true ≡ true) → Meant k ⊎ (get_or now k true ≡ true)
      to k within (inl meant) = inl (by k within meant)
      to k within (inr marked) = inr marked

  -- as what is done for the places
  pub turns_serve : {Meant : ℕ → Type 0} {given remains : ℕ} {moved : Bool} (had now : List Bool) (old new : C) (before after : List (SlotData S)) → TakesTurns M N backlog given remains moved Meant had now old new before after → ServesPlaces N (M.DidSteps old new) no_bytes before after
  turns_serve had now old new before after done = record { steps = done.steps; taken = no_bytes; calls = done.calls; pass = done.pass }

  -- of all sessions, of which none had had its turn
  turns_read : {Meant : ℕ → Type 0} {remains : ℕ} (moved : Bool) (now : List Bool) (old new : C) (before after : List (SlotData S)) → length before ≤ 16 → ((k : ℕ) → k < length before → Meant k) → (done : TakesTurns M N backlog MAX_ASKED remains moved Meant (replicate 16 false) now old new before after)
      → ReadsPlaces M N backlog moved done.steps done.calls old new before after
  turns_read moved now old new before after few all done = record {
    pass = done.pass;
    turns = done.turns;
    once = λ k. omega (arith, done.once k, most_one (get_or now k true));
    waits = done.waits;
    moves = done.moves;
    seen = λ k within live. done.seen k within (unmarked 16 k (omega (arith, within, few))) live (inl (all k within));
    last = done.last;
    same = done.same;
    quiet = done.quiet;
    left = λ k within live unshut. takes_longer M backlog k (done.calls k) old (slot_at k before) (slot_at k after) (λ reply short. omega (arith, short, done.share.spent))
        (done.left k within (unmarked 16 k (omega (arith, within, few))) live unshut (inl (all k within)));
  }
    where
      most_one : (b : Bool) → cond b 1 0 ≤ 1
      most_one true = omega arith
      most_one false = omega arith

  pub read_all : {Meant : ℕ → Type 0} {remains : ℕ} (moved : Bool) (now : List Bool) (old new : C) (before after : List (SlotData S)) → length before ≤ 16 → ((k : ℕ) → k < length before → Meant k) → TakesTurns M N backlog MAX_ASKED remains moved Meant (replicate 16 false) now old new before after
      → (steps : List StepData) × (calls : ℕ → List StreamCall) × ReadsPlaces M N backlog moved steps calls old new before after
  read_all {Meant} moved now old new before after few all done = (done.steps, done.calls, turns_read {Meant = Meant} moved now old new before after few all done)

  -- if it is said of more that something moved
  pub turns_still : {Meant : ℕ → Type 0} {given remains : ℕ} (moved as_ : Bool) (had now : List Bool) (old new : C) (before after : List (SlotData S)) → (as_ ≡ false → moved ≡ false) → (as_ ≡ true → moved ≡ true) → TakesTurns M N backlog given remains moved Meant had now old new before after → TakesTurns M N backlog given remains as_ Meant had now old new before after
  turns_still moved as_ had now old new before after less more done = record {
    steps = done.steps;
    calls = done.calls;
    pass = done.pass;
    turns = done.turns;
    once = done.once;
    waits = λ still. done.waits (less still);
    moves = λ moving. done.moves (more moving);
    marks = done.marks;
    seen = done.seen;
    last = done.last;
    same = done.same;
    quiet = done.quiet;
    left = done.left;
    share = done.share;
    alone = done.alone;
    over = done.over;
  }
