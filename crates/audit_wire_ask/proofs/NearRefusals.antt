-- How many lines are sent until a refusal.
use Rattle.std.proofs.Common.{◌≡◌, ◌∙◌, ℕ, zero, suc, ◌+◌, ◌≤◌, Bool, true, false, cond, ltb, Option, None, List, [], ◌∷◌, ◌++◌, length, length-append, refl, sym, ap, arith, true≢false}
use Rattle.std.proofs.lemmas.Bool.{lt-ltb}
use Rattle.audit_wire.specs.declared.reply.Reply.{Reply}
use Rattle.audit_wire_ask.specs.declared.places.Places.{Places}
use Rattle.audit_wire_ask.specs.declared.send_error.SendError.{SendError}
use Rattle.audit_wire_ask.specs.declared.sending.SendEnd.{SendEnd}
use Rattle.audit_wire_ask.specs.declared.taking.Taken.{Taken}
use Rattle.audit_wire_ask.specs.declared.answering.Answers.{Answers}
use Rattle.audit_wire_ask.specs.declared.stop_at.StopAt.{StopAt}
use Rattle.audit_wire_ask.specs.declared.stop_at.StopAt.TheVariants as stop
use Rattle.audit_wire_ask.specs.Sending.{is_refusal, refusals_in, before_refusal, PrintsAll, TakesRound, TakesAnswers, StaysNear, StopsNear, stops_at, end_after}
use Rattle.audit_text.specs.declared.line_form.LineForm.{LineForm}
use Rattle.audit_wire_ask.proofs.Conversations.{replies_none}
use Rattle.audit_wire_ask.proofs.PrintedAnswers.{refusals_append, replies_append}
use Rattle.audit_wire_ask.proofs.TakenLines.{takes_none, takes_first}

-- if none of the first answers is a refusal, they all come before it
none_before : (places : Places) (before : ℕ) (answers later : List Reply) → refusals_in places before answers ≡ 0 → length answers ≤ before_refusal places before (answers ++ later)
none_before places before [] later none = omega arith
none_before places before (answer ∷ answers) later none = by (none_before places (suc before) answers later) (is_refusal places (suc before) answer) none
  where
    by : (refusals_in places (suc before) answers ≡ 0 → length answers ≤ before_refusal places (suc before) (answers ++ later)) → (refuses : Bool)
        → cond refuses (refusals_in places (suc before) answers + 1) (refusals_in places (suc before) answers) ≡ 0 → length (answer ∷ answers) ≤ cond refuses 0 (suc (before_refusal places (suc before) (answers ++ later)))
    by further true some = absurd (omega (arith, some))
    by further false rest = omega (arith, further rest)

-- and later answers take none of them away
before_more : (places : Places) (before : ℕ) (answers later : List Reply) → before_refusal places before answers ≤ before_refusal places before (answers ++ later)
before_more places before [] later = omega arith
before_more places before (answer ∷ answers) later = by (before_more places (suc before) answers later) (is_refusal places (suc before) answer)
  where
    by : before_refusal places (suc before) answers ≤ before_refusal places (suc before) (answers ++ later) → (refuses : Bool)
        → cond refuses 0 (suc (before_refusal places (suc before) answers)) ≤ cond refuses 0 (suc (before_refusal places (suc before) (answers ++ later)))
    by further true = omega arith
    by further false = omega (arith, further)

-- the refusals among answers after others
refused_after : (places : Places) (before : ℕ) (first later : List Reply) (refused more at : ℕ) → refused ≡ refusals_in places before first → more ≡ refusals_in places at later → at ≡ before + length first
    → refused + more ≡ refusals_in places before (first ++ later)
refused_after places before first later refused more at h k place =
    let e : refusals_in places at later ≡ refusals_in places (before + length first) later = ap (λ (m : ℕ). refusals_in places m later) place in
    omega (arith, h, k, e, refusals_append places before first later)

pub stays_none : (places : Places) (before : ℕ) (read : Option (List ℕ)) (window : ℕ) → StaysNear places before read read window (record { sent = 0; answered = 0; refused = 0; error = None })
stays_none places before read window = record { answers = []; answered_is = refl; refused_is = refl; read = replies_none read; near = omega arith }

pub stays_more : {places : Places} {before : ℕ} {r0 r1 r2 o1 o2 : Option (List ℕ)} {window count : ℕ} {end : SendEnd} (taken : Taken) (answers : Answers) (error : Option SendError) → StaysNear places before r0 r1 window end → end.refused ≡ 0
    → PrintsAll places r1 r2 o1 o2 (before + end.answered) count answers.count answers.refused → end.sent + taken.count ≤ end.answered + window → StaysNear places before r0 r2 window (end_after end taken answers error)
stays_more {places = places} {before = before} {r0 = r0} {r1 = r1} {r2 = r2} taken answers error s none p room = record {
  answers = s.answers ++ p.answers;
  answered_is = omega (arith, s.answered_is, p.counted, p.answered_is, length-append s.answers p.answers);
  refused_is = refused_after places before s.answers p.answers _ _ _ s.refused_is p.refused_is (ap (λ (n : ℕ). before + n) s.answered_is);
  read = replies_append r0 r1 r2 s.answers p.answers s.read p.read;
  near = omega (arith, none_before places before s.answers p.answers (sym s.refused_is ∙ none), s.answered_is, room);
}

pub stops_more : {places : Places} {before : ℕ} {r0 r1 r2 o1 o2 : Option (List ℕ)} {window count : ℕ} {end : SendEnd} {answers : Answers} (taken : Taken) (error : Option SendError) → StaysNear places before r0 r1 window end → end.refused ≡ 0
    → TakesAnswers places r1 r2 o1 o2 (before + end.answered) count answers → end.sent + taken.count ≤ end.answered + window → StopsNear places before r0 window (end_after end taken answers error)
stops_more {places = places} {before = before} {r0 = r0} {r1 = r1} taken error s none t room =
    let p = t.prints in (
      t.read.0,
      record {
        answers = s.answers ++ p.answers;
        answered_is = omega (arith, s.answered_is, p.answered_is, length-append s.answers p.answers);
        refused_is = refused_after places before s.answers p.answers _ _ _ s.refused_is p.refused_is (ap (λ (n : ℕ). before + n) s.answered_is);
        read = replies_append r0 r1 t.read.0 s.answers p.answers s.read t.read.1;
        near = omega (arith, none_before places before s.answers p.answers (sym s.refused_is ∙ none), s.answered_is, room);
      },
    )

-- the last answers, while no line is taken
pub stops_last : {places : Places} {before : ℕ} {r0 r1 r2 o1 o2 : Option (List ℕ)} {window count : ℕ} {end : SendEnd} {answers : Answers} (taken : Taken) (error : Option SendError) → taken.count ≡ 0 → StaysNear places before r0 r1 window end
    → TakesAnswers places r1 r2 o1 o2 (before + end.answered) count answers → StopsNear places before r0 window (end_after end taken answers error)
stops_last {places = places} {before = before} {r0 = r0} {r1 = r1} taken error none s t =
    let p = t.prints in (
      t.read.0,
      record {
        answers = s.answers ++ p.answers;
        answered_is = omega (arith, s.answered_is, p.answered_is, length-append s.answers p.answers);
        refused_is = refused_after places before s.answers p.answers _ _ _ s.refused_is p.refused_is (ap (λ (n : ℕ). before + n) s.answered_is);
        read = replies_append r0 r1 t.read.0 s.answers p.answers s.read t.read.1;
        near = omega (arith, before_more places before s.answers p.answers, s.near, none);
      },
    )

pub stops_stays : {places : Places} {before : ℕ} {r0 r1 : Option (List ℕ)} {window : ℕ} {end : SendEnd} (error : Option SendError) → StaysNear places before r0 r1 window end
    → StopsNear places before r0 window (record { sent = end.sent; answered = end.answered; refused = end.refused; error = error })
stops_stays {r1 = r1} error s = (r1, record { answers = s.answers; answered_is = s.answered_is; refused_is = s.refused_is; read = s.read; near = s.near })

-- no line is taken
pub takes_nothing : (places : Places) (form : LineForm) (input : Option (List ℕ)) (before : ℕ) → TakesRound places form input input before [] (record { count = 0; more = true; error = None })
takes_nothing places form input before = record {
  events = [];
  counted = refl;
  first = takes_first form input input [] (takes_none form input);
  on = λ more. takes_none form input;
  all = λ over. absurd (true≢false over);
  framed = refl;
  stops = tt;
}

-- ---- whether there was a refusal

no_refusal : (refused : ℕ) → ltb 0 refused ≡ false → refused ≡ 0
no_refusal zero none = refl
no_refusal (suc refused) none = absurd (true≢false (sym (lt-ltb 0 (suc refused) (omega arith)) ∙ none))

pub until_none : (how : StopAt) (refused : ℕ) → how ≡ stop.Refusal → stops_at how refused ≡ false → refused ≡ 0
until_none how refused is none = no_refusal refused (sym (ap (λ (u : StopAt). stops_at u refused) is) ∙ none)

until_past : (first later : ℕ) → first ≤ later → ltb 0 first ≡ true → ltb 0 later ≡ false → ⊥
until_past zero later most some none = true≢false (sym some)
until_past (suc first) zero most some none = omega (arith, most)
until_past (suc first) (suc later) most some none = true≢false (sym (lt-ltb 0 (suc later) (omega arith)) ∙ none)

-- more refusals don't undo it
pub until_stays : (how : StopAt) (first later : ℕ) → first ≤ later → stops_at how first ≡ true → stops_at how later ≡ false → ⊥
until_stays stop.End first later most some none = true≢false (sym some)
until_stays stop.Refusal first later most some none = until_past first later most some none
