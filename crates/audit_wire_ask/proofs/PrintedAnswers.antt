-- Answers that are read and printed one after another.
use Rattle.std.specs.Prelude.{◌<◌, map, Bool, true, false, if◌then◌else◌}
use Rattle.std.specs.List.{flat_map}
use Rattle.std.specs.Io.KnownBytes.{Appends, Consumes, Keeps}
use Rattle.std.proofs.Common.{◌≡◌, ◌∙◌, ℕ, suc, ◌+◌, ◌≤◌, Option, Some, None, List, [], ◌∷◌, ◌++◌, length, length-append, append-nil, append_assoc, sym, ap, subst, refl, arith}
use Rattle.std.proofs.lemmas.Grind.{flat_map-append}
use Rattle.std.proofs.lemmas.List.{map-append}
use Rattle.std.proofs.lemmas.Option.{none-some}
use Rattle.audit_text.specs.Writing.{WritesInPart}
use Rattle.audit_wire.specs.declared.reply.Reply.{Reply}
use Rattle.audit_wire.specs.Frame.{frame}
use Rattle.audit_wire.specs.Reply.{reply_in}
use Rattle.audit_wire_ask.specs.declared.places.Places.{Places}
use Rattle.audit_wire_ask.specs.declared.send_error.SendError.{SendError}
use Rattle.audit_wire_ask.specs.declared.send_error.SendError.TheVariants.{Input, Client, Output, Keys}
use Rattle.audit_wire_ask.specs.Conversation.{ReadsReplies}
use Rattle.audit_wire_ask.specs.Sending.{is_refusal, refusals_in, answer_line, answer_lines, AnswersLine, AreAnswers, TakesAnswer, FailsAnswer, Prints, PrintsAll, TakesAnswers}
use Rattle.audit_wire_ask.proofs.Conversations.{consumes_more, appends_none, appends_more, appends_kept, replies_none}
use Rattle.audit_wire_ask.proofs.Exports.{replies_more}

-- ---- lists of answers

pub due_append : (places : Places) (before : ℕ) (first later : List Reply) → AreAnswers places before first → AreAnswers places (before + length first) later → AreAnswers places before (first ++ later)
due_append places before [] later h k = let e : before + 0 ≡ before = omega arith in subst (λ (n : ℕ). AreAnswers places n later) e k
due_append places before (answer ∷ answers) later h k =
    let e : before + length (answer ∷ answers) ≡ suc before + length answers = omega arith in
    (h.0, due_append places (suc before) answers later h.1 (subst (λ (n : ℕ). AreAnswers places n later) e k))

pub lines_append : (before : ℕ) (first later : List Reply) → answer_lines before (first ++ later) ≡ answer_lines before first ++ answer_lines (before + length first) later
lines_append before [] later = let e : before ≡ before + 0 = omega arith in ap (λ (n : ℕ). answer_lines n later) e
lines_append before (answer ∷ answers) later =
    let e : suc before + length answers ≡ before + length (answer ∷ answers) = omega arith in
    ap (λ (rest : List ℕ). answer_line (suc before) answer ++ rest)
    (lines_append (suc before) answers later ∙ ap (λ (n : ℕ). answer_lines (suc before) answers ++ answer_lines n later) e)
    ∙ sym (append_assoc (answer_line (suc before) answer) (answer_lines (suc before) answers) (answer_lines (before + length (answer ∷ answers)) later))

one_more : (refuses : Bool) (m n : ℕ) → (if refuses then (m + n) + 1 else m + n) ≡ (if refuses then m + 1 else m) + n
one_more true m n = omega arith
one_more false m n = refl

pub refusals_append : (places : Places) (before : ℕ) (first later : List Reply) → refusals_in places before (first ++ later) ≡ refusals_in places before first + refusals_in places (before + length first) later
refusals_append places before [] later =
    let at : before ≡ before + 0 = omega arith in
    let e : refusals_in places before later ≡ refusals_in places (before + 0) later = ap (λ (n : ℕ). refusals_in places n later) at in
    omega (arith, e)
refusals_append places before (answer ∷ answers) later =
    let refuses = is_refusal places (suc before) answer in
    let e : suc before + length answers ≡ before + length (answer ∷ answers) = omega arith in
    ap (λ (n : ℕ). if refuses then n + 1 else n) (refusals_append places (suc before) answers later) ∙ one_more refuses (refusals_in places (suc before) answers) (refusals_in places (suc before + length answers) later)
    ∙ ap (λ (n : ℕ). (if refuses then refusals_in places (suc before) answers + 1 else refusals_in places (suc before) answers) + refusals_in places n later) e

at_most_one : (refuses : Bool) (m n : ℕ) → m ≤ n → (if refuses then m + 1 else m) ≤ n + 1
at_most_one true m n h = omega arith
at_most_one false m n h = omega arith

pub refusals_few : (places : Places) (before : ℕ) (answers : List Reply) → refusals_in places before answers ≤ length answers
refusals_few places before [] = omega arith
refusals_few places before (answer ∷ answers) =
    let rest = refusals_in places (suc before) answers in
    let few : (if is_refusal places (suc before) answer then rest + 1 else rest) ≤ length answers + 1 = at_most_one (is_refusal places (suc before) answer) rest (length answers) (refusals_few places (suc before) answers) in
    omega (arith, few)

pub replies_append : (old mid new : Option (List ℕ)) (first later : List Reply) → ReadsReplies old mid first → ReadsReplies mid new later → ReadsReplies old new (first ++ later)
replies_append old mid new first later h k = record {
  bodies = h.bodies ++ k.bodies;
  bytes = subst (Consumes old new) (sym (flat_map-append frame h.bodies k.bodies)) (consumes_more old mid new (flat_map frame h.bodies) (flat_map frame k.bodies) h.bytes k.bytes);
  read =
      map-append reply_in h.bodies k.bodies ∙ ap (λ (front : List (Option Reply)). front ++ map reply_in k.bodies) h.read
      ∙ ap (λ (rest : List (Option Reply)). map (λ reply. Some reply) first ++ rest) k.read ∙ sym (map-append (λ (reply : Reply). Some reply) first later);
}

-- ---- what was written

-- the whole of a text was written
pub part_whole : (old new : Option (List ℕ)) (text : List ℕ) → Appends old new text → WritesInPart old new text
part_whole old new text h = record { written = text; rest = []; split = sym (append-nil text); appended = h }

-- a text was written, and then a part of another
pub part_after : (old mid new : Option (List ℕ)) (first later : List ℕ) → Appends old mid first → WritesInPart mid new later → WritesInPart old new (first ++ later)
part_after old mid new first later h k = record {
  written = first ++ k.written;
  rest = k.rest;
  split = ap (λ (l : List ℕ). first ++ l) k.split ∙ sym (append_assoc first k.written k.rest);
  appended = appends_more old mid new first k.written h k.appended;
}

-- ---- one answer after another

pub prints_none : (places : Places) (read old : Option (List ℕ)) (before : ℕ) → PrintsAll places read read old old before 0 0 0
prints_none places read old before = record { answers = []; counted = refl; answered_is = refl; refused_is = refl; due = tt; read = replies_none read; printed = appends_none old }

one_refusal : (refuses : Bool) (refused : ℕ) → (if refuses then refused + 1 else refused) ≡ refused + (if refuses then 0 + 1 else 0)
one_refusal true refused = omega arith
one_refusal false refused = omega arith

pub prints_more : {places : Places} {r0 r1 r2 o0 o1 o2 : Option (List ℕ)} {before n refused : ℕ} {refuses : Bool} → PrintsAll places r0 r1 o0 o1 before n n refused → TakesAnswer places r1 r2 o1 o2 (before + n + 1) refuses → (sum : ℕ) → sum ≡ (if refuses then refused + 1 else refused)
    → PrintsAll places r0 r2 o0 o2 before (n + 1) (n + 1) sum
prints_more {places = places} {r0 = r0} {r1 = r1} {r2 = r2} {o0 = o0} {o1 = o1} {o2 = o2} {before = before} {n = n} {refused = refused} h k sum sum_is =
    let answer = k.answer in
    let place : before + n + 1 ≡ suc (before + length h.answers) = omega (arith, h.counted) in
    record {
      answers = h.answers ++ answer ∷ [];
      counted = omega (arith, h.counted, length-append h.answers (answer ∷ []));
      answered_is = refl;
      refused_is =
          sum_is ∙ ap (λ (b : Bool). if b then refused + 1 else refused) (k.refuses_is ∙ ap (λ (m : ℕ). is_refusal places m answer) place) ∙ one_refusal (is_refusal places (suc (before + length h.answers)) answer) refused
          ∙ ap (λ (m : ℕ). m + refusals_in places (before + length h.answers) (answer ∷ [])) h.refused_is ∙ sym (refusals_append places before h.answers (answer ∷ []));
      due = due_append places before h.answers (answer ∷ []) h.due (subst (λ (m : ℕ). AnswersLine places m answer) place k.due, tt);
      read = replies_more r0 r1 r2 h.answers answer h.read k.read;
      printed = subst (Appends o0 o2)
          (ap (λ (m : ℕ). answer_lines before h.answers ++ answer_line m answer) place ∙ ap (λ (l : List ℕ). answer_lines before h.answers ++ l) (sym (append-nil (answer_line (suc (before + length h.answers)) answer)))
          ∙ sym (lines_append before h.answers (answer ∷ [])))
          (appends_more o0 o1 o2 (answer_lines before h.answers) (answer_line (before + n + 1) answer) h.printed k.printed);
    }

-- whatever happened after that
abbrev pub prints_all : {places : Places} {r0 r1 o0 o1 : Option (List ℕ)} {before n answered refused : ℕ} (error : Option SendError) → PrintsAll places r0 r1 o0 o1 before n answered refused → Prints places r0 o0 o1 before answered refused error
prints_all {places = places} {r0 = r0} {r1 = r1} {o0 = o0} {o1 = o1} {before = before} error h =
    let same = sym (append-nil h.answers) in
    record {
      answers = h.answers;
      torn = [];
      answered_is = h.answered_is ∙ sym h.counted;
      refused_is = h.refused_is;
      due = subst (AreAnswers places before) same h.due;
      read = (r1, subst (ReadsReplies r0 r1) same h.read);
      part = subst (λ (l : List Reply). WritesInPart o0 o1 (answer_lines before l)) same (part_whole o0 o1 (answer_lines before h.answers) h.printed);
      whole = λ _. (refl, h.printed);
    }

abbrev pub keeps_all : {places : Places} {r0 r1 o0 o1 : Option (List ℕ)} {before n refused : ℕ} (o2 : Option (List ℕ)) → PrintsAll places r0 r1 o0 o1 before n n refused → Keeps o1 o2 → PrintsAll places r0 r1 o0 o2 before n n refused
keeps_all {o0 = o0} {o1 = o1} {before = before} o2 h kept = record {
  answers = h.answers;
  counted = h.counted;
  answered_is = h.answered_is;
  refused_is = h.refused_is;
  due = h.due;
  read = h.read;
  printed = appends_kept o0 o1 o2 (answer_lines before h.answers) h.printed kept;
}

-- the answer after them failed
pub stopped : {places : Places} {r0 r1 o0 o1 : Option (List ℕ)} {before n refused count : ℕ} (r2 o2 : Option (List ℕ)) → PrintsAll places r0 r1 o0 o1 before n n refused → (error : SendError) → FailsAnswer places r1 r2 o1 o2 (before + n + 1) error → n < count
    → TakesAnswers places r0 r2 o0 o2 before count (record { count = n; refused = refused; error = Some error })
stopped r2 o2 h (Input error) k below = absurd k
stopped {r1 = r1} {count = count} r2 o2 h (Client error) k below =
    let few : length (h.answers ++ []) ≤ count = omega (arith, below, h.counted, ap length (append-nil h.answers)) in
    record { prints = prints_all (Some (Client error)) (keeps_all o2 h k.0); few = few; read = (r1, h.read); all = λ none. absurd (none-some (Client error) (sym none)); fails = (r1, h.answers, h.counted, h.read, k.1) }
stopped {places = places} {r0 = r0} {r1 = r1} {o0 = o0} {o1 = o1} {before = before} {n = n} r2 o2 h Output k below =
    let answer = k.answer in
    let place : before + n + 1 ≡ suc (before + length h.answers) = omega (arith, h.counted) in
    record {
      prints = record {
        answers = h.answers;
        torn = answer ∷ [];
        answered_is = sym h.counted;
        refused_is = h.refused_is;
        due = due_append places before h.answers (answer ∷ []) h.due (subst (λ (m : ℕ). AnswersLine places m answer) place k.due, tt);
        read = (k.mid, replies_more r0 r1 k.mid h.answers answer h.read k.read);
        part = subst (WritesInPart o0 o2)
            (ap (λ (m : ℕ). answer_lines before h.answers ++ answer_line m answer) place ∙ ap (λ (l : List ℕ). answer_lines before h.answers ++ l) (sym (append-nil (answer_line (suc (before + length h.answers)) answer)))
            ∙ sym (lines_append before h.answers (answer ∷ [])))
            (part_after o0 o1 o2 (answer_lines before h.answers) (answer_line (before + n + 1) answer) h.printed k.part);
        whole = λ other. absurd (other refl);
      };
      few = omega (arith, below, h.counted, length-append h.answers (answer ∷ []));
      read = (r1, h.read);
      all = λ none. absurd (none-some Output (sym none));
      fails = tt;
    }
stopped {r1 = r1} {count = count} r2 o2 h Keys k below =
    let few : length (h.answers ++ []) ≤ count = omega (arith, below, h.counted, ap length (append-nil h.answers)) in
    record { prints = prints_all (Some Keys) (keeps_all o2 h k); few = few; read = (r1, h.read); all = λ none. absurd (none-some Keys (sym none)); fails = tt }

-- all were read and printed
pub finished : {places : Places} {r0 r1 o0 o1 : Option (List ℕ)} {before count refused : ℕ} → PrintsAll places r0 r1 o0 o1 before count count refused → TakesAnswers places r0 r1 o0 o1 before count (record { count = count; refused = refused; error = None })
finished {r1 = r1} {count = count} h =
    let few : length (h.answers ++ []) ≤ count = omega (arith, h.counted, ap length (append-nil h.answers)) in
    record { prints = prints_all None h; few = few; read = (r1, h.read); all = λ _. h; fails = tt }

-- ---- the answers of several rounds

abbrev pub prints_further : {places : Places} {r0 r1 o0 o1 o2 : Option (List ℕ)} {before n later answered refused more_answered more_refused : ℕ} {error : Option SendError} → later ≡ before + n → PrintsAll places r0 r1 o0 o1 before n answered refused
    → Prints places r1 o1 o2 later more_answered more_refused error → Prints places r0 o0 o2 before (answered + more_answered) (refused + more_refused) error
prints_further {places = places} {r0 = r0} {r1 = r1} {o0 = o0} {o1 = o1} {o2 = o2} {before = before} {later = later} same h k =
    let assoc = append_assoc h.answers k.answers k.torn in
    let place : later ≡ before + length h.answers = omega (arith, h.counted, same) in
    record {
      answers = h.answers ++ k.answers;
      torn = k.torn;
      answered_is = omega (arith, h.answered_is, h.counted, k.answered_is, length-append h.answers k.answers);
      refused_is = omega (arith, h.refused_is, k.refused_is ∙ ap (λ (m : ℕ). refusals_in places m k.answers) place, refusals_append places before h.answers k.answers);
      due = subst (AreAnswers places before) (sym assoc) (due_append places before h.answers (k.answers ++ k.torn) h.due (subst (λ (m : ℕ). AreAnswers places m (k.answers ++ k.torn)) place k.due));
      read = (k.read.0, subst (ReadsReplies r0 k.read.0) (sym assoc) (replies_append r0 r1 k.read.0 h.answers (k.answers ++ k.torn) h.read k.read.1));
      part = subst (λ (l : List Reply). WritesInPart o0 o2 (answer_lines before l)) (sym assoc)
          (subst (WritesInPart o0 o2) (sym (lines_append before h.answers (k.answers ++ k.torn)))
          (part_after o0 o1 o2 (answer_lines before h.answers) (answer_lines (before + length h.answers) (k.answers ++ k.torn)) h.printed
          (subst (λ (m : ℕ). WritesInPart o1 o2 (answer_lines m (k.answers ++ k.torn))) place k.part)));
      whole = λ other. (
        (k.whole other).0,
        subst (Appends o0 o2) (sym (lines_append before h.answers k.answers))
            (appends_more o0 o1 o2 (answer_lines before h.answers) (answer_lines (before + length h.answers) k.answers) h.printed
            (subst (λ (m : ℕ). Appends o1 o2 (answer_lines m k.answers)) place (k.whole other).1)),
      );
    }

pub prints_all_further : {places : Places} {r0 r1 r2 o0 o1 o2 : Option (List ℕ)} {before n m later answered refused more_answered more_refused : ℕ} → later ≡ before + n → PrintsAll places r0 r1 o0 o1 before n answered refused
    → PrintsAll places r1 r2 o1 o2 later m more_answered more_refused → PrintsAll places r0 r2 o0 o2 before (n + m) (answered + more_answered) (refused + more_refused)
prints_all_further {places = places} {r0 = r0} {r1 = r1} {r2 = r2} {o0 = o0} {o1 = o1} {o2 = o2} {before = before} {later = later} same h k =
    let place : later ≡ before + length h.answers = omega (arith, h.counted, same) in
    record {
      answers = h.answers ++ k.answers;
      counted = omega (arith, h.counted, k.counted, length-append h.answers k.answers);
      answered_is = omega (arith, h.answered_is, k.answered_is);
      refused_is = omega (arith, h.refused_is, k.refused_is ∙ ap (λ (m : ℕ). refusals_in places m k.answers) place, refusals_append places before h.answers k.answers);
      due = due_append places before h.answers k.answers h.due (subst (λ (m : ℕ). AreAnswers places m k.answers) place k.due);
      read = replies_append r0 r1 r2 h.answers k.answers h.read k.read;
      printed = subst (Appends o0 o2) (sym (lines_append before h.answers k.answers))
          (appends_more o0 o1 o2 (answer_lines before h.answers) (answer_lines (before + length h.answers) k.answers) h.printed
          (subst (λ (m : ℕ). Appends o1 o2 (answer_lines m k.answers)) place k.printed));
    }

-- a later error of another kind leaves what was printed as it is
abbrev pub prints_error : {places : Places} {r0 o0 o1 : Option (List ℕ)} {before answered refused : ℕ} {error : Option SendError} (later : Option SendError) → (error ≡ Some Output → later ≡ Some Output) → Prints places r0 o0 o1 before answered refused error
    → Prints places r0 o0 o1 before answered refused later
prints_error later goes h = record {
  answers = h.answers;
  torn = h.torn;
  answered_is = h.answered_is;
  refused_is = h.refused_is;
  due = h.due;
  read = h.read;
  part = h.part;
  whole = λ other. h.whole (λ is. other (goes is));
}
