-- Rounds of sending, one after another.
use Rattle.std.specs.Prelude.{◌⊎◌, ◌<◌, ◌^◌, Bool, true, false, Result, Ok, Err, IsOk, OnOk, OnErr, IfErr, IfSome}
use Rattle.std.specs.Result.{is_ok}
use Rattle.std.specs.Io.KnownBytes.{Appends}
use Rattle.std.proofs.Common.{◌≡◌, ℕ, ◌+◌, ◌≤◌, Option, Some, None, List, [], ◌++◌, length, length-append, append-nil, sym, ap, subst, refl, inl, inr, ◌∙◌, arith}
use Rattle.std.proofs.lemmas.Option.{none-some}
use Rattle.std.proofs.lemmas.Bool.{true≢false, false≢true}
use Rattle.audit_text.specs.Writing.{WritesInPart}
use Rattle.audit_text.specs.declared.fault.LinesError.{LinesError}
use Rattle.audit_text.specs.declared.line_form.LineForm.{LineForm}
use Rattle.audit_wire_ask.specs.declared.fault.ClientError.{ClientError}
use Rattle.audit_wire_ask.specs.declared.places.Places.{Places}
use Rattle.audit_wire_ask.specs.declared.places.Places.TheVariants as places
use Rattle.audit_wire_ask.specs.declared.send_error.SendError.{SendError}
use Rattle.audit_wire_ask.specs.declared.send_error.SendError.TheVariants.{Input, Client, Output, Keys}
use Rattle.audit_wire_ask.specs.declared.sending.SendEnd.{SendEnd}
use Rattle.audit_wire_ask.specs.declared.taking.Taken.{Taken}
use Rattle.audit_wire_ask.specs.declared.answering.Answers.{Answers}
use Rattle.audit_wire_ask.specs.Sending.{event_frames, PrintsAll, TakesEvents, IsTakingFault, TakesRound, TakesAnswers, LacksAnswer, IsNoLineAnswer, EndsFor, Sends, SendsOn, SendsAll, end_after, first_error, BreaksOnlyIf, IsBeyond}
use Rattle.audit_wire_ask.specs.Failing.{IsLost}
use Rattle.audit_text.specs.declared.fault.LinesError.TheVariants.{InputTooLong}
use Rattle.audit_wire_ask.proofs.Conversations.{appends_none, appends_more, replies_after}
use Rattle.audit_wire_ask.proofs.TakenLines.{event_frames-append, takes_none, takes_more, takes_first, takes_first_more, takes_all_more}
use Rattle.audit_wire_ask.proofs.PrintedAnswers.{refusals_few, part_whole, part_after, prints_none, prints_all, prints_further, prints_all_further, prints_error}

-- ---- what a round wrote

pub first_none : (sent : Result (Unit {0}) ClientError) (answered : Option SendError) (taken : Option LinesError) → first_error sent answered taken ≡ None → IsOk sent × (answered ≡ None) × (taken ≡ None)
first_none sent (Some error) taken is = absurd (none-some error (sym is))
first_none (Err error) None taken is = absurd (none-some (Client error) (sym is))
first_none (Ok done) None None is = (refl, refl, refl)
first_none (Ok done) None (Some error) is = absurd (none-some (Input error) (sym is))

output_first : (sent : Result (Unit {0}) ClientError) (answered : Option SendError) (taken : Option LinesError) → answered ≡ Some Output → first_error sent answered taken ≡ Some Output
output_first (Ok done) answered None is = ap (λ (a : Option SendError). first_error (Ok done) a None) is
output_first (Ok done) answered (Some error) is = ap (λ (a : Option SendError). first_error (Ok done) a (Some error)) is
output_first (Err error) answered taken is = ap (λ (a : Option SendError). first_error (Err error) a taken) is

-- an error of the output is that of the answers
pub first_breaks : (Cause : Type 0) (sent : Result (Unit {0}) ClientError) (answered : Option SendError) (taken : Option LinesError) → BreaksOnlyIf Cause answered → BreaksOnlyIf Cause (first_error sent answered taken)
first_breaks Cause sent (Some error) taken h = h
first_breaks Cause (Err error) None taken h = tt
first_breaks Cause (Ok done) None None h = tt
first_breaks Cause (Ok done) None (Some error) h = tt

wrote : (w0 w1 : Option (List ℕ)) (frames : List ℕ) (sent : Result (Unit {0}) ClientError) → OnOk sent (Appends w0 w1 frames) → OnErr sent (WritesInPart w0 w1 frames) → WritesInPart w0 w1 frames
wrote w0 w1 frames (Ok done) h k = part_whole w0 w1 frames h
wrote w0 w1 frames (Err error) h k = k

wrote_all : (w0 w1 : Option (List ℕ)) (frames : List ℕ) (sent : Result (Unit {0}) ClientError) → OnOk sent (Appends w0 w1 frames) → IsOk sent → Appends w0 w1 frames
wrote_all w0 w1 frames (Ok done) h is = h
wrote_all w0 w1 frames (Err error) h is = absurd (false≢true is)

-- no line is sent yet
pub sends_none : (places : Places) (form : LineForm) (before : ℕ) (input written read known : Option (List ℕ)) → SendsOn places form before input input written written read read known known (record { sent = 0; answered = 0; refused = 0; error = None })
sends_none places form before input written read known = record {
  events = [];
  sent_is = refl;
  answered = omega arith;
  no_error = refl;
  taken = takes_none form input;
  sent = appends_none written;
  prints = prints_none places read known before;
}

-- ---- a round after others

-- no more is answered, and no more refused, than is read
pub few_answers : {places : Places} {r0 r1 o0 o1 : Option (List ℕ)} {before count : ℕ} {answers : Answers} → TakesAnswers places r0 r1 o0 o1 before count answers → (answers.count ≤ count) × (answers.refused ≤ answers.count)
few_answers {places = places} {before = before} {count = count} {answers = answers} h =
    let p = h.prints in
    let answered : answers.count ≤ count = omega (arith, p.answered_is, length-append p.answers p.torn, h.few) in
    let refused : answers.refused ≤ answers.count = omega (arith, p.answered_is, p.refused_is, refusals_few places before p.answers) in
    (answered, refused)

-- the answers that were read are those to all lines that were sent, or those that were due before the last lines
pub read_within : (count due taken window : ℕ) (more written : Bool) → ((count ≡ due + taken) ⊎ ((count ≡ due) × (more ≡ true) × (written ≡ true) × (taken < window))) → count ≤ due + taken
read_within count due taken window more written (inl h) = omega (arith, h)
read_within count due taken window more written (inr h) = omega (arith, h.0)

-- fewer lines than the window are then unanswered
pub read_near : (count due taken window : ℕ) (more written : Bool) → ((count ≡ due + taken) ⊎ ((count ≡ due) × (more ≡ true) × (written ≡ true) × (taken < window))) → 0 < window → due + taken < count + window
read_near count due taken window more written (inl h) some = omega (arith, h)
read_near count due taken window more written (inr h) some = omega (arith, h.0, h.3)

pub read_all : (count due taken window : ℕ) (more written : Bool) → ((count ≡ due + taken) ⊎ ((count ≡ due) × (more ≡ true) × (written ≡ true) × (taken < window))) → more ≡ false → count ≡ due + taken
read_all count due taken window more written (inl h) over = h
read_all count due taken window more written (inr h) over = absurd (true≢false (sym h.1 ∙ over))

-- the same if the requests weren't written
pub read_unwritten : (count due taken window : ℕ) (more written : Bool) → ((count ≡ due + taken) ⊎ ((count ≡ due) × (more ≡ true) × (written ≡ true) × (taken < window))) → written ≡ false → count ≡ due + taken
read_unwritten count due taken window more written (inl h) un = h
read_unwritten count due taken window more written (inr h) un = absurd (true≢false (sym h.2 ∙ un))

pub round_sends : {places : Places} {before : ℕ} {form : LineForm} {i0 i1 i2 w0 w1 w2 r0 r1 r2 o0 o1 o2 : Option (List ℕ)} {end : SendEnd} {frames : List ℕ} {taken : Taken} {answers : Answers} {count : ℕ} (sent : Result (Unit {0}) ClientError) → SendsOn places form before i0 i1 w0 w1 r0 r1 o0 o1 end
    → TakesRound places form i1 i2 (before + end.sent) frames taken → OnOk sent (Appends w1 w2 frames) → OnErr sent (WritesInPart w1 w2 frames) → TakesAnswers places r1 r2 o1 o2 (before + end.answered) count answers → end.answered + count ≤ end.sent + taken.count
    → Sends places form before i0 w0 w2 r0 o0 o2 (end_after end taken answers (first_error sent answers.error taken.error))
round_sends {places = places} {before = before} {form = form} {i0 = i0} {i1 = i1} {w0 = w0} {w1 = w1} {w2 = w2} {end = end} {frames = frames} {taken = taken} {answers = answers} {count = count} sent on takes whole part answered within =
    let place : before + end.sent ≡ before + length on.events = omega (arith, on.sent_is) in
    let p = answered.prints in
    let few : length ((on.prints.answers ++ p.answers) ++ p.torn) ≤ length (on.events ++ takes.events) =
    omega (arith, on.prints.counted, answered.few, within, on.sent_is, takes.counted, length-append on.prints.answers p.answers, length-append p.answers p.torn, length-append (on.prints.answers ++ p.answers) p.torn, length-append on.events takes.events) in
    record {
      events = on.events ++ takes.events;
      sent_is = omega (arith, on.sent_is, takes.counted, length-append on.events takes.events);
      taken = takes_first_more form i0 i1 on.events takes.events on.taken takes.first;
      sent = subst (WritesInPart w0 w2) (sym (event_frames-append places before on.events takes.events))
          (part_after w0 w1 w2 (event_frames places before on.events) (event_frames places (before + length on.events) takes.events) on.sent
          (subst (λ (n : ℕ). WritesInPart w1 w2 (event_frames places n takes.events)) place (subst (WritesInPart w1 w2) takes.framed (wrote w1 w2 frames sent whole part))));
      prints = prints_further refl on.prints (prints_error (first_error sent answers.error taken.error) (output_first sent answers.error taken.error) p);
      few = few;
    }

-- if nothing failed, the requests of all these events are written
all_sent : {places : Places} {before : ℕ} {form : LineForm} {i0 i1 i2 w0 w1 r0 r1 o0 o1 : Option (List ℕ)} {end : SendEnd} {frames : List ℕ} {taken : Taken} (w2 : Option (List ℕ)) (sent : Result (Unit {0}) ClientError) (answered : Option SendError) (on : SendsOn places form before i0 i1 w0 w1 r0 r1 o0 o1 end)
    (takes : TakesRound places form i1 i2 (before + end.sent) frames taken) → OnOk sent (Appends w1 w2 frames) → first_error sent answered taken.error ≡ None → Appends w0 w2 (event_frames places before (on.events ++ takes.events))
all_sent {places = places} {before = before} {w0 = w0} {w1 = w1} {end = end} {frames = frames} {taken = taken} w2 sent answered on takes whole none =
    let place : before + end.sent ≡ before + length on.events = omega (arith, on.sent_is) in
    let more = subst (Appends w1 w2) takes.framed (wrote_all w1 w2 frames sent whole (first_none sent answered taken.error none).0) in
    subst (Appends w0 w2) (sym (event_frames-append places before on.events takes.events))
    (appends_more w0 w1 w2 (event_frames places before on.events) (event_frames places (before + length on.events) takes.events) on.sent (subst (λ (n : ℕ). Appends w1 w2 (event_frames places n takes.events)) place more))

-- and these answers are printed
all_printed : {places : Places} {before : ℕ} {form : LineForm} {i0 i1 w0 w1 r0 r1 r2 o0 o1 o2 : Option (List ℕ)} {end : SendEnd} {count : ℕ} (answers : Answers) → SendsOn places form before i0 i1 w0 w1 r0 r1 o0 o1 end → PrintsAll places r1 r2 o1 o2 (before + end.answered) count answers.count answers.refused → (all : ℕ)
    → end.answered + count ≡ all → PrintsAll places r0 r2 o0 o2 before all (end.answered + answers.count) (end.refused + answers.refused)
all_printed {places = places} {before = before} {r0 = r0} {r2 = r2} {o0 = o0} {o2 = o2} {end = end} answers on printed all is =
    subst (λ (n : ℕ). PrintsAll places r0 r2 o0 o2 before n (end.answered + answers.count) (end.refused + answers.refused)) is (prints_all_further refl on.prints printed)

pub round_on : {places : Places} {before : ℕ} {form : LineForm} {i0 i1 i2 w0 w1 w2 r0 r1 r2 o0 o1 o2 : Option (List ℕ)} {end : SendEnd} {frames : List ℕ} {taken : Taken} {answers : Answers} {count : ℕ} (sent : Result (Unit {0}) ClientError) → SendsOn places form before i0 i1 w0 w1 r0 r1 o0 o1 end
    → TakesRound places form i1 i2 (before + end.sent) frames taken → OnOk sent (Appends w1 w2 frames) → TakesAnswers places r1 r2 o1 o2 (before + end.answered) count answers → end.answered + count ≤ end.sent + taken.count → taken.more ≡ true → first_error sent answers.error taken.error ≡ None
    → SendsOn places form before i0 i2 w0 w2 r0 r2 o0 o2 (end_after end taken answers (first_error sent answers.error taken.error))
round_on {form = form} {i0 = i0} {i1 = i1} {i2 = i2} {w2 = w2} {end = end} {taken = taken} {answers = answers} {count = count} sent on takes whole answered within more none =
    let printed = answered.all (first_none sent answers.error taken.error none).1 in
    let all : end.answered + count ≡ end.answered + answers.count = omega (arith, printed.answered_is) in
    record {
      events = on.events ++ takes.events;
      sent_is = omega (arith, on.sent_is, takes.counted, length-append on.events takes.events);
      answered = omega (arith, within, printed.answered_is);
      no_error = none;
      taken = takes_more form i0 i1 i2 on.events takes.events on.taken (takes.on more);
      sent = all_sent w2 sent answers.error on takes whole none;
      prints = all_printed answers on printed (end.answered + answers.count) all;
    }

pub round_all : {places : Places} {before : ℕ} {form : LineForm} {i0 i1 i2 w0 w1 w2 r0 r1 r2 o0 o1 o2 : Option (List ℕ)} {end : SendEnd} {frames : List ℕ} {taken : Taken} {answers : Answers} {count : ℕ} (sent : Result (Unit {0}) ClientError) → SendsOn places form before i0 i1 w0 w1 r0 r1 o0 o1 end
    → TakesRound places form i1 i2 (before + end.sent) frames taken → OnOk sent (Appends w1 w2 frames) → TakesAnswers places r1 r2 o1 o2 (before + end.answered) count answers → end.answered + count ≡ end.sent + taken.count → taken.more ≡ false → first_error sent answers.error taken.error ≡ None
    → SendsAll places form before i0 w0 w2 r0 r2 o0 o2 (end_after end taken answers (first_error sent answers.error taken.error))
round_all {form = form} {i0 = i0} {i1 = i1} {w2 = w2} {end = end} {taken = taken} {answers = answers} {count = count} sent on takes whole answered whole_count over none =
    let right = first_none sent answers.error taken.error none in
    let all : end.answered + count ≡ length (on.events ++ takes.events) = omega (arith, whole_count, on.sent_is, takes.counted, length-append on.events takes.events) in
    record {
      events = on.events ++ takes.events;
      sent_is = omega (arith, on.sent_is, takes.counted, length-append on.events takes.events);
      taken = takes_all_more form i0 i1 on.events takes.events on.taken (takes.all over right.2);
      sent = all_sent w2 sent answers.error on takes whole none;
      prints = all_printed answers on (answered.all right.1) (length (on.events ++ takes.events)) all;
    }

-- why it ended after this round
pub round_ends : {places : Places} {before : ℕ} (failed : Type 0) {form : LineForm} {i0 i1 i2 w0 w1 r0 r1 o0 o1 : Option (List ℕ)} {end : SendEnd} {frames : List ℕ} {taken : Taken} (r2 : Option (List ℕ)) (count : ℕ) (answers : Answers) (sent : Result (Unit {0}) ClientError) (a : Option SendError) (t : Option LinesError)
    → (on : SendsOn places form before i0 i1 w0 w1 r0 r1 o0 o1 end) (takes : TakesRound places form i1 i2 (before + end.sent) frames taken) → IfErr sent IsLost → OnErr sent failed → IfSome a (LacksAnswer places r1 r2 (before + end.answered) answers.count)
    → IfSome t (λ cause. (taken.more ≡ false) × (rest : Option (List ℕ)) × TakesEvents form i1 rest takes.events × IsTakingFault places form rest (before + end.sent + taken.count + 1) cause)
    → (a ≡ None → answers.count ≡ count) → (IsOk sent → taken.more ≡ false → end.answered + count ≡ end.sent + taken.count) → ((is_ok sent ≡ false) → end.answered + count ≡ end.sent + taken.count)
    → EndsFor places form before i0 r0 r2 failed (end.sent + taken.count) (end.answered + answers.count) (first_error sent a t)
round_ends failed r2 count answers sent (Some (Input error)) t on takes lost fails lacks stops read over broken = absurd lacks
round_ends {places = places} {before = before} failed {r0 = r0} {r1 = r1} {end = end} r2 count answers sent (Some (Client error)) t on takes lost fails lacks stops read over broken =
    let place : before + end.answered + answers.count + 1 ≡ before + (end.answered + answers.count) + 1 = omega arith in
    inr (
      lacks.0,
      on.prints.answers ++ lacks.1,
      omega (arith, on.prints.counted, lacks.2, length-append on.prints.answers lacks.1),
      replies_after r0 r1 lacks.0 on.prints.answers lacks.1 on.prints.read lacks.3,
      subst (λ (n : ℕ). IsNoLineAnswer places lacks.0 r2 n error) place lacks.4,
    )
round_ends failed r2 count answers sent (Some Output) t on takes lost fails lacks stops read over broken = tt
round_ends failed r2 count answers sent (Some Keys) t on takes lost fails lacks stops read over broken = tt
round_ends failed r2 count answers (Err error) None t on takes lost fails lacks stops read over broken = inl (lost, omega (arith, read refl, broken refl), fails)
round_ends failed r2 count answers (Ok done) None None on takes lost fails lacks stops read over broken = tt
round_ends {places = places} {before = before} failed {form = form} {i0 = i0} {i1 = i1} {end = end} {taken = taken} r2 count answers (Ok done) None (Some cause) on takes lost fails lacks stops read over broken = (
  inr (omega (arith, read refl, over refl stops.0)),
  on.events ++ takes.events,
  stops.1,
  omega (arith, on.sent_is, takes.counted, length-append on.events takes.events),
  takes_more form i0 i1 stops.1 on.events takes.events on.taken stops.2,
  (let number : before + end.sent + taken.count + 1 ≡ before + (end.sent + taken.count) + 1 = omega arith in subst (λ (n : ℕ). IsTakingFault places form stops.1 n cause) number stops.3),
)

-- where nothing was written, no write has failed
pub ends_unwritten : (places : Places) (failed : Type 0) (form : LineForm) (before : ℕ) (i r r' : Option (List ℕ)) (sent answered : ℕ) (error : Option SendError) → EndsFor places form before i r r' ⊥ sent answered error → EndsFor places form before i r r' failed sent answered error
ends_unwritten places failed form before i r r' sent answered None ends = ends
ends_unwritten places failed form before i r r' sent answered (Some (Input cause)) ends = ends
ends_unwritten places failed form before i r r' sent answered (Some (Client error)) ends = elim ends [ inl lost ↦ absurd lost.2 | inr lacks ↦ inr lacks ]
ends_unwritten places failed form before i r r' sent answered (Some Output) ends = ends
ends_unwritten places failed form before i r r' sent answered (Some Keys) ends = ends

far_beyond : (places : Places) (number : ℕ) → 2 ^ 64 ≤ number → IsBeyond places number
far_beyond places.Any number far = far
far_beyond (places.From first) number far = omega arith

-- once 2 ^ 64 - 1 lines were sent, the input is too long
pub ends_at_limit : {places : Places} {before : ℕ} (failed : Type 0) {form : LineForm} {i0 i1 w0 w1 r0 r1 o0 o1 : Option (List ℕ)} {end : SendEnd} → SendsOn places form before i0 i1 w0 w1 r0 r1 o0 o1 end → 2 ^ 64 ≤ before + end.sent + 1
    → EndsFor places form before i0 r0 r1 failed end.sent end.answered (Some (Input InputTooLong))
ends_at_limit {places = places} {before = before} failed {i1 = i1} {end = end} on far = (inl refl, on.events, i1, sym on.sent_is, on.taken, far_beyond places (before + end.sent + 1) far)

-- no other round is begun
pub on_stopped : {places : Places} {before : ℕ} {form : LineForm} {i0 i1 w0 w1 r0 r1 o0 o1 : Option (List ℕ)} {end : SendEnd} (error : SendError) → SendsOn places form before i0 i1 w0 w1 r0 r1 o0 o1 end → Sends places form before i0 w0 w1 r0 o0 o1 (record { sent = end.sent; answered = end.answered; refused = end.refused; error = Some error })
on_stopped {places = places} {before = before} {form = form} {i0 = i0} {i1 = i1} {w0 = w0} {w1 = w1} error on =
    let few : length (on.prints.answers ++ []) ≤ length on.events = omega (arith, on.prints.counted, on.answered, on.sent_is, ap length (append-nil on.prints.answers)) in
    record {
      events = on.events;
      sent_is = on.sent_is;
      taken = takes_first form i0 i1 on.events on.taken;
      sent = part_whole w0 w1 (event_frames places before on.events) on.sent;
      prints = prints_all (Some error) on.prints;
      few = few;
    }
