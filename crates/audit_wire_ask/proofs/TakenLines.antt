-- Lines that are taken one after another.
use Rattle.std.specs.Prelude.{◌<◌, map, IfSome, true, false, Result, Ok, Err}
use Rattle.std.specs.List.{flat_map}
use Rattle.std.specs.Io.KnownBytes.{IsAtEnd}
use Rattle.std.proofs.Common.{◌≡◌, ◌∙◌, ℕ, suc, ◌+◌, ◌≤◌, Option, Some, None, List, [], ◌∷◌, ◌++◌, length, length-append, append-nil, append_assoc, sym, ap, refl, inl, inr, arith}
use Rattle.std.proofs.lemmas.Grind.{flat_map-append}
use Rattle.std.proofs.lemmas.List.{map-append}
use Rattle.std.proofs.lemmas.Bool.{true≢false, false≢true}
use Rattle.std.proofs.lemmas.Option.{none-some}
use Rattle.audit_chain.specs.EventData.{EventData}
use Rattle.audit_text.specs.Lines.{lines_of}
use Rattle.audit_text.specs.declared.fault.LineError.{LineError}
use Rattle.audit_text.specs.declared.fault.LineError.TheVariants.{PayloadTooLong}
use Rattle.audit_text.specs.declared.fault.LinesError.{LinesError}
use Rattle.audit_text.specs.declared.line_form.LineForm.{LineForm}
use Rattle.audit_text.specs.LineEvents.{event_in_line, AreEventsOf}
use Rattle.audit_serve_sockets.specs.Input.{ReadsLine}
use Rattle.audit_serve_sockets.specs.declared.limits.TheConstants.{MAX_DIGITS}
use Rattle.audit_wire.specs.declared.request.Request.{Request}
use Rattle.audit_wire_ask.specs.declared.places.Places.{Places}
use Rattle.audit_wire.specs.Stream.{request_frame}
use Rattle.audit_wire_ask.specs.Sending.{event_to_send, event_request, event_requests, event_frames, TakesEvents, TakesFirst, TakesAll, TakesNext, TakesRound, IsBadFirst, IsTakingFault}

-- ---- requests

event_requests-append : (places : Places) (before : ℕ) (first later : List EventData) → event_requests places before (first ++ later) ≡ event_requests places before first ++ event_requests places (before + length first) later
event_requests-append places before [] later = let e : before ≡ before + 0 = omega arith in ap (λ (n : ℕ). event_requests places n later) e
event_requests-append places before (event ∷ events) later =
    let e : suc before + length events ≡ before + length (event ∷ events) = omega arith in
    ap (λ (rest : List Request). event_request places before event ∷ rest)
    (event_requests-append places (suc before) events later ∙ ap (λ (n : ℕ). event_requests places (suc before) events ++ event_requests places n later) e)

pub event_frames-append : (places : Places) (before : ℕ) (first later : List EventData) → event_frames places before (first ++ later) ≡ event_frames places before first ++ event_frames places (before + length first) later
event_frames-append places before first later =
    ap (flat_map request_frame) (event_requests-append places before first later)
    ∙ flat_map-append request_frame (event_requests places before first) (event_requests places (before + length first) later)

-- ---- events

pub takes_none : (form : LineForm) (known : Option (List ℕ)) → TakesEvents form known known []
takes_none form None = tt
takes_none form (Some input) = ([], refl, refl)

joined_lines : (form : LineForm) (first second : List (List ℕ)) (events later : List EventData) → AreEventsOf form first events → AreEventsOf form second later → AreEventsOf form (first ++ second) (events ++ later)
joined_lines form first second events later h k =
    map-append (event_in_line form) first second ∙ ap (λ (l : List (Result EventData LineError)). l ++ map (event_in_line form) second) h ∙ ap (λ (l : List (Result EventData LineError)). map (λ event. Ok event) events ++ l) k
    ∙ sym (map-append (λ (event : EventData). Ok event) events later)

pub takes_more : (form : LineForm) (old mid new : Option (List ℕ)) (events later : List EventData) → TakesEvents form old mid events → TakesEvents form mid new later → TakesEvents form old new (events ++ later)
takes_more form None mid new events later h k = tt
takes_more form (Some x) None new events later h k = absurd h
takes_more form (Some x) (Some y) None events later h k = absurd k
takes_more form (Some x) (Some y) (Some z) events later h k = (
  h.0 ++ k.0,
  h.1 ∙ ap (λ (l : List (List ℕ)). h.0 ++ l) k.1 ∙ sym (append_assoc h.0 k.0 (lines_of z)),
  joined_lines form h.0 k.0 events later h.2 k.2,
)

pub takes_first : (form : LineForm) (old new : Option (List ℕ)) (events : List EventData) → TakesEvents form old new events → TakesFirst form old events
takes_first form None new events h = tt
takes_first form (Some x) None events h = absurd h
takes_first form (Some x) (Some y) events h = (h.0, lines_of y, h.1, h.2)

pub takes_first_more : (form : LineForm) (old mid : Option (List ℕ)) (events later : List EventData) → TakesEvents form old mid events → TakesFirst form mid later → TakesFirst form old (events ++ later)
takes_first_more form None mid events later h k = tt
takes_first_more form (Some x) None events later h k = absurd h
takes_first_more form (Some x) (Some y) events later h k = (
  h.0 ++ k.0,
  k.1,
  h.1 ∙ ap (λ (l : List (List ℕ)). h.0 ++ l) k.2 ∙ sym (append_assoc h.0 k.0 k.1),
  joined_lines form h.0 k.0 events later h.2 k.3,
)

pub takes_all_more : (form : LineForm) (old mid : Option (List ℕ)) (events later : List EventData) → TakesEvents form old mid events → TakesAll form mid later → TakesAll form old (events ++ later)
takes_all_more form None mid events later h k = tt
takes_all_more form (Some x) None events later h k = absurd h
takes_all_more form (Some x) (Some y) events later h k = ap (map (event_in_line form)) h.1 ∙ joined_lines form h.0 (lines_of y) events later h.2 k

no_lines : (input : List ℕ) → input ≡ [] → lines_of input ≡ []
unfolding lines_of
no_lines input none = ap lines_of none

pub takes_to_end : (form : LineForm) (old new : Option (List ℕ)) (events : List EventData) → TakesEvents form old new events → IsAtEnd new → TakesAll form old events
takes_to_end form None new events h end = tt
takes_to_end form (Some x) None events h end = absurd h
takes_to_end form (Some x) (Some y) events h end =
    ap (map (event_in_line form)) (h.1 ∙ ap (λ (l : List (List ℕ)). h.0 ++ l) (no_lines y end) ∙ append-nil h.0) ∙ h.2

-- ---- one line

pub line_taken : (form : LineForm) (old new : Option (List ℕ)) (line : List ℕ) (event : EventData) → ReadsLine old new line → length line ≤ MAX_DIGITS → event_in_line form line ≡ Ok event → TakesEvents form old new (event ∷ [])
line_taken form None new line event h short is = tt
line_taken form (Some x) None line event h short is = absurd h
line_taken form (Some x) (Some y) line event (inl h) short is = (line ∷ [], h, ap (λ (r : Result EventData LineError). r ∷ []) is)
line_taken form (Some x) (Some y) line event (inr h) short is = absurd (omega (arith, h.long, short))

pub bad_line : (places : Places) (form : LineForm) (old new : Option (List ℕ)) (line : List ℕ) (cause : LineError) → ReadsLine old new line → length line ≤ MAX_DIGITS → event_to_send places form line ≡ Err cause → IfSome old (IsBadFirst places form cause)
bad_line places form None new line cause h short is = tt
bad_line places form (Some x) None line cause h short is = absurd h
bad_line places form (Some x) (Some y) line cause (inl h) short is = (line, lines_of y, h, inl is)
bad_line places form (Some x) (Some y) line cause (inr h) short is = absurd (omega (arith, h.long, short))

pub long_line : (places : Places) (form : LineForm) (old new : Option (List ℕ)) (line : List ℕ) → ReadsLine old new line → MAX_DIGITS < length line → IfSome old (IsBadFirst places form PayloadTooLong)
long_line places form None new line h long = tt
long_line places form (Some x) None line h long = absurd h
long_line places form (Some x) (Some y) line (inl h) long = (line, lines_of y, h, inr (long, refl))
long_line places form (Some x) (Some y) line (inr h) long = (line ++ h.rest, h.later, h.first, inr (omega (arith, long, length-append line h.rest), refl))

-- ---- the lines of a round

-- as many lines were taken
pub record IsTaken (places : Places) (form : LineForm) (old new : Option (List ℕ)) (before count : ℕ) (frames : List ℕ) : Type 0 where
  pub events : List EventData
  pub counted : count ≡ length events
  pub taken : TakesEvents form old new events
  pub framed : frames ≡ event_frames places before events

pub taken_none : (places : Places) (form : LineForm) (known : Option (List ℕ)) (before : ℕ) (frames : List ℕ) → frames ≡ [] → IsTaken places form known known before 0 frames
taken_none places form known before frames none = record { events = []; counted = refl; taken = takes_none form known; framed = none }

pub taken_more : {places : Places} {form : LineForm} {old mid new : Option (List ℕ)} {before count : ℕ} {frames next : List ℕ} → IsTaken places form old mid before count frames → TakesNext places form mid new (before + count) frames next true → IsTaken places form old new before (count + 1) next
taken_more {places = places} {form = form} {old = old} {mid = mid} {new = new} {before = before} {count = count} {frames = frames} h k =
    let event = k.0 in
    let last = request_frame (event_request places (before + count) event) in
    record {
      events = h.events ++ event ∷ [];
      counted = omega (arith, h.counted, length-append h.events (event ∷ []));
      taken = takes_more form old mid new h.events (event ∷ []) h.taken k.1;
      framed =
          k.2 ∙ ap (λ (l : List ℕ). l ++ last) h.framed
          ∙ ap (λ (n : ℕ). event_frames places before h.events ++ request_frame (event_request places (before + n) event)) h.counted
          ∙ ap (λ (l : List ℕ). event_frames places before h.events ++ l) (sym (append-nil (request_frame (event_request places (before + length h.events) event))))
          ∙ sym (event_frames-append places before h.events (event ∷ []));
    }

pub round_more : {places : Places} {form : LineForm} {old new : Option (List ℕ)} {before count : ℕ} {frames : List ℕ} → IsTaken places form old new before count frames → TakesRound places form old new before frames (record { count = count; more = true; error = None })
round_more {form = form} {old = old} {new = new} h = record {
  events = h.events;
  counted = h.counted;
  first = takes_first form old new h.events h.taken;
  on = λ _. h.taken;
  all = λ not_more. absurd (true≢false not_more);
  framed = h.framed;
  stops = tt;
}

pub round_end : {places : Places} {form : LineForm} {old mid new : Option (List ℕ)} {before count : ℕ} {frames next : List ℕ} → IsTaken places form old mid before count frames → TakesNext places form mid new (before + count) frames next false
    → TakesRound places form old new before next (record { count = count; more = false; error = None })
round_end {form = form} {old = old} {mid = mid} h k = record {
  events = h.events;
  counted = h.counted;
  first = takes_first form old mid h.events h.taken;
  on = λ more. absurd (false≢true more);
  all = λ _ _. takes_to_end form old mid h.events h.taken k.0;
  framed = k.1 ∙ h.framed;
  stops = tt;
}

pub round_fault : {places : Places} {form : LineForm} {old mid : Option (List ℕ)} (new : Option (List ℕ)) {before count : ℕ} {frames next : List ℕ} (error : LinesError) → IsTaken places form old mid before count frames → next ≡ frames → IsTakingFault places form mid (before + count + 1) error
    → TakesRound places form old new before next (record { count = count; more = false; error = Some error })
round_fault {form = form} {old = old} {mid = mid} new error h same fault = record {
  events = h.events;
  counted = h.counted;
  first = takes_first form old mid h.events h.taken;
  on = λ more. absurd (false≢true more);
  all = λ _ none. absurd (none-some error (sym none));
  framed = same ∙ h.framed;
  stops = (refl, mid, h.taken, fault);
}
