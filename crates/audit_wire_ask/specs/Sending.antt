-- Events that are sent from the lines of an input, and the lines that are printed for their answers.
use Rattle.std.specs.Prelude.{◌≡◌, ◌≢◌, ◌⊎◌, ℕ, suc, ◌+◌, ◌%◌, ◌^◌, ◌<◌, ◌≤◌, Bool, true, false, Option, Some, None}
use Rattle.std.specs.Prelude.{nat_lt, Result, Ok, Err, IfSome, List, [], ◌∷◌, ◌++◌, length, codes, if◌then◌else◌}
use Rattle.std.specs.List.{flat_map}
use Rattle.std.specs.Fmt.{decimal}
use Rattle.std.specs.Io.KnownBytes.{Appends, Keeps, IsAtEnd}
use Rattle.audit_chain.specs.EventData.{EventData}
use Rattle.audit_text.specs.AckLine.{ack_line}
use Rattle.audit_text.specs.Lines.{lines_of}
use Rattle.audit_text.specs.Writing.{WritesInPart}
use Rattle.audit_text.specs.declared.fault.LineError.{LineError}
use Rattle.audit_text.specs.declared.fault.LineError.TheVariants.{PayloadTooLong}
use Rattle.audit_text.specs.declared.fault.LinesError.{LinesError}
use Rattle.audit_text.specs.declared.fault.LinesError.TheVariants as lines
use Rattle.audit_text.specs.declared.line_form.LineForm.{LineForm}
use Rattle.audit_text.specs.LineEvents.{event_in_line, AreEventsOf}
use Rattle.audit_wire.specs.declared.limits.TheConstants.{MAX_PLACED_PAYLOAD}
use Rattle.audit_wire.specs.declared.refusal.Refusal.{Refusal}
use Rattle.audit_wire.specs.declared.refusal.Refusal.TheVariants as refusal
use Rattle.audit_wire.specs.declared.request.Request.{Request}
use Rattle.audit_wire.specs.declared.request.Request.TheVariants as request
use Rattle.audit_wire.specs.declared.reply.Reply.{Reply}
use Rattle.audit_wire.specs.declared.reply.Reply.TheVariants as reply
use Rattle.audit_wire.specs.Reply.{refusal_code}
use Rattle.audit_wire.specs.Stream.{request_frame}
use Rattle.audit_serve_sockets.specs.declared.limits.TheConstants.{MAX_DIGITS}
use Rattle.audit_wire_ask.specs.declared.fault.ClientError.{ClientError}
use Rattle.audit_wire_ask.specs.declared.send_error.SendError.{SendError}
use Rattle.audit_wire_ask.specs.declared.send_error.SendError.TheVariants.{Input, Client, Output, Keys}
use Rattle.audit_wire_ask.specs.declared.places.Places.{Places}
use Rattle.audit_wire_ask.specs.declared.places.Places.TheVariants as places
use Rattle.audit_wire_ask.specs.declared.sending.SendEnd.{SendEnd}
use Rattle.audit_wire_ask.specs.declared.stop_at.StopAt.{StopAt}
use Rattle.audit_wire_ask.specs.declared.stop_at.StopAt.TheVariants as stop
use Rattle.audit_wire_ask.specs.declared.taking.Taken.{Taken}
use Rattle.audit_wire_ask.specs.declared.answering.Answers.{Answers}
use Rattle.audit_wire_ask.specs.declared.fault.ClientError.TheVariants as client
use Rattle.audit_wire_ask.specs.Asking.{not_due}
use Rattle.audit_wire_ask.specs.Conversation.{ReadsReply, ReadsReplies}
use Rattle.audit_wire_ask.specs.Failing.{IsLost, FailsToRead}
use Rattle.audit_wire_ask.specs.PlaceLine.{place_line}

-- ---- requests

-- the tag of the request for the event of a line: the low 32 bits of the line's number
abbrev pub line_tag : ℕ → ℕ
line_tag line = line % 2 ^ 32

-- events are sent with their places
abbrev pub are_placed : Places → Bool
are_placed places.Any = false
are_placed (places.From first) = true

-- the request for the event of the line after the first `before`
abbrev pub event_request : Places → ℕ → EventData → Request
event_request places.Any before event = request.Append (line_tag (suc before)) event.kind event.payload
event_request (places.From first) before event =
    request.PlacedAppend (line_tag (suc before)) event.kind (first + before) event.payload

-- the requests for the events of the lines after the first `before`, in order
abbrev pub event_requests : Places → ℕ → List EventData → List Request
event_requests places before [] = []
event_requests places before (event ∷ events) =
    event_request places before event ∷ event_requests places (suc before) events

-- the bytes of their frames
abbrev pub event_frames : Places → ℕ → List EventData → List ℕ
event_frames places before events = flat_map request_frame (event_requests places before events)

-- the event of a line, if it has one that can be sent: a placed one has a shorter payload
abbrev pub placeable : Result EventData LineError → Result EventData LineError
placeable (Ok event) = if nat_lt MAX_PLACED_PAYLOAD (length event.payload) then Err PayloadTooLong else Ok event
placeable (Err cause) = Err cause

abbrev pub event_to_send : Places → LineForm → List ℕ → Result EventData LineError
event_to_send places.Any form line = event_in_line form line
event_to_send (places.From first) form line = placeable (event_in_line form line)

-- the line of this number has a number of 64 bits, and another such follows its place; or not
abbrev pub HasPlace : Places → ℕ → Type 0
HasPlace places.Any number = number < 2 ^ 64
HasPlace (places.From first) number = first + number < 2 ^ 64

abbrev pub IsBeyond : Places → ℕ → Type 0
IsBeyond places.Any number = 2 ^ 64 ≤ number
IsBeyond (places.From first) number = 2 ^ 64 ≤ first + number

-- ---- answers

-- the name of a refusal
abbrev pub refusal_word : Refusal → List ℕ
refusal_word refusal.DamagedLog = codes "DamagedLog"
refusal_word refusal.Full = codes "Full"
refusal_word refusal.NoSuchVersion = codes "NoSuchVersion"
refusal_word refusal.Worn = codes "Worn"
refusal_word refusal.Device = codes "Device"
refusal_word refusal.Closed = codes "Closed"
refusal_word refusal.NotAllowed = codes "NotAllowed"
refusal_word refusal.NotCounted = codes "NotCounted"
refusal_word refusal.Malformed = codes "Malformed"

-- the number of the line, and the number and name of the refusal
unfoldable pub refusal_line : ℕ → Refusal → List ℕ
refusal_line line code =
    codes "refused " ++ decimal line ++ codes " " ++ decimal (refusal_code code) ++ codes " " ++ refusal_word code
    ++ codes "\n"

-- the line that is printed for an answer to the event of a line
abbrev pub answer_line : ℕ → Reply → List ℕ
answer_line line (reply.Acknowledgement tag index count root) = ack_line index count root
answer_line line (reply.Refused tag code) = refusal_line line code
answer_line line (reply.Placed tag index count root key) = ack_line index count root
answer_line line (reply.Place tag number count) = place_line number count
answer_line line _ = []

-- so few events of a kind don't have one at the place of this line
abbrev pub are_before : Places → ℕ → ℕ → Bool
are_before places.Any line number = true
are_before (places.From first) line number = nat_lt number (first + line)

-- By this answer to a line its event isn't in the log: it is refused, or it lacks events before it. One whose place is
-- below the number of events of its kind is in the log already, if nobody else sends any.
abbrev pub is_refusal : Places → ℕ → Reply → Bool
is_refusal places line (reply.Refused tag code) = true
is_refusal places line (reply.Place tag number count) = are_before places line number
is_refusal places line _ = false

-- a refusal of one event: the server may take the next one
abbrev pub is_of_event : Refusal → Bool
is_of_event refusal.NotAllowed = false
is_of_event _ = true

-- An acknowledgement or a refusal with the tag of the request for the event of this line, and of that event alone. What
-- acknowledges a placed append is another reply, and instead of it the number of events of the kind may be given.
abbrev pub AnswersLine : Places → ℕ → Reply → Type 0
AnswersLine places line (reply.Acknowledgement tag index count root) =
    (tag ≡ line_tag line) × (are_placed places ≡ false)
AnswersLine places line (reply.Placed tag index count root key) = (tag ≡ line_tag line) × (are_placed places ≡ true)
AnswersLine places line (reply.Place tag number count) = (tag ≡ line_tag line) × (are_placed places ≡ true)
AnswersLine places line (reply.Refused tag code) = (tag ≡ line_tag line) × (is_of_event code ≡ true)
AnswersLine places line _ = ⊥

-- each answers its own line, from the line after the first `before` on
abbrev pub AreAnswers : Places → ℕ → List Reply → Type 0
AreAnswers places before [] = Unit {0}
AreAnswers places before (answer ∷ answers) =
    AnswersLine places (suc before) answer × AreAnswers places (suc before) answers

-- the lines that are printed for them
abbrev pub answer_lines : ℕ → List Reply → List ℕ
answer_lines before [] = []
answer_lines before (answer ∷ answers) = answer_line (suc before) answer ++ answer_lines (suc before) answers

-- how many of them are refusals
abbrev pub refusals_in : Places → ℕ → List Reply → ℕ
refusals_in places before [] = 0
refusals_in places before (answer ∷ answers) = if is_refusal places (suc before) answer
    then refusals_in places (suc before) answers + 1 else refusals_in places (suc before) answers

-- how many of them come before the first refusal
abbrev pub before_refusal : Places → ℕ → List Reply → ℕ
before_refusal places before [] = 0
before_refusal places before (answer ∷ answers) =
    if is_refusal places (suc before) answer then 0 else suc (before_refusal places (suc before) answers)

-- these are the first replies that were read, whatever was read after them
abbrev pub ReadsFirst : Option (List ℕ) → List Reply → Type 0
ReadsFirst old answers = (mid : Option (List ℕ)) × ReadsReplies old mid answers

-- ---- lines of the input

-- the input began with lines of these events, and the lines after them remain
abbrev pub TakesEvents : LineForm → Option (List ℕ) → Option (List ℕ) → List EventData → Type 0
TakesEvents form None new events = Unit {0}
TakesEvents form (Some input) None events = ⊥
TakesEvents form (Some input) (Some rest) events = (taken : List (List ℕ)) × (lines_of input ≡ taken ++ lines_of rest)
    × AreEventsOf form taken events

-- the input began with lines of these events
abbrev pub TakesFirst : LineForm → Option (List ℕ) → List EventData → Type 0
TakesFirst form old events = IfSome old (λ input. (taken later : List (List ℕ)) × (lines_of input ≡ taken ++ later)
    × AreEventsOf form taken events)

-- the lines of the input are those of these events
abbrev pub TakesAll : LineForm → Option (List ℕ) → List EventData → Type 0
TakesAll form old events = IfSome old (λ input. AreEventsOf form (lines_of input) events)

-- why a line has no event: its own fault, or memory ran out
abbrev pub IsEventFault : Places → LineForm → ℕ → List ℕ → LinesError → Type 0
IsEventFault places form number line (lines.Line at cause) =
    (at ≡ number) × (event_to_send places form line ≡ Err cause)
IsEventFault places form number line lines.Memory = Unit {0}
IsEventFault places form number line _ = ⊥

-- The first line of an input has no event, for this cause; or it is longer than the line of any event, and its
-- payload is too long.
abbrev pub IsBadFirst : Places → LineForm → LineError → List ℕ → Type 0
IsBadFirst places form cause input = (line : List ℕ) × (later : List (List ℕ)) × (lines_of input ≡ line ∷ later)
    × ((event_to_send places form line ≡ Err cause) ⊎ ((MAX_DIGITS < length line) × (cause ≡ PayloadTooLong)))

-- why the next line, of this number, wasn't taken
abbrev pub IsTakingFault : Places → LineForm → Option (List ℕ) → ℕ → LinesError → Type 0
IsTakingFault places form old number (lines.Line at cause) = (at ≡ number) × IfSome old (IsBadFirst places form cause)
IsTakingFault places form old number lines.InputTooLong = IsBeyond places number
IsTakingFault places form old number lines.Write = ⊥
IsTakingFault places form old number _ = Unit {0}

-- the next line was taken and the request of its event added to the frames; or no line is left
abbrev pub TakesNext : Places → LineForm → Option (List ℕ) → Option (List ℕ) → ℕ → List ℕ → List ℕ → Bool → Type 0
TakesNext places form old new before frames_old frames_new true = (event : EventData)
    × TakesEvents form old new (event ∷ [])
    × (frames_new ≡ frames_old ++ request_frame (event_request places before event))
TakesNext places form old new before frames_old frames_new false = IsAtEnd old × (frames_new ≡ frames_old)

-- the lines of a round were taken, and the frames are those of their events
pub record TakesRound (places : Places) (form : LineForm) (old new : Option (List ℕ)) (before : ℕ) (frames : List ℕ)
    (taken : Taken) : Type 0 where
  pub events : List EventData
  pub counted : taken.count ≡ length events
  pub first : TakesFirst form old events
  pub on : taken.more ≡ true → TakesEvents form old new events
  pub all : taken.more ≡ false → taken.error ≡ None → TakesAll form old events
  pub framed : frames ≡ event_frames places before events
  pub stops : IfSome taken.error (λ cause. (taken.more ≡ false) × (rest : Option (List ℕ))
      × TakesEvents form old rest events × IsTakingFault places form rest (before + taken.count + 1) cause)

-- ---- one answer, and those of a round

-- This reply isn't an answer to this line, and this is the error for that; or it is, and memory was refused.
abbrev pub IsUnprinted : Places → ℕ → Reply → ClientError → Type 0
IsUnprinted places line given error = ((error ≡ client.Memory) × AnswersLine places line given)
    ⊎ ((error ≡ not_due (line_tag line) given) × (AnswersLine places line given → ⊥))

-- no reply was read, or another than one to this line; or it was, and memory was refused to print it
abbrev pub IsNoLineAnswer : Places → Option (List ℕ) → Option (List ℕ) → ℕ → ClientError → Type 0
IsNoLineAnswer places read_old read_new line error = FailsToRead read_old read_new error
    ⊎ ((given : Reply) × ReadsReply read_old read_new given × IsUnprinted places line given error)

-- Answers to lines were read, as many as these, and then none to the next line.
abbrev pub LacksAnswer : Places → Option (List ℕ) → Option (List ℕ) → ℕ → ℕ → SendError → Type 0
LacksAnswer places read_old read_new before count (Input error) = ⊥
LacksAnswer places read_old read_new before count (Client error) = (mid : Option (List ℕ)) × (answers : List Reply)
    × (length answers ≡ count) × ReadsReplies read_old mid answers
    × IsNoLineAnswer places mid read_new (before + count + 1) error
LacksAnswer places read_old read_new before count Output = Unit {0}
LacksAnswer places read_old read_new before count Keys = Unit {0}

-- an answer to a line was read, and its line printed
pub record TakesAnswer (places : Places) (read_old read_new old new : Option (List ℕ)) (line : ℕ) (refuses : Bool)
    : Type 0 where
  pub answer : Reply
  pub read : ReadsReply read_old read_new answer
  pub due : AnswersLine places line answer
  pub printed : Appends old new (answer_line line answer)
  pub refuses_is : refuses ≡ is_refusal places line answer

-- an answer to a line was read, and a part of its line printed
pub record TearsAnswer (places : Places) (read_old old new : Option (List ℕ)) (line : ℕ) : Type 0 where
  pub answer : Reply
  pub mid : Option (List ℕ)
  pub read : ReadsReply read_old mid answer
  pub due : AnswersLine places line answer
  pub part : WritesInPart old new (answer_line line answer)

-- No answer was read and nothing printed; or it was the output that failed; or the key of the answer wasn't kept, and
-- nothing printed.
abbrev pub FailsAnswer : Places → Option (List ℕ) → Option (List ℕ) → Option (List ℕ) → Option (List ℕ) → ℕ
    → SendError → Type 0
FailsAnswer places read_old read_new old new line (Input error) = ⊥
FailsAnswer places read_old read_new old new line (Client error) =
    Keeps old new × IsNoLineAnswer places read_old read_new line error
FailsAnswer places read_old read_new old new line Output = TearsAnswer places read_old old new line
FailsAnswer places read_old read_new old new line Keys = Keeps old new

-- What was read and printed, whatever happened: the answers whose lines were printed, and at most one more, if the
-- output failed in its line. They are the first replies that were read, and each answers its own line.
pub record Prints (places : Places) (read_old old new : Option (List ℕ)) (before : ℕ) (answered refused : ℕ)
    (error : Option SendError) : Type 0 where
  pub answers : List Reply
  pub torn : List Reply
  pub answered_is : answered ≡ length answers
  pub refused_is : refused ≡ refusals_in places before answers
  pub due : AreAnswers places before (answers ++ torn)
  pub read : ReadsFirst read_old (answers ++ torn)
  pub part : WritesInPart old new (answer_lines before (answers ++ torn))
  pub whole : error ≢ Some Output → (torn ≡ []) × Appends old new (answer_lines before answers)

-- as many answers were read as there are lines, and each printed
pub record PrintsAll (places : Places) (read_old read_new old new : Option (List ℕ)) (before count : ℕ)
    (answered refused : ℕ) : Type 0 where
  pub answers : List Reply
  pub counted : length answers ≡ count
  pub answered_is : answered ≡ count
  pub refused_is : refused ≡ refusals_in places before answers
  pub due : AreAnswers places before answers
  pub read : ReadsReplies read_old read_new answers
  pub printed : Appends old new (answer_lines before answers)

pub record TakesAnswers (places : Places) (read_old read_new old new : Option (List ℕ)) (before count : ℕ)
    (taken : Answers) : Type 0 where
  pub prints : Prints places read_old old new before taken.count taken.refused taken.error
  pub few : length (prints.answers ++ prints.torn) ≤ count
  pub read : ReadsFirst read_old prints.answers
  pub all : taken.error ≡ None → PrintsAll places read_old read_new old new before count taken.count taken.refused
  pub fails : IfSome taken.error (LacksAnswer places read_old read_new before taken.count)

-- ---- what was sent

-- What was sent, whatever happened: the requests of the first lines' events in order, or a prefix of their bytes; and
-- no more was answered than was sent.
pub record Sends (places : Places) (form : LineForm) (before : ℕ)
    (input written_old written_new read_old old new : Option (List ℕ)) (end : SendEnd) : Type 0 where
  pub events : List EventData
  pub sent_is : end.sent ≡ length events
  pub taken : TakesFirst form input events
  pub sent : WritesInPart written_old written_new (event_frames places before events)
  pub prints : Prints places read_old old new before end.answered end.refused end.error
  pub few : length (prints.answers ++ prints.torn) ≤ length events

-- the lines were sent, the first of them answered and printed, and the lines after them remain
pub record SendsOn (places : Places) (form : LineForm) (before : ℕ)
    (input rest written_old written_new read_old read_new old new : Option (List ℕ)) (end : SendEnd) : Type 0 where
  pub events : List EventData
  pub sent_is : end.sent ≡ length events
  pub answered : end.answered ≤ end.sent
  pub no_error : end.error ≡ None
  pub taken : TakesEvents form input rest events
  pub sent : Appends written_old written_new (event_frames places before events)
  pub prints : PrintsAll places read_old read_new old new before end.answered end.answered end.refused

-- all lines of the input were sent, answered and printed
pub record SendsAll (places : Places) (form : LineForm) (before : ℕ)
    (input written_old written_new read_old read_new old new : Option (List ℕ)) (end : SendEnd) : Type 0 where
  pub events : List EventData
  pub sent_is : end.sent ≡ length events
  pub taken : TakesAll form input events
  pub sent : Appends written_old written_new (event_frames places before events)
  pub prints : PrintsAll places read_old read_new old new before (length events) end.answered end.refused

-- The answers that were counted were read, and at most `window` more lines were sent than came before the first refusal
-- among them.
pub record StaysNear (places : Places) (before : ℕ) (read_old read_new : Option (List ℕ)) (window : ℕ) (end : SendEnd)
    : Type 0 where
  pub answers : List Reply
  pub answered_is : end.answered ≡ length answers
  pub refused_is : end.refused ≡ refusals_in places before answers
  pub read : ReadsReplies read_old read_new answers
  pub near : end.sent ≤ before_refusal places before answers + window

-- the same, whatever was read after them
abbrev pub StopsNear : Places → ℕ → Option (List ℕ) → ℕ → SendEnd → Type 0
StopsNear places before read_old window end =
    (read_new : Option (List ℕ)) × StaysNear places before read_old read_new window end

-- whether sending ends before its input, once this number of events was refused
abbrev pub stops_at : StopAt → ℕ → Bool
stops_at stop.End refused = false
stops_at stop.Refusal refused = nat_lt 0 refused

-- Why sending ended before the input did, after `sent` lines of which `answered` were answered. Either the next line is
-- no event or has no number; or the connection was lost after all lines were answered, and its last write failed
-- (`failed`); or the next answer didn't come.
-- Nothing is said here of a fault of the output or of the keys: `Prints` says what was printed, `KeepsKeys` what was
-- kept, and `BreaksOnlyIf` and `KeysBreakOnlyIf` that they failed.
abbrev pub EndsFor : Places → LineForm → ℕ → Option (List ℕ) → Option (List ℕ) → Option (List ℕ) → Type 0 → ℕ → ℕ
    → Option SendError → Type 0
EndsFor places form before input read_old read_new failed sent answered None = Unit {0}
EndsFor places form before input read_old read_new failed sent answered (Some (Input cause)) =
    ((cause ≡ lines.InputTooLong) ⊎ (answered ≡ sent)) × (events : List EventData) × (rest : Option (List ℕ))
    × (length events ≡ sent) × TakesEvents form input rest events
    × IsTakingFault places form rest (before + sent + 1) cause
EndsFor places form before input read_old read_new failed sent answered (Some (Client error)) =
    (IsLost error × (answered ≡ sent) × failed) ⊎ LacksAnswer places read_old read_new before answered (Client error)
EndsFor places form before input read_old read_new failed sent answered (Some Output) = Unit {0}
EndsFor places form before input read_old read_new failed sent answered (Some Keys) = Unit {0}

-- an error of the output has this cause
abbrev pub BreaksOnlyIf : Type 0 → Option SendError → Type 0
BreaksOnlyIf Cause (Some Output) = Cause
BreaksOnlyIf Cause _ = Unit {0}

-- At most `window` lines are sent ahead of their answers, and each refusal is an answer.
pub record IsWithin (window : ℕ) (end : SendEnd) : Type 0 where
  pub refused : end.refused ≤ end.answered
  pub answered : end.answered ≤ end.sent
  pub ahead : end.sent ≤ end.answered + window
  pub room : 0 < window → end.sent < end.answered + window

-- the end after further lines were taken and further answers printed
abbrev pub end_after : SendEnd → Taken → Answers → Option SendError → SendEnd
end_after end taken answers error = record {
  sent = end.sent + taken.count;
  answered = end.answered + answers.count;
  refused = end.refused + answers.refused;
  error = error;
}

-- the error of an answer, or else of a write, or else of the input
abbrev pub first_error : Result (Unit {0}) ClientError → Option SendError → Option LinesError → Option SendError
first_error sent (Some error) taken = Some error
first_error (Err error) None taken = Some (Client error)
first_error (Ok done) None None = None
first_error (Ok done) None (Some error) = Some (Input error)
