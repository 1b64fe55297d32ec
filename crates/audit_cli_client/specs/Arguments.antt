-- The words of requests to a server.
use denote.Ref.{Bor}
use Rattle.std.specs.Prelude.{◌≡◌, ◌⊎◌, ℕ, nat_le, ◌&&◌, Option, Some, None, Result, Ok, Err, List, codes}
use Rattle.std.specs.Prelude.{Bool, true, false, not, if◌then◌else◌}
use Rattle.std.specs.Str.{bytes_eq}
use Rattle.audit_text.specs.Number.{number_in_text}
use Rattle.std.specs.Option.{is_some}
use Rattle.audit_cli_offline.specs.declared.report_form.ReportForm.{ReportForm}
use Rattle.audit_text.specs.LineEvents.{form_asked, long_asked, kind_in_word}
use Rattle.audit_cli_base.specs.Arguments.{proof_asked, selects_output}
use Rattle.audit_cli_base.specs.declared.arguments.ProofRequest.{ProofRequest}
use Rattle.audit_cli_base.specs.declared.fault.CommandError.{CommandError}
use Rattle.audit_cli_base.specs.declared.fault.CommandError.TheVariants.{BadArgument}
use Rattle.audit_cli_base.specs.SocketPath.{IsNoSocketPath}
use Rattle.audit_text.specs.declared.line_form.LineForm.{LineForm}
use Rattle.audit_text.specs.declared.line_form.LineForm.TheVariants.{Spelled, Text}
use Rattle.audit_wire_ask.specs.declared.placing.Placing.{Placing}
use Rattle.audit_wire_ask.specs.declared.placing.Placing.TheVariants as placing
use Rattle.audit_wire_ask.specs.declared.stop_at.StopAt.{StopAt}
use Rattle.audit_wire_ask.specs.declared.stop_at.StopAt.TheVariants as stop
use Rattle.audit_cli_connection.specs.declared.post.Predecessor.{Predecessor}
use Rattle.audit_cli_connection.specs.declared.question.Question.{Question}
use Rattle.audit_cli_connection.specs.declared.question.Question.TheVariants as question
use Rattle.audit_cli_connection.specs.declared.question.Evidence.TheVariants as evidence
use Rattle.audit_cli_connection.specs.declared.read_task.ReadTask.{ReadTask}
use Rattle.audit_cli_connection.specs.declared.task.Task.{Task}
use Rattle.audit_cli_client.specs.declared.arguments.TheConstants.{MAX_SECONDS, MAX_WINDOW}
use Rattle.audit_cli_client.specs.declared.request.TheConstants.{TIMEOUT, WINDOW}
use Rattle.audit_cli_client.specs.declared.request.Request.{Request}
use Rattle.audit_cli_client.specs.declared.request.Request.TheVariants.{Ask, Send, Watch, Read}
use Rattle.audit_cli_client.specs.declared.request.Order.{Order}
use Rattle.audit_cli_client.specs.declared.request.Order.TheVariants as order

-- a number from 1 on, up to a limit
abbrev pub judged_number : ℕ → Option ℕ → Result ℕ CommandError
judged_number most None = Err BadArgument
judged_number most (Some number) = if nat_le 1 number && nat_le number most then Ok number else Err BadArgument

abbrev pub seconds_asked : List ℕ → Result ℕ CommandError
seconds_asked word = judged_number MAX_SECONDS (number_in_text word)

abbrev pub window_asked : List ℕ → Result ℕ CommandError
window_asked word = judged_number MAX_WINDOW (number_in_text word)

-- the number in a word; without a word, the default of the program
abbrev pub seconds_or_default : Option (Bor (List ℕ)) → Result ℕ CommandError
seconds_or_default None = Ok TIMEOUT
seconds_or_default (Some word) = seconds_asked word.now

abbrev pub window_or_default : Option (Bor (List ℕ)) → Result ℕ CommandError
window_or_default None = Ok WINDOW
window_or_default (Some word) = window_asked word.now

-- the seconds in a word; without a word, none
abbrev pub IsPause : Option (Bor (List ℕ)) → Option ℕ → Type 0
IsPause None pause = pause ≡ None
IsPause (Some word) None = ⊥
IsPause (Some word) (Some seconds) = seconds_asked word.now ≡ Ok seconds

-- there is a word, and it isn't a number of seconds from 1 to the limit
abbrev pub AreNoSeconds : Option (Bor (List ℕ)) → Type 0
AreNoSeconds None = ⊥
AreNoSeconds (Some word) = seconds_asked word.now ≡ Err BadArgument

abbrev pub IsNoWindow : Option (Bor (List ℕ)) → Type 0
IsNoWindow None = ⊥
IsNoWindow (Some word) = window_asked word.now ≡ Err BadArgument

-- the place of a kind
abbrev pub place_question : Option ℕ → Option Question
place_question None = None
place_question (Some kind) = Some (question.Place kind)

-- the entry of an index, and a proof, with the file for it
abbrev pub entry_question : Bor (List ℕ) → Option ℕ → Option Question
entry_question out None = None
entry_question out (Some index) = Some (question.Evidence (evidence.Entry index) out)

abbrev pub proof_question : Bor (List ℕ) → Option ProofRequest → Option Question
proof_question out None = None
proof_question out (Some proof) = Some (question.Evidence (evidence.Proof proof) out)

-- the question in a name and up to three words; the last one names the file for the answer, and an export isn't written
-- to standard output
abbrev pub question_in : List ℕ → Option (Bor (List ℕ)) → Option (Bor (List ℕ)) → Option (Bor (List ℕ))
    → Option Question
question_in name None None None =
    if bytes_eq name (codes "commitment") then Some question.Commitment
    else if bytes_eq name (codes "state") then Some question.State
    else if bytes_eq name (codes "close") then Some question.Close else None
question_in name (Some word) None None =
    if bytes_eq name (codes "place") then place_question (kind_in_word word.now)
    else if bytes_eq name (codes "export") && not (selects_output word.now) then Some (question.Export word 0) else None
question_in name (Some index) (Some out) None =
    if bytes_eq name (codes "entry") then entry_question out (number_in_text index.now) else None
question_in name (Some first) (Some second) (Some out) =
    proof_question out (proof_asked name first.now second.now)
question_in name None (Some second) third = None
question_in name None None (Some third) = None
question_in name (Some first) None (Some third) = None

-- an export from an index on
abbrev pub export_question : Bor (List ℕ) → Option ℕ → Option Question
export_question out None = None
export_question out (Some first) = Some (question.Export out first)

-- the question with the index that an export begins at, if there is a word for it; no other question has one
abbrev pub question_from : Option (Bor (List ℕ)) → Option Question → Option Question
question_from None asked = asked
question_from (Some word) (Some (question.Export out first)) = export_question out (number_in_text word.now)
question_from (Some word) _ = None

-- another name or number of words, or a number of another form, is a wrong argument
abbrev pub judged_question : Option Question → Result Question CommandError
judged_question None = Err BadArgument
judged_question (Some asked) = Ok asked

-- The places of events whose lines have this form: none; or, of a text, those from a number on, or the next ones of its
-- kind. A first place is for placed events alone.
abbrev pub placing_from : Option ℕ → Option Placing
placing_from None = None
placing_from (Some first) = Some (placing.From first)

abbrev pub placing_asked : Option LineForm → Bool → Option (Bor (List ℕ)) → Option Placing
placing_asked None placed first = None
placing_asked (Some form) false None = Some placing.Unplaced
placing_asked (Some form) false (Some word) = None
placing_asked (Some Spelled) true first = None
placing_asked (Some (Text kind)) true None = Some (placing.Next kind)
placing_asked (Some (Text kind)) true (Some word) = placing_from (number_in_text word.now)

-- one of the words of a task is wrong
abbrev pub IsNoTask : Option (Bor (List ℕ)) → Option (Bor (List ℕ)) → Option (Bor (List ℕ)) → Option (Bor (List ℕ))
    → Bool → Option (Bor (List ℕ)) → Option (Bor (List ℕ)) → Type 0
IsNoTask text long window timeout placed first retry =
    (form_asked text ≡ None) ⊎ ((long_asked long text ≡ None) ⊎ (IsNoWindow window ⊎ (AreNoSeconds timeout
    ⊎ ((placing_asked (form_asked text) placed first ≡ None) ⊎ AreNoSeconds retry))))

-- the log before, and the link from it: both or neither
abbrev pub before_asked : Option (Bor (List ℕ)) → Option (Bor (List ℕ)) → Option (Option Predecessor)
before_asked None None = Some None
before_asked None (Some link) = None
before_asked (Some state) None = None
before_asked (Some state) (Some link) = Some (Some (record { state = state; link = link }))

-- one of the words that are checked before the socket is opened is wrong
abbrev pub HasRefusedWord : Request → Type 0
HasRefusedWord (Ask socket words first timeout) = IsNoSocketPath socket.now 0
    ⊎ ((question_from first (question_in words.0.now words.1 words.2 words.3) ≡ None) ⊎ AreNoSeconds timeout)
HasRefusedWord (Send socket text long window timeout until_refused placed first keys retry) =
    IsNoSocketPath socket.now 0 ⊎ IsNoTask text long window timeout placed first retry
HasRefusedWord (Watch socket state every timeout is_quiet after link) = IsNoSocketPath socket.now 0
    ⊎ (AreNoSeconds every ⊎ (AreNoSeconds timeout ⊎ (before_asked after link ≡ None)))
HasRefusedWord (Read socket state first under form kinds every timeout) =
    IsNoSocketPath socket.now 0 ⊎ (AreNoSeconds every ⊎ AreNoSeconds timeout)

-- where sending stops
abbrev pub stop_asked : Bool → StopAt
stop_asked true = stop.Refusal
stop_asked false = stop.End

-- the task that these words ask for
abbrev pub IsTaskOfWords : Option (Bor (List ℕ)) → Option (Bor (List ℕ)) → Option (Bor (List ℕ))
    → Option (Bor (List ℕ)) → Bool → Bool → Option (Bor (List ℕ)) → Option (Bor (List ℕ))
    → Option (Bor (List ℕ)) → Task → Type 0
IsTaskOfWords text long window timeout until_refused placed first keys retry task = (form_asked text ≡ Some task.form)
    × (long_asked long text ≡ Some task.long) × (window_or_default window ≡ Ok task.window)
    × (seconds_or_default timeout ≡ Ok task.seconds) × (task.stop_at ≡ stop_asked until_refused)
    × (placing_asked (form_asked text) placed first ≡ Some task.placing) × (task.keys ≡ keys)
    × IsPause retry task.retry

-- what is read, and how it is printed, is that of the words
pub record IsTaskOf (socket state : Bor (List ℕ)) (first under : Option (Bor (List ℕ))) (form : ReportForm)
    (kinds : Option (Bor (List ℕ))) (task : ReadTask) : Type 0 where
  pub socket_is : task.socket ≡ socket
  pub state_is : task.state ≡ state
  pub first_is : task.first ≡ first
  pub under_is : task.under ≡ under
  pub form_is : task.form ≡ form
  pub kinds_are : task.kinds ≡ kinds

-- what is ordered has the paths, the question and the numbers of the words
abbrev pub IsOrderOf : Request → Order → Type 0
IsOrderOf (Ask socket words first timeout) (order.Ask path asked seconds) = (path ≡ socket)
    × (question_from first (question_in words.0.now words.1 words.2 words.3) ≡ Some asked)
    × (seconds_or_default timeout ≡ Ok seconds)
IsOrderOf (Send socket text long window timeout until_refused placed first keys retry) (order.Send path task) =
    (path ≡ socket) × IsTaskOfWords text long window timeout until_refused placed first keys retry task
IsOrderOf (Watch socket state every timeout is_quiet after link) (order.Watch post pause) = (post.socket ≡ socket)
    × (post.state ≡ state) × IsPause every pause × (seconds_or_default timeout ≡ Ok post.seconds)
    × (post.is_quiet ≡ is_quiet) × (before_asked after link ≡ Some post.before)
IsOrderOf (Read socket state first under form kinds every timeout) (order.Read task pause) =
    IsTaskOf socket state first under form kinds task × IsPause every pause
    × (seconds_or_default timeout ≡ Ok task.seconds) × (task.is_quiet ≡ is_some pause)
IsOrderOf request other = ⊥
