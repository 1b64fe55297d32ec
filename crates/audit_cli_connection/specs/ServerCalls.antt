-- The calls by which a program asks servers, sends them events, looks at their logs, reads them on and pauses.
use denote.Ref.{Bor}
use Rattle.std.specs.Prelude.{◌≡◌, ◌⊎◌, ℕ, true, Option, IsSomeAnd, List, [], ◌++◌, Result}
use Rattle.audit_cli_base.specs.Arguments.{selects_output}
use Rattle.audit_cli_base.specs.declared.status.Status.{Status}
use Rattle.audit_cli_offline.specs.KindsWord.{AreKindsInWord}
use Rattle.audit_wire_ask.specs.declared.watching.Sight.{Sight}
use Rattle.audit_cli_connection.specs.declared.question.Question.{Question}
use Rattle.audit_cli_connection.specs.declared.question.Question.TheVariants as question
use Rattle.audit_cli_connection.specs.declared.fault.RemoteError.{RemoteError}
use Rattle.audit_cli_connection.specs.declared.read_task.ReadTask.{ReadTask}
use Rattle.audit_cli_connection.specs.declared.task.Task.{Task}
use Rattle.audit_cli_connection.specs.declared.post.Post.{Post}

-- what is left of an input, and what was written to an output and to the messages, where these are known
pub record CommandStreams : Type 0 where
  pub input : Option (List ℕ)
  pub output : Option (List ℕ)
  pub messages : Option (List ℕ)

pub data ServerCall : Type 0 where
  -- this was asked at the socket, with this many seconds for each reply; the output before and after, and the result
  a_query : List ℕ → Question → ℕ → Option (List ℕ) → Option (List ℕ) → Result (Unit {0}) RemoteError → ServerCall
  -- events were sent to the socket; the streams before and after, and how that ended
  a_sending : List ℕ → Task → CommandStreams → CommandStreams → Result Status RemoteError → ServerCall
  -- a witness looked, and this is what it saw
  a_look : Post → Result Sight RemoteError → ServerCall
  -- a log was read on; the output before and after, and how that ended
  a_reading : ReadTask → Option (List ℕ) → Option (List ℕ) → Result (Unit {0}) RemoteError → ServerCall
  -- nothing was done for this many seconds
  a_rest : ℕ → ServerCall

-- How contracts see a system on which servers are asked. Each call establishes that it was made: code that is generic
-- over the system can have that from nothing else.
pub record ServersModel (F : Type 0) : Type 1 where
  -- these calls, and no others, led from one state to another
  pub DidCalls : F → F → List ServerCall → Type 0
  pub nothing_called : (servers : F) → DidCalls servers servers []
  pub more_called : (old mid new : F) (calls later : List ServerCall) → DidCalls old mid calls
      → DidCalls mid new later → DidCalls old new (calls ++ later)

-- What is known of the files that words name. Each fact is established by a call alone: code that is generic over the
-- system can have it from nothing else.
pub record NamedFiles : Type 1 where
  -- what is at this path isn't a regular file
  pub is_no_file : List ℕ → Type 0
  -- a file that was opened at this path, to read, has a key
  pub has_key : List ℕ → Type 0
  -- such a file has no key
  pub has_no_key : List ℕ → Type 0
  -- a file that was opened at this path, to read, has a bookmark
  pub has_bookmark : List ℕ → Type 0
  -- such a file has no bookmark
  pub has_no_bookmark : List ℕ → Type 0

-- an export is asked for that is to go to standard output, or to something that isn't a regular file
abbrev pub IsUnfitExport : NamedFiles → Question → Type 0
IsUnfitExport files (question.Export out first) =
    (selects_output out.now ≡ true) ⊎ files.is_no_file out.now
IsUnfitExport files _ = ⊥

-- the word for kinds lists none
abbrev pub AreNoKinds : Option (Bor (List ℕ)) → Type 0
AreNoKinds word = IsSomeAnd word (λ given. (kinds : List ℕ) → AreKindsInWord given.now kinds → ⊥)

-- a file has the first key or the bookmark from which reading begins
abbrev pub HasBeginning : NamedFiles → ReadTask → Type 0
HasBeginning files task =
    IsSomeAnd task.first (λ path. files.has_key path.now) ⊎ files.has_bookmark task.state.now

-- a file has no first key or no bookmark, where reading begins from it
abbrev pub HasNoBeginning : NamedFiles → ReadTask → Type 0
HasNoBeginning files task = IsSomeAnd task.first (λ path. files.has_no_key path.now)
    ⊎ files.has_no_bookmark task.state.now

abbrev pub IsUnfitReading : NamedFiles → ReadTask → Type 0
IsUnfitReading files task = AreNoKinds task.kinds ⊎ HasNoBeginning files task
