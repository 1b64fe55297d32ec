-- The whole of a command that asks a server.
use Rattle.std.specs.Prelude.{◌≡◌, ◌⊎◌, Option, Some, None, ℕ, List, [], ◌∷◌, Result, Ok, Err}
use Rattle.std.specs.Io.KnownBytes.{Appends, Keeps}
use Rattle.audit_text.specs.declared.fault.LinesError.TheVariants.{Write}
use Rattle.audit_cli_base.specs.declared.fault.CommandError.TheVariants.{BadArgument, Lines}
use Rattle.audit_cli_base.specs.declared.status.Status.{Status}
use Rattle.audit_cli_base.specs.declared.status.Status.TheVariants as ends
use Rattle.audit_cli_connection.specs.declared.fault.RemoteError.{RemoteError}
use Rattle.audit_cli_connection.specs.declared.fault.RemoteError.TheVariants.{Command}
use Rattle.audit_cli_connection.specs.Faults.{remote_status, judgment_of, IsNoJudgment}
use Rattle.audit_cli_connection.specs.ServerCalls.{ServersModel, CommandStreams, a_query, a_sending, a_reading}
use Rattle.audit_cli_connection.specs.ServerCalls.{NamedFiles, IsUnfitExport, IsUnfitReading}
use Rattle.audit_cli_witness.specs.Looks.{LooksOnce, LooksToTheEnd}
use Rattle.audit_cli_client.specs.declared.request.Order.{Order}
use Rattle.audit_cli_client.specs.declared.request.Order.TheVariants as order
use Rattle.audit_cli_client.specs.declared.request.Request.{Request}
use Rattle.audit_cli_client.specs.Arguments.{HasRefusedWord, IsOrderOf}
use Rattle.audit_cli_client.specs.ReadingTask.{ReadsToTheEnd}

abbrev pub status_of_done : Result Status RemoteError → Status
status_of_done (Ok status) = status
status_of_done (Err fault) = remote_status fault

-- what a command without a status of its own comes to
abbrev pub done_after : Result (Unit {0}) RemoteError → Result Status RemoteError
done_after (Ok done) = Ok ends.Done
done_after (Err fault) = Err fault

-- what is ordered can't be done with the words for it, or with the files that these name
abbrev pub IsUnfitOrder : NamedFiles → Order → Type 0
IsUnfitOrder files (order.Ask socket question seconds) = IsUnfitExport files question
IsUnfitOrder files (order.Send socket task) = ⊥
IsUnfitOrder files (order.Watch post every) = ⊥
IsUnfitOrder files (order.Read task every) = IsUnfitReading files task

-- What makes an argument a bad one: a word that is judged before the socket is opened; or for an export what is at the
-- path for it; or for a reading the word for kinds, or what is in the file for the first key or the bookmark.
abbrev pub HasUnfitArgument : NamedFiles → Request → Type 0
HasUnfitArgument files request =
    HasRefusedWord request ⊎ ((ordered : Order) × IsOrderOf request ordered × IsUnfitOrder files ordered)

module _ {F : Type 0} (servers : ServersModel F) where
  -- What was ordered was done, and nothing else, and this is how it ended.
  abbrev pub EndsOrder : Order → F → F → CommandStreams → CommandStreams → Type 0 → Result Status RemoteError → Type 0
  EndsOrder (order.Ask socket question seconds) was now before after failed done =
      (result : Result (Unit {0}) RemoteError)
      × servers.DidCalls was now (a_query socket.now question seconds before.output after.output result ∷ [])
      × (done ≡ done_after result) × (after.input ≡ before.input)
  EndsOrder (order.Send socket task) was now before after failed done =
      servers.DidCalls was now (a_sending socket.now task before after done ∷ [])
  EndsOrder (order.Watch post None) was now before after failed done = (result : Result (Unit {0}) RemoteError)
      × LooksOnce servers post was now before.output after.output failed result
      × (done ≡ done_after result) × (after.input ≡ before.input)
  EndsOrder (order.Watch post (Some every)) was now before after failed done =
      (result : Result (Unit {0}) RemoteError)
      × LooksToTheEnd servers post every was now before.output after.output failed result
      × (done ≡ done_after result) × (after.input ≡ before.input)
  EndsOrder (order.Read task None) was now before after failed done = (result : Result (Unit {0}) RemoteError)
      × servers.DidCalls was now (a_reading task before.output after.output result ∷ [])
      × (done ≡ done_after result) × (after.input ≡ before.input)
  EndsOrder (order.Read task (Some every)) was now before after failed done =
      (result : Result (Unit {0}) RemoteError)
      × ReadsToTheEnd servers task every was now before.output after.output result
      × (done ≡ done_after result) × (after.input ≡ before.input)

  -- A word is wrong, and nothing was done or written; or what the words say was ordered, and ended so.
  abbrev pub Performs : Request → F → F → CommandStreams → CommandStreams → Type 0 → Result Status RemoteError → Type 0
  Performs request was now before after failed done =
      (HasRefusedWord request × (done ≡ Err (Command BadArgument)) × servers.DidCalls was now []
      × Keeps before.output after.output)
      ⊎ ((ordered : Order) × IsOrderOf request ordered × EndsOrder ordered was now before after failed done)

  -- A request was carried out with this result, and the judgment of the log then printed, if the result is one; if that
  -- failed, the output's fault is how it ended. The output was then flushed. The program's status is that of how it
  -- ended, once the output was flushed, or that of an output that couldn't be.
  pub record IsClientRun {W : Type 0} (contents : W → Option (List ℕ)) (failed flushed : W → Type 0)
      (request : Request) (was now : F) (input rest messages : Option (List ℕ)) (before after : W) (status : Status)
      : Type 0 where
    pub done : Result Status RemoteError
    pub ended : Result Status RemoteError
    pub said : Option (List ℕ)
    pub written : W
    pub printed : W
    pub carried : Performs request was now (record { input = input; output = contents before; messages = messages })
        (record { input = rest; output = contents written; messages = said }) (failed written) done
    pub words : HasRefusedWord request → (done ≡ Err (Command BadArgument)) × Keeps (contents before) (contents written)
    pub other : IsNoJudgment done → (ended ≡ done) × Keeps (contents written) (contents printed)
    pub judged : (fault : RemoteError) (words : List ℕ) → done ≡ Err fault → judgment_of fault ≡ Some words
        → ((ended ≡ done) × Appends (contents written) (contents printed) words)
        ⊎ ((ended ≡ Err (Command (Lines Write))) × failed printed)
    pub kept : Keeps (contents printed) (contents after)
    pub status_is : ((status ≡ status_of_done ended) × flushed after) ⊎ ((status ≡ ends.Device) × failed after)
