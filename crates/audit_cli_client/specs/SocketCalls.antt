-- What a program knows of its connections, and of the files that it locks, because calls showed it.
use Rattle.std.specs.Prelude.{◌≡◌, ◌⊎◌, ℕ, List, [], ◌∷◌, ◌++◌, Result, Err}
use Rattle.std.specs.List.{AllByRecursion}
use Rattle.std.proofs.Common.{refl, subst, ◌∙◌}
use Rattle.audit_disk.specs.FileFacts.{FileFacts}
use Rattle.audit_cli_base.specs.declared.fault.CommandError.{CommandError}
use Rattle.audit_cli_base.specs.declared.fault.CommandError.TheVariants.{BadArgument}
use Rattle.audit_cli_connection.specs.Dialing.{DialFacts, HasConnection, IsUnconnected, IsUnseen}
use Rattle.audit_cli_connection.specs.ServerCalls.{ServersModel, ServerCall}
use Rattle.audit_cli_connection.specs.ServerCalls.{a_query, a_sending, a_look, a_reading, a_rest}
use Rattle.audit_cli_connection.specs.declared.fault.RemoteError.{RemoteError}
use Rattle.audit_cli_connection.specs.declared.fault.RemoteError.TheVariants.{Command, StateInUse, ReaderInUse}
use Rattle.audit_cli_witness.specs.Locking.{IsInUse}
use Rattle.audit_cli_client.specs.declared.system_servers.SystemServers.{SystemServers}

-- a call ended over a connection to the socket; or there was none, and this is why
abbrev pub EndsOver : {T : Type 0} → DialFacts → List ℕ → ℕ → Result T RemoteError → Type 0
EndsOver dials socket seconds result = HasConnection dials socket
    ⊎ ((fault : RemoteError) × (result ≡ Err fault) × IsUnconnected dials socket seconds fault)

-- the same for a question, for which the socket's file is looked at first
abbrev pub AsksSocket : {T : Type 0} → (Failed : Type 0) → DialFacts → List ℕ → ℕ → Result T RemoteError → Type 0
AsksSocket Failed dials socket seconds result = EndsOver dials socket seconds result
    ⊎ ((fault : RemoteError) × (result ≡ Err fault) × IsUnseen Failed fault)

-- the same for events, where an error may also be one that other commands have: of the file for the keys, or memory
abbrev pub SendsToSocket : {T : Type 0} → DialFacts → List ℕ → ℕ → Result T RemoteError → Type 0
SendsToSocket dials socket seconds result = EndsOver dials socket seconds result
    ⊎ ((cause : CommandError) × (result ≡ Err (Command cause)))

-- What each call shows: a question was asked, and events were sent, over a connection to the socket, or there is a
-- reason why not. The file of a witness or a reader is in use only if a call failed that locks it.
module _ {E : Type 0} (Failed : Type 0) (dials : DialFacts) (facts : E → FileFacts) where
  abbrev pub IsCalled : ServerCall → Type 0
  IsCalled (a_query socket question seconds before after result) =
      (result ≡ Err (Command BadArgument)) ⊎ AsksSocket Failed dials socket seconds result
  IsCalled (a_sending socket task before after result) = SendsToSocket dials socket task.seconds result
  IsCalled (a_look post result) = result ≡ Err StateInUse → IsInUse facts dials.read post.seconds
  IsCalled (a_reading task before after result) =
      result ≡ Err ReaderInUse → IsInUse facts dials.read task.seconds
  IsCalled (a_rest seconds) = Unit {0}

module _ {F E : Type 0} (failed : F → Type 0) (dials : F → DialFacts) (facts : E → FileFacts) where
  -- Each of these calls was made on the same system.
  pub record DidOnSockets (old new : SystemServers F) (calls : List ServerCall) : Type 0 where
    pub same : new.rt ≡ old.rt
    pub each : AllByRecursion (IsCalled (failed old.rt.now) (dials old.rt.now) facts) calls

  abbrev pub each-append : (P : ServerCall → Type 0) (calls later : List ServerCall) → AllByRecursion P calls
      → AllByRecursion P later → AllByRecursion P (calls ++ later)
  each-append P [] later first second = second
  each-append P (call ∷ calls) later first second = (first.0, each-append P calls later first.1 second)

  abbrev pub socket_calls : ServersModel (SystemServers F)
  socket_calls = record {
    DidCalls = λ old new calls. DidOnSockets old new calls;
    nothing_called = λ servers. record { same = refl; each = tt };
    more_called = λ old mid new calls later first second. record {
      same = second.same ∙ first.same;
      each = each-append (IsCalled (failed old.rt.now) (dials old.rt.now) facts) calls later first.each
          (subst (λ rt. AllByRecursion (IsCalled (failed rt.now) (dials rt.now) facts) later) first.same second.each);
    };
  }
