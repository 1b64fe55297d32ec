-- Errors that are no wrong arguments.
use Rattle.std.specs.Prelude.{IfErr, Option, Some, None, List, ℕ}
use Rattle.std.proofs.Common.{◌≡◌, ◌⊎◌, ◌∙◌, inl, inr, arith, Result, Ok, Err, refl, sym, ap, subst}
use Rattle.audit_text.specs.declared.fault.LinesError.{LinesError}
use Rattle.audit_text.specs.declared.fault.LinesError.TheVariants as lines
use Rattle.audit_cli_base.specs.declared.fault.CommandError.TheVariants.{BadArgument, Lines, Refused, Export}
use Rattle.audit_cli_base.specs.declared.status.Status.{Status}
use Rattle.audit_cli_base.specs.declared.status.Status.TheVariants as ends
use Rattle.audit_cli_base.specs.Faults.{status_of_lines}
use Rattle.audit_wire.specs.declared.refusal.Refusal.{Refusal}
use Rattle.audit_wire.specs.declared.refusal.Refusal.TheVariants as refusal
use Rattle.audit_wire_ask.specs.declared.fault.ClientError.{ClientError}
use Rattle.audit_wire_ask.specs.declared.fault.ClientError.TheVariants as client
use Rattle.audit_cli_connection.specs.declared.fault.RemoteError.{RemoteError}
use Rattle.audit_cli_connection.specs.declared.fault.RemoteError.TheVariants.{Command, Server}
use Rattle.audit_cli_connection.specs.Faults.{IsNoBadArgument, IsNoJudgment, judgment_of, remote_status, status_of_answer, status_of_server}
use Rattle.audit_cli_client.specs.Requests.{status_of_done}

pub not_bad : {T : Type 0} (P : Type 0) (result : Result T RemoteError) → IfErr result IsNoBadArgument → result ≡ Err (Command BadArgument) → P
not_bad {T = T} P result other is = absurd (subst (λ (one : Result T RemoteError). IfErr one IsNoBadArgument) is other)

usage_lines : (cause : LinesError) → status_of_lines cause ≡ ends.Usage → ⊥
usage_lines lines.InputTooLong is = cc is
usage_lines (lines.Line line cause) is = cc is
usage_lines lines.Read is = cc is
usage_lines lines.Write is = cc is
usage_lines lines.Memory is = cc is

usage_answer : (code : Refusal) → status_of_answer code ≡ ends.Usage → ⊥
usage_answer refusal.Device is = cc is
usage_answer _ is = cc is

usage_server : (error : ClientError) → status_of_server error ≡ ends.Usage → ⊥
usage_server (client.Refused code) is = usage_answer code is
usage_server client.Ended is = cc is
usage_server client.TimedOut is = cc is
usage_server client.Output is = cc is
usage_server client.Memory is = cc is
usage_server _ is = cc is

-- which errors are of words
pub usage_of : (fault : RemoteError) → remote_status fault ≡ ends.Usage → fault ≡ Command BadArgument
usage_of (Command BadArgument) is = refl
usage_of (Command (Lines fault)) is = absurd (usage_lines fault is)
usage_of (Command (Refused error)) is = grind (arith, is)
usage_of (Command (Export fault)) is = grind (arith, is)
usage_of (Command _) is = absurd (cc is)
usage_of (Server error) is = absurd (usage_server error is)
usage_of _ is = absurd (cc is)

-- an error that is no wrong argument has another status
pub no_usage : (fault : RemoteError) → IsNoBadArgument fault → remote_status fault ≡ ends.Usage → ⊥
no_usage fault other is = subst IsNoBadArgument (usage_of fault is) other

-- which result of a command is one of words, once its judgment was printed and its output was flushed
abbrev Ending : Type 0
Ending = Result Status RemoteError

flushed_of : {A B : Type 0} (status : Status) (ended : Ending) → ((status ≡ status_of_done ended) × A) ⊎ ((status ≡ ends.Device) × B) → status ≡ ends.Usage → status_of_done ended ≡ ends.Usage
flushed_of status ended (inl of_ended) usage = sym of_ended.0 ∙ usage
flushed_of status ended (inr device) usage = let two : ends.Device ≡ ends.Usage = sym device.0 ∙ usage in absurd (cc two)

same_usage : (done ended : Ending) → (done ≡ Ok ends.Usage → ⊥) → ended ≡ done → status_of_done ended ≡ ends.Usage → done ≡ Err (Command BadArgument)
same_usage (Ok status) ended never same usage = absurd (never (ap Ok (ap status_of_done (sym same) ∙ usage)))
same_usage (Err fault) ended never same usage = ap Err (usage_of fault (ap status_of_done (sym same) ∙ usage))

by_judgment : {B C D : Type 0} {E : List ℕ → Type 0} (status : Status) (fault : RemoteError) (done ended : Ending) (found : Option (List ℕ)) → judgment_of fault ≡ found → (done ≡ Ok ends.Usage → ⊥) → (judgment_of fault ≡ None → ended ≡ done)
    → ((words : List ℕ) → judgment_of fault ≡ Some words → ((ended ≡ done) × E words) ⊎ ((ended ≡ Err (Command (Lines lines.Write))) × B))
    → ((status ≡ status_of_done ended) × C) ⊎ ((status ≡ ends.Device) × D) → status ≡ ends.Usage → done ≡ Err (Command BadArgument)
by_judgment status fault done ended None is never other judged flushed usage = same_usage done ended never (other is) (flushed_of status ended flushed usage)
by_judgment status fault done ended (Some words) is never other judged flushed usage = elim (judged words is) [
  | inl same ↦ same_usage done ended never same.0 (flushed_of status ended flushed usage)
  | inr write ↦ let two : ends.Device ≡ ends.Usage = ap status_of_done (sym write.0) ∙ flushed_of status ended flushed usage in absurd (cc two)
]

pub only_bad : {A B C D : Type 0} {E : List ℕ → Type 0} (status : Status) (done ended : Ending) → (done ≡ Ok ends.Usage → ⊥) → (IsNoJudgment done → (ended ≡ done) × A)
    → ((fault : RemoteError) (words : List ℕ) → done ≡ Err fault → judgment_of fault ≡ Some words → ((ended ≡ done) × E words) ⊎ ((ended ≡ Err (Command (Lines lines.Write))) × B))
    → ((status ≡ status_of_done ended) × C) ⊎ ((status ≡ ends.Device) × D) → status ≡ ends.Usage → done ≡ Err (Command BadArgument)
only_bad status (Ok one) ended never other judged flushed usage = same_usage (Ok one) ended never (other tt).0 (flushed_of status ended flushed usage)
only_bad status (Err fault) ended never other judged flushed usage =
    by_judgment status fault (Err fault) ended (judgment_of fault) refl never (λ none. (other none).0) (λ words is. judged fault words refl is) flushed usage
