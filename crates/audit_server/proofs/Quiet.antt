-- The end of a session changes no output, unless the queue was full.
use Rattle.std.proofs.Common.{◌≡◌, ◌∙◌, ℕ, ◌+◌, ◌<◌, ◌≤◌, Bool, true, false, ◌||◌, cond, leb, Ok, List, [], ◌∷◌, ◌++◌, length, get_or, refl, sym, ap, subst, arith}
use Rattle.std.proofs.lemmas.Bool.{leb-true}
use Rattle.std.proofs.lemmas.List.{length-append}
use Rattle.audit_base.specs.declared.limits.TheConstants.{SESSIONS}
use Rattle.audit_disk_model.specs.declared.sectors.Sectors as sectors
use Rattle.audit_server_commit.specs.declared.committer.Committer.{Committer}
use Rattle.audit_server_commit.specs.declared.limits.TheConstants.{MAX_WAITING}
use Rattle.audit_server_commit.specs.declared.question.Query.TheVariants as query
use Rattle.audit_server_commit.specs.declared.question.Question.{Question}
use Rattle.audit_server_commit.specs.Waiting.{Waiting, items_waiting, with_question}
use Rattle.audit_server_commit.specs.Arrivals.{malformed_from, forces_flush}
use Rattle.audit_server_commit.specs.Committer.{waiting_of, outputs_of}
use Rattle.audit_server_commit.specs.Entering.{IsReady, HasEntered}
use Rattle.audit_serve_passes.specs.CallLaws.{or_false}
use Rattle.audit_serve_passes.specs.Ending.{EndsQuietly}
use Rattle.audit_server_commit.specs.Sessions.{SessionData, arrivals_of_rest, arrivals_by_end}
use Rattle.audit_server.specs.declared.server_core.Core.{Core}
use Rattle.audit_server.specs.Running.{HaveEntered}
use Rattle.audit_server.specs.Core.{committer_of, session_of, EndOutcome}
use Rattle.audit_server.specs.CoreModel.{core_model}

-- one more question waits
asked_more : (waiting : Waiting) (question : Question) → items_waiting (with_question question waiting) ≡ items_waiting waiting + 1
asked_more waiting question = omega (arith, length-append waiting.questions (question ∷ []))

full_enough : (waiting : Waiting) (k : ℕ) → forces_flush waiting (malformed_from k) ≡ true → MAX_WAITING ≤ items_waiting waiting
full_enough waiting k is = leb-true MAX_WAITING (items_waiting waiting) (sym (or_false (leb MAX_WAITING (items_waiting waiting))) ∙ is)

module _ {D : Type 0} {g : sectors.Ghosts D} where
  record IsQuiet (old new : Committer D g) : Type 0 where
    waiting : items_waiting (waiting_of new) ≤ items_waiting (waiting_of old) + 1
    outputs : items_waiting (waiting_of old) < SESSIONS → outputs_of new ≡ outputs_of old

  one_quiet : (k : ℕ) (old new : Committer D g) → HasEntered (malformed_from k) old new → IsQuiet old new
  one_quiet k old new entered = by (forces_flush (waiting_of old) (malformed_from k)) refl entered.flushed
    where
      more : items_waiting (waiting_of new) ≡ items_waiting (waiting_of entered.ready) + 1
      more = ap items_waiting entered.waits.waits ∙ asked_more (waiting_of entered.ready) (record { session = k; query = query.Malformed })

      by : (full : Bool) → forces_flush (waiting_of old) (malformed_from k) ≡ full → IsReady full old entered.ready (Ok tt) → IsQuiet old new
      by true is flushed = record {
        waiting = omega (arith, more, ap items_waiting flushed.waiting);
        outputs = λ few. absurd (omega (arith, few, full_enough (waiting_of old) k is));
      }
      by false is same = record {
        waiting = omega (arith, more, ap (λ (c : Committer D g). items_waiting (waiting_of c)) same);
        outputs = λ few. entered.waits.outputs ∙ ap outputs_of same;
      }

  all_quiet : (k : ℕ) (session : SessionData) (old new : Committer D g) → HaveEntered (arrivals_by_end k session) old new → IsQuiet old new
  all_quiet k session old new = by session.ended session.rest
    where
      none : new ≡ old → IsQuiet old new
      none same = record { waiting = omega (arith, ap (λ (c : Committer D g). items_waiting (waiting_of c)) same); outputs = λ few. ap outputs_of same }

      by : (ended : Bool) (rest : List ℕ) → HaveEntered (cond ended [] (arrivals_of_rest k rest)) old new → IsQuiet old new
      by true rest same = none same
      by false [] same = none same
      by false (byte ∷ rest) entered = subst (IsQuiet old) (sym entered.2) (one_quiet k old entered.0 entered.1)

  pub end_quiet : (k : ℕ) (old new : Core D g) → EndOutcome k old new (Ok tt) → EndsQuietly core_model old new
  end_quiet k old new end =
      let quiet = all_quiet k (session_of k old) (committer_of old) (committer_of new) end.ended.frame.entered in
      record { waiting = quiet.waiting; outputs = λ few other. ap (λ (outputs : List (List ℕ)). get_or outputs other []) (quiet.outputs few) }
