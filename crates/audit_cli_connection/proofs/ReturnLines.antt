-- What is said of a server that answers again.
use Rattle.std.specs.Prelude.{Bool, true, Option, Result, Ok, Err, IfOk, IfErr, codes}
use Rattle.std.proofs.Common.{◌≡◌, ◌∙◌, ℕ, List, inl, inr, refl, sym, subst}
use Rattle.httpdate.specs.declared.date.HttpDate.{HttpDate as Date}
use Rattle.audit_cli_connection.specs.Messages.{IsMomentLine, IsReturnLine, Says, SaysReturned, SaysAnswersAgain, was_absent}
use Rattle.audit_cli_connection.specs.declared.fault.RemoteError.{RemoteError}

pub said_return : {V E : Type 0} (bytes : V → List ℕ) (date : Option Date) (old new : Option (List ℕ)) (failed : Type 0) (made : Result V E) → IfOk made (λ line. IsMomentLine (codes "answers again") date (bytes line))
    → IfOk made (λ line. Says old new failed (bytes line)) → IfErr made (λ error. Says old new failed (codes "audit: answers again\n")) → (line : List ℕ) × IsReturnLine date line × Says old new failed line
said_return bytes date old new failed (Ok line) is said unsaid = (bytes line, inl is, said)
said_return bytes date old new failed (Err error) is said unsaid = (codes "audit: answers again\n", inr refl, unsaid)

pub said_if : (reported : Option RemoteError) (date : Option Date) (old new : Option (List ℕ)) (failed : Type 0) (is : Bool) → is ≡ was_absent reported → is ≡ true → (line : List ℕ) × IsReturnLine date line × Says old new failed line
    → SaysAnswersAgain reported date old new failed
said_if reported date old new failed is same absent said = subst (λ b. SaysReturned b date old new failed) (sym absent ∙ same) said
