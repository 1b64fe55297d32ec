use Rattle.std.proofs.Common.{ℕ, Option, List, inl, inr}
use Rattle.std.proofs.lemmas.Result.{err_from_is_err_and}
use Rattle.audit_wire_ask.specs.declared.placing.Placing.{Placing}
use Rattle.audit_wire_ask.specs.declared.send_error.SendError.{SendError}
use Rattle.audit_wire_ask.specs.declared.send_error.SendError.TheVariants.{Input, Client, Output, Keys}
use Rattle.audit_wire_ask.specs.Placing.{FailsBegin, FailsLogging}
use Rattle.audit_wire_ask.proofs.Conversations.{appends_kept}
use Rattle.audit_wire_ask.proofs.PrintedAnswers.{part_whole}
use Rattle.audit_wire_ask.proofs.placing.log_and_send.Goals as goal

not_begun : (w0 w1 r0 r1 : Option (List ℕ)) (placing : Placing) (error : SendError) → FailsBegin w0 w1 r0 r1 error → FailsLogging w0 w1 r0 r1 placing error
not_begun w0 w1 r0 r1 placing (Input cause) fails = absurd fails
not_begun w0 w1 r0 r1 placing (Client error) fails = inl fails
not_begun w0 w1 r0 r1 placing Output fails = absurd fails
not_begun w0 w1 r0 r1 placing Keys fails = fails

pub returns-in_err-begin_log-clause-fault : goal.returns-in_err-begin_log-clause-fault
returns-in_err-begin_log-clause-fault g c =
    let p = err_from_is_err_and c.from_residual.result c.from_residual.ensures.1 in
    rw (p.1, p.2) (not_begun _ _ _ _ c.args.placing _ c.in_err-begin_log.ensures.fault)

pub returns-in-Err-clause-fault : goal.returns-in-Err-clause-fault
returns-in-Err-clause-fault g c =
    let begun = c.in_ok-begin_log.ensures.begun in
    inr (begun.newest, g.W.Write.contents c.begin_log.new.to, g.R.Read.remaining c.begin_log.new.from, begun.given, c.in-Err.ensures.fault)

pub returns-in-Err-clause-kept : goal.returns-in-Err-clause-kept
returns-in-Err-clause-kept g c =
    let begun = c.in_ok-begin_log.ensures.begun in
    inr (begun.newest, part_whole _ _ _ (appends_kept _ _ _ _ begun.kept c.in-Err.ensures.kept))
