use Rattle.std.specs.Prelude.{Result, Ok, Err, OnErr}
use Rattle.std.proofs.Common.{inr}
use Rattle.audit_wire_ask.proofs.PrintedAnswers.{part_whole}
use Rattle.audit_wire_ask.proofs.answering.take_answer.Goals as goal

on_err : {A E X : Type 0} (result : Result A E) → X → OnErr result X
on_err (Ok done) holds = tt
on_err (Err error) holds = holds

pub returns-in_err-print_line-clause-unkept : goal.returns-in_err-print_line-clause-unkept
returns-in_err-print_line-clause-unkept g c =
    on_err c.from_residual-in_err-print_line.result
    (inr (g.R.Read.remaining c.next_reply.new.from, c.in-Ok.given, c.in-Ok.ensures.read, part_whole _ _ _ c.in_ok-keep_key.ensures.kept))
