use Rattle.std.proofs.Common.{◌∙◌, inl, inr, sym}
use Rattle.audit_cli_store.proofs.BadArguments.{holds_anyway, never_bad, not_ahead}
use Rattle.audit_cli_store.proofs.auditing.verify_file.Goals as goal

pub returns-clause-right : goal.returns-clause-right
returns-clause-right g c = holds_anyway c.verify_further.result (record {
  state = c.in_ok-start.start;
  at = c.in_ok-start.ensures.start;
  commitment = c.in_ok-commitment.commitment;
  commitment_is = sym c.in_ok-commitment.ensures.asked;
  within = not_ahead c.in_ok-commitment.commitment.count c.in_ok-start.start.frontier.count (λ ahead. let no = c.in_ok-judge_start.ensures.ahead ahead in cc no);
  printing = c.in_ok-printing.printing;
  printing_is = c.in_ok-printing.ensures.printing;
})

pub returns-clause-only : goal.returns-clause-only
returns-clause-only g c = λ bad. absurd (never_bad c.verify_further.result bad c.verify_further.ensures.words)
