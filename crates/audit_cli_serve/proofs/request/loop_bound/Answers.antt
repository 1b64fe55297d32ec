use Rattle.audit_server_commit.proofs.ServedSteps.{kept_none}
use Rattle.std.proofs.Common.{inr}
use Rattle.audit_cli_serve.proofs.Carried.{bad_at, lost_on, loops_at, through_all}
use Rattle.audit_cli_serve.proofs.request.loop_bound.Goals as goal

pub returns-in-Ok-clause-looped : goal.returns-in-Ok-clause-looped
returns-in-Ok-clause-looped g c = loops_at _ _ _ c.args.store c.loop_over.result.0 c.loop_over.result.1 c.loop_over.ensures.done

pub returns-in-Err-clause-kept : goal.returns-in-Err-clause-kept
returns-in-Err-clause-kept g c = kept_none c.args.store

pub returns-in-Ok-clause-bad : goal.returns-in-Ok-clause-bad
returns-in-Ok-clause-bad g c = λ number is. bad_at _ _ _ c.args.store c.loop_over.result.0 number (c.loop_over.ensures.bad number is)

pub returns-in-Ok-clause-failed : goal.returns-in-Ok-clause-failed
returns-in-Ok-clause-failed g c = λ is. inr (lost_on _ _ _ _ c.args.store c.loop_over.result.0 c.loop_over.new.link (c.loop_over.ensures.lost is))

pub returns-in-Ok-clause-unread : goal.returns-in-Ok-clause-unread
returns-in-Ok-clause-unread g c = λ is. through_all _ _ c.args.store c.loop_over.result.0 (c.loop_over.ensures.unread is)
