use Rattle.audit_server.proofs.Steps.{drive_none, drive_more, drive_first, drive_all, drive_stopped, drive_broken, drive_cause}
use Rattle.audit_server.proofs.Durably.{all_durably, drive_durably}
use Rattle.audit_server.proofs.driving.drive.Goals as goal

pub loop-number-init : goal.loop-number-init
loop-number-init g c = drive_none c.args.steps.now c.args.core.now

pub loop-number-preserved : goal.loop-number-preserved
loop-number-preserved g c = drive_more _ c.loop-number.invariant c.loop-number-test.true (λ broken. let none = c.in_default.ensures.broken broken in absurd (cc none.0)) c.in_default.ensures.done

pub returns-in-Err-clause-broken : goal.returns-in-Err-clause-broken
returns-in-Err-clause-broken g c = λ broken. drive_first c.in-Err.fault c.loop-number.invariant c.loop-number-test.true c.in-Err.ensures.broken broken

pub returns-clause-broken : goal.returns-clause-broken
returns-clause-broken g c = λ broken. drive_all c.loop-number.invariant c.loop-number-test.false broken

pub returns-in-Err-clause-stopped : goal.returns-in-Err-clause-stopped
returns-in-Err-clause-stopped g c = λ sound. drive_stopped _ c.in-Err.fault c.loop-number.invariant c.loop-number-test.true c.in-Err.ensures.refused sound

pub returns-in-Err-clause-durable : goal.returns-in-Err-clause-durable
returns-in-Err-clause-durable g c = drive_durably _ _ c.in-Err.fault c.loop-number.invariant c.loop-number-test.true c.in-Err.ensures.durable

pub returns-in-Err-clause-device : goal.returns-in-Err-clause-device
returns-in-Err-clause-device g c = drive_broken c.in-Err.fault c.loop-number.invariant c.in-Err.ensures.broken c.in-Err.ensures.device

pub returns-clause-durable : goal.returns-clause-durable
returns-clause-durable g c = all_durably c.args.core.now c.loop-number.core c.loop-number.invariant c.loop-number-test.false

pub returns-in-Err-clause-cause : goal.returns-in-Err-clause-cause
returns-in-Err-clause-cause g c = drive_cause c.do_step.new.core c.in-Err.fault.error c.loop-number.invariant c.in-Err.ensures.cause
