use Rattle.std.proofs.Common.{◌≡◌, length, map}
use Rattle.audit_base.specs.declared.limits.TheConstants.{SESSIONS}
use Rattle.audit_test_serve.proofs.Replying.{Replying}
use Rattle.audit_test_serve.proofs.recorder.Recorder.reply.Given as goal

abbrev pub invariant-loop-session : goal.invariant-loop-session
invariant-loop-session l =
    let i = l.self-inside in
    Replying l.fn.self l.session i.ended i.fed (map (λ v. v.items) i.outputs.items) × (length i.outputs.items ≡ SESSIONS)
