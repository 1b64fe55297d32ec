use Rattle.std.proofs.Common.{length, ap, arith}
use Rattle.audit_serve_ready.proofs.Bounds.{accounted_length}
use Rattle.audit_serve_ready.proofs.turns.write_turn.Goals as goal

pub returns-clause-done : goal.returns-clause-done
returns-clause-done g c = (c.take_output-output.result.items, c.take_output-output.ensures.did, c.send.ensures)

pub returns-clause-kept : goal.returns-clause-kept
returns-clause-kept g c =
    omega (arith, accounted_length g.S.ReadyStream.calls c.take_output-output.result.items c.send.ensures.calls c.args.slot.now c.send.new.self c.send.ensures.accounted, ap length c.take_output-output.ensures.taken)

pub returns-clause-unread : goal.returns-clause-unread
returns-clause-unread g c = c.send.ensures.unread

pub returns-clause-mute : goal.returns-clause-mute
returns-clause-mute g c = c.send.ensures.accounted.mute
