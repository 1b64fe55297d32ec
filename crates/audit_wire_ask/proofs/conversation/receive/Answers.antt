use Rattle.std.proofs.Common.{arith}
use Rattle.std.proofs.lemmas.Grind.{common_steps}
use Rattle.audit_wire_ask.proofs.Conversations.{consumes_taken}
use Rattle.audit_wire_ask.proofs.conversation.receive.Goals as goal

pub loop-preserved : goal.loop-preserved
loop-preserved g c = record {
  read = consumes_taken _ _ _ _ _ _ _ _ (omega arith) c.in_ok-read.ensures.within c.loop.invariant.read c.in_ok-read.ensures.read;
  some = grind (arith, common_steps);
}
