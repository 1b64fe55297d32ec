use Rattle.std.proofs.Common.{◌<◌, length}
use Rattle.audit_text.proofs.Writing.{IsWrittenUpTo}
use Rattle.audit_wire_ask.proofs.conversation.send_rest.Given as goal

-- the bytes were written except for the rest, and there is one
abbrev pub invariant-loop : goal.invariant-loop
invariant-loop g l = record {
  written : IsWrittenUpTo (g.W.Write.contents l.fn.to) (g.W.Write.contents l.to) l.rest l.bytes;
  some : 0 < length l.rest;
}
