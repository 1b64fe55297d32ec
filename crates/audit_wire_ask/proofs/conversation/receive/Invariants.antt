use Rattle.std.proofs.Common.{◌<◌, length, take}
use Rattle.std.specs.Io.KnownBytes.{Consumes}
use Rattle.audit_wire_ask.proofs.conversation.receive.Given as goal

-- the first bytes of the buffer were read, and some are left
abbrev pub invariant-loop : goal.invariant-loop
invariant-loop g l = record {
  read : Consumes (g.R.Read.remaining l.fn.from) (g.R.Read.remaining l.from) (take l.filled l.buffer);
  some : l.filled < length l.buffer;
}
