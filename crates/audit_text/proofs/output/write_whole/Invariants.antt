use Rattle.audit_text.proofs.Writing.{IsWrittenUpTo}
use Rattle.audit_text.proofs.output.write_whole.Given as goal

-- the text was written except for the rest
abbrev pub invariant-loop : goal.invariant-loop
invariant-loop g l = record { written : IsWrittenUpTo (g.W.Write.contents l.fn.writer) (g.W.Write.contents l.writer) l.rest l.text }
