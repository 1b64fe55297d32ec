use Rattle.audit_cli_base.proofs.Blank.{LooksBlank}
use Rattle.audit_cli_base.proofs.files.is_blank.Given as goal

-- the sectors so far were zeros
abbrev pub invariant-loop-at : goal.invariant-loop-at
invariant-loop-at g l = record {
  looks : LooksBlank (g.D.Sectors.view l.fn.disk) (g.D.Sectors.view l.disk) l.at;
}
