use Rattle.std.proofs.Common.{Some, Ok, List, ℕ, subst}
use Rattle.audit_cli_rotate.specs.Rotated.{RotationOutcome}
use Rattle.audit_cli_rotate.proofs.files.make_on.Goals as goal

pub returns-in_ok-give_name-in-Ok-clause-rotated : goal.returns-in_ok-give_name-in-Ok-clause-rotated
returns-in_ok-give_name-in-Ok-clause-rotated g c = (
  c.in-Ok._made,
  subst (λ (none : List ℕ). RotationOutcome (g.E.Sectors.view c.args.made.content) c.args.first_key c.args.old.now c.rotate.new.old (Some none) (Some c.rotate.new.writer.items) (Ok c.in-Ok._made)) c.new-lines.ensures.items c.in-Ok.ensures.outcome,
)
