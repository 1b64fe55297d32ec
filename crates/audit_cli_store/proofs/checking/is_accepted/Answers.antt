use Rattle.std.proofs.Common.{inr, refl}
use Rattle.audit_cli_store.proofs.Checks.{judged_bytes, other_kind}
use Rattle.audit_cli_store.proofs.checking.is_accepted.Goals as goal

pub returns-in-Some : goal.returns-in-Some
returns-in-Some c = λ bytes spelled. judged_bytes c.args.proof.now bytes c.args.older.now c.args.newer _ spelled c.in-Some.ensures.0 c.in-Some.ensures.1

pub returns-in-None : goal.returns-in-None
returns-in-None c = λ bytes spelled. inr (refl, other_kind c.args.proof.now bytes c.args.newer spelled c.in-None.ensures)
