use Rattle.std.proofs.Common.{inl, inr, refl}
use Rattle.audit_verify_saved.specs.Saved.{shown}
use Rattle.audit_c.proofs.resuming.audit_store_verify_state.Goals as goal

pub returns-in_default : goal.returns-in_default
returns-in_default c = inr ((refl, refl), rw c.in_default.is at c.read_saved.ensures)

pub returns : goal.returns
returns c = inl (refl, shown c.in-Some.saved, rw c.in-Some.is at c.read_saved.ensures, c.begin.ensures)
