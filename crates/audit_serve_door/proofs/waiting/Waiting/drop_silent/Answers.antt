use Rattle.std.specs.Prelude.{if◌then◌else◌}
use Rattle.std.proofs.Common.{[], ◌∷◌, refl, ap, sym, rules}
use Rattle.audit_serve_door.proofs.Waiters.{drops_silent, passes_silent_same}
use Rattle.audit_serve_door.proofs.waiting.Waiting.drop_silent.Goals.{in-Some, in-None}
use Rattle.audit_serve_door.proofs.waiting.Waiting.drop_silent.Goals as goal

pub returns : goal.returns
returns g c = elim c.match-pop_first.branch [
  | in-Some w ↦ (w.in-Some.field-0.1 ∷ [], drops_silent w.in-Some.field-0.0 w.in-Some.field-0.1 c.args.self.now _ (search rules) (search rules) (search rules) refl refl, ap (λ is. if is then 1 else 0) (sym w.result-is))
  | in-None w ↦ ([], passes_silent_same c.args.self.now _ (search rules) refl refl, ap (λ is. if is then 1 else 0) (sym w.result-is))
]
