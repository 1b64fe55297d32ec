use Rattle.std.proofs.Common.{inl, sym, rules}
use Rattle.audit_serve_door.proofs.Waiters.{true_false}
use Rattle.audit_serve_door.proofs.waiting.put.Goals as goal

pub returns-in-Ok-Some : goal.returns-in-Ok-Some
returns-in-Ok-Some g c = record {
  others = search rules;
  added = λ same. true_false (sym same);
  lost = λ same. inl (c.in-Ok-Some.field-0-0, search rules, search rules);
}
