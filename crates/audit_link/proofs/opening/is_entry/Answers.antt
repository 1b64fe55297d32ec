use Rattle.std.proofs.Common.{rules, arith, length, ◌≡◌, ◌∙◌}
use Rattle.std.proofs.lemmas.Bool.{eq-eqb, eqb-true}
use Rattle.audit_link.proofs.Opened.{begins_with, as_long, whole}
use Rattle.audit_link.proofs.opening.is_entry.Goals as goal

pub returns-in-Ok : goal.returns-in-Ok
returns-in-Ok c = (
  λ same. (c.in-Ok.view, whole c.args.bytes.now c.in-Ok.view c.size.result c.in-Ok.ensures.found c.size.ensures.size (eqb-true c.size.result (length c.args.bytes.now) same)),
  λ found.
      let long : c.size.result ≡ length c.args.bytes.now =
      c.size.ensures.size ∙ as_long c.args.bytes.now c.in-Ok.view found.0 c.read_entry.result (search rules) (c.read_entry.ensures.only found.0 (begins_with c.args.bytes.now found.0 found.1)) found.1 in
      eq-eqb c.size.result (length c.args.bytes.now) long,
)

pub returns-in-Err : goal.returns-in-Err
returns-in-Err c = (
  λ impossible. absurd (let h = impossible in cc),
  λ found. let e = c.read_entry.ensures.only found.0 (begins_with c.args.bytes.now found.0 found.1) in absurd (grind arith),
)
