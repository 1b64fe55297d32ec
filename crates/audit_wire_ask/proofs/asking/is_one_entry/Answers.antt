use Rattle.std.proofs.Common.{sym, ◌∙◌, length, rules, arith}
use Rattle.audit_wire_ask.proofs.OneEntry.{alone, begins_with, as_long, same_number, is_same}
use Rattle.audit_wire_ask.proofs.asking.is_one_entry.Goals as goal

pub returns-in-Ok : goal.returns-in-Ok
returns-in-Ok c = (
  λ same. alone c.args.bytes.now c.in-Ok.entry c.in-Ok.ensures.found (sym c.size.ensures.size ∙ same_number c.size.result (length c.args.bytes.now) same),
  λ one. is_same c.size.result (length c.args.bytes.now) (c.size.ensures.size ∙ as_long c.args.bytes.now c.in-Ok.entry c.read_entry.result (search rules) c.read_entry.ensures.only one),
)

pub returns-in-Err : goal.returns-in-Err
returns-in-Err c = (λ no. absurd (grind arith), λ one. let e = c.read_entry.ensures.only one.0 (begins_with c.args.bytes.now one) in absurd (grind arith))
