use Rattle.std.proofs.Common.{rules, arith, length, ◌≡◌, ◌∙◌}
use Rattle.audit_link.proofs.Opened.{begins_with, as_long}
use Rattle.audit_link.proofs.opening.open_entry.Goals as goal

pub returns-in_default : goal.returns-in_default
returns-in_default c = λ parts is. let e = c.read_entry.ensures.only parts (begins_with c.args.entry.now parts is) in absurd (grind arith)

pub returns-then-size-entry : goal.returns-then-size-entry
returns-then-size-entry c = λ parts is.
    let same : c.size.result ≡ length c.args.entry.now =
    c.size.ensures.size ∙ as_long c.args.entry.now c.in-Ok.view parts c.read_entry.result (search rules) (c.read_entry.ensures.only parts (begins_with c.args.entry.now parts is)) is in
    absurd (grind (arith, same, c.if-size-entry.true))
