use Rattle.std.proofs.Common.{rules, arith, length, ◌≡◌, ◌∙◌, sym, ap, take, drop}
use Rattle.std.proofs.lemmas.List.{take_at, drop_at}
use Rattle.audit_link.proofs.Opened.{starts_with, size_of_first}
use Rattle.audit_link.proofs.codec.split_entries.Goals as goal

pub returns-then-size-bytes : goal.returns-then-size-bytes
returns-then-size-bytes c = λ first second is same.
    let size = size_of_first first is.0 c.in-Ok.view c.read_entry.result (search rules) (c.read_entry.ensures.only is.0 (starts_with c.args.bytes.now first second is.0 is.1 same)) is.1 in
    let long : length first ≡ c.size-size.result = sym (c.size-size.ensures.size ∙ size) in (
      c.split_at.ensures.front ∙ ap (take c.size-size.result) same ∙ take_at first second c.size-size.result long,
      c.split_at.ensures.back ∙ ap (drop c.size-size.result) same ∙ drop_at first second c.size-size.result long,
    )

pub returns-in-Err : goal.returns-in-Err
returns-in-Err c = λ first second is same. let e = c.read_entry.ensures.only is.0 (starts_with c.args.bytes.now first second is.0 is.1 same) in absurd (grind arith)
