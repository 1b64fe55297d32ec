use Rattle.std.proofs.Common.{◌≡◌, ◌+◌, ◌≤◌, ◌<◌, ℕ, List, ◌++◌, length, get_or, take, ap, ◌∙◌, arith, rules}
use Rattle.std.proofs.lemmas.List.{get_or_read, take_rest}
use Rattle.audit_wire.proofs.Filling.{size_at, fills}
use Rattle.audit_wire.proofs.decoder.take_up.Goals as goal

pub returns-clause-taken : goal.returns-clause-taken
returns-clause-taken c =
    let front = c.fill-of_length.new.frame.items in
    let has : 2 ≤ length front = search rules in
    let high : c.index.result.now ≡ get_or front 0 0 = get_or_read front 0 c.index.result.now (omega arith) c.index.ensures 0 in
    let low : c.index-2.result.now ≡ get_or front 1 0 = get_or_read front 1 c.index-2.result.now (omega arith) c.index-2.ensures 0 in
    let size : c.from_be_bytes-size.result ≡ size_at front = omega (arith, c.from_be_bytes-size.ensures) in
    let high_fits : c.index.result.now < 256 = search rules in
    let low_fits : c.index-2.result.now < 256 = search rules in
    let reaches : 2 + c.from_be_bytes-size.result ≤ length c.fill-of_body.new.frame.items = search rules in
    let items = c.fill-of_body.ensures.items ∙ ap (λ (rest : List ℕ). front ++ take c.fill-of_body.result rest) (take_rest c.args.piece.now c.fill-of_length.result) in
    fills c.args.frame.now.items c.args.piece.now front c.fill-of_body.new.frame.items c.fill-of_length.result c.fill-of_body.result
    c.requires.begun c.fill-of_length.ensures.taken c.fill-of_length.ensures.items has (omega arith, omega arith) (search (rules, size)) items (omega arith) (omega arith) (omega arith)
