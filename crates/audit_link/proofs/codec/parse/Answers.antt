use Rattle.std.proofs.Common.{◌∙◌, ◌*◌, ◌-◌, ap, arith, take, drop, length, get_or}
use Rattle.std.proofs.lemmas.List.{take_rest}
use Rattle.audit_base.specs.Hashes.{first_hashes}
use Rattle.audit_link.proofs.Places.{has_parts}
use Rattle.audit_link.proofs.codec.parse.Goals as goal

pub returns-then-bytes-lt-HEAD_LEN : goal.returns-then-bytes-lt-HEAD_LEN
returns-then-bytes-lt-HEAD_LEN c = λ link spells. let parts = has_parts c.args.bytes.now link spells in omega (arith, parts.long)

pub returns-then-body-number : goal.returns-then-body-number
returns-then-body-number c = λ link spells. let parts = has_parts c.args.bytes.now link spells in omega (arith, parts.long, parts.number)

pub returns : goal.returns
returns c = λ link spells.
    let parts = has_parts c.args.bytes.now link spells in
    let body = take_rest c.args.bytes.now 2 in
    c.parse_rest.ensures link spells.link_is
    (c.in_ok-hashes.ensures ∙ ap (λ n. first_hashes n (take (length c.args.bytes.now - 2) (drop 2 c.args.bytes.now))) parts.number ∙ ap (first_hashes (length link.hashes)) body ∙ parts.hashes)
    (take_rest (take (length c.args.bytes.now - 2) (drop 2 c.args.bytes.now)) (32 * get_or c.args.bytes.now 1 0)
    ∙ ap (λ n. drop (32 * n) (take (length c.args.bytes.now - 2) (drop 2 c.args.bytes.now))) parts.number
    ∙ ap (drop (32 * length link.hashes)) body ∙ parts.rest)
