use Rattle.std.proofs.Common.{◌≡◌, ◌++◌, ◌*◌, ◌-◌, ◌<◌, ℕ, length, get_or, take, drop, arith, sym, ap, ◌∙◌}
use Rattle.std.proofs.lemmas.List.{take_rest}
use Rattle.std.specs.List.{concat}
use Rattle.audit_base.specs.declared.limits.TheConstants.{HASH_LEN}
use Rattle.audit_proof.specs.declared.bytes.TheConstants.{HEAD_LEN, MEMBER_MARK}
use Rattle.audit_base.specs.Hashes.{first_hashes}
use Rattle.audit_base.proofs.HashRows.{length-first_hashes, concat-first_hashes}
use Rattle.audit_proof.proofs.ReadBytes.{bytes_from_head}
use Rattle.audit_proof.proofs.codec.read_member.Goals as goal

pub returns-clause-written : goal.returns-clause-written
returns-clause-written c =
    let head = c.in-Some.head in
    let body = drop HEAD_LEN c.args.bytes.now in
    let rest = take_rest c.args.bytes.now HEAD_LEN in
    let small : (i : ℕ) → get_or c.args.bytes.now i 0 < 256 = λ i. omega (arith, c.type_inv.bytes i) in
    let hashes : c.in_ok-hashes.hashes.items ≡ first_hashes head.number body =
    c.in_ok-hashes.ensures ∙ ap (first_hashes head.number) rest in
    let entry : c.in_ok-entry.entry.items ≡ drop (HASH_LEN * head.number) body =
    c.in_ok-entry.ensures.items ∙ take_rest (take (length c.args.bytes.now - HEAD_LEN) body) (HASH_LEN * head.number) ∙ ap (drop (HASH_LEN * head.number)) rest in
    bytes_from_head MEMBER_MARK c.args.bytes.now head c.in_ok-hashes.hashes.items c.in_ok-entry.entry.items
    (sym c.in-Some.ensures.head) small
    (ap length hashes ∙ length-first_hashes head.number body)
    (ap (λ hs. concat hs ++ c.in_ok-entry.entry.items) hashes
    ∙ ap (λ bs. concat (first_hashes head.number body) ++ bs) entry
    ∙ concat-first_hashes head.number body)
