use Rattle.std.proofs.Common.{◌≡◌, ◌++◌, [], get_or, take, sym, ap, ◌∙◌}
use Rattle.std.specs.List.{concat}
use Rattle.std.proofs.lemmas.List.{take_more, append_assoc}
use Rattle.audit_proof.proofs.WrittenBytes.{concat-push}
use Rattle.audit_link.proofs.codec.push_hashes.Goals as goal

pub loop-hash-preserved : goal.loop-hash-preserved
loop-hash-preserved c =
    let l = c.loop-hash in
    let hash = get_or c.args.hashes.now l.hash-index [] in
    let e = c.in_ok-extend_from_slice.ensures.items in
    let next : c.extend_from_slice.new.self.items ≡ l.bytes.items ++ hash = e in
    next
    ∙ ap (λ bs. bs ++ hash) l.invariant
    ∙ append_assoc c.args.bytes.now.items (concat (take l.hash-index c.args.hashes.now)) hash
    ∙ ap (λ bs. c.args.bytes.now.items ++ bs)
    (sym (ap concat (take_more c.args.hashes.now l.hash-index [] c.loop-hash-test.true) ∙ concat-push (take l.hash-index c.args.hashes.now) hash))
