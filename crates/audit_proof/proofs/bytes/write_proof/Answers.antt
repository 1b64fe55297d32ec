use Rattle.std.proofs.Common.{◌≡◌, ◌<◌, ◌++◌, ◌∷◌, [], ℕ, List, length, get_or, ap, ◌∙◌}
use Rattle.std.specs.List.{concat}
use Rattle.std.proofs.lemmas.List.{append_assoc}
use Rattle.std.proofs.lemmas.List.Elements.{All-from_get_or}
use Rattle.audit_base.specs.Hashes.{AreHashes}
use Rattle.audit_base.specs.declared.limits.TheConstants.{HASH_LEN}
use Rattle.audit_proof.specs.ProofBytes.{proof_bytes, number_bytes}
use Rattle.audit_proof.proofs.bytes.write_proof.Goals as goal

-- pieces appended one after another
joined : (mark count : ℕ) (first second hashes after : List ℕ) →
    ((mark ∷ (first ++ (second ++ count ∷ []))) ++ hashes) ++ after
    ≡ mark ∷ (first ++ (second ++ (count ∷ (hashes ++ after))))
joined mark count first second hashes after = simp append_assoc

-- hashes by what is known of each
whole : (hashes : List (List ℕ)) → ((k : ℕ) → k < length hashes → length (get_or hashes k []) ≡ HASH_LEN) → AreHashes hashes
whole hashes each = All-from_get_or (λ hash. length hash ≡ HASH_LEN) hashes [] each

pub returns-clause-ok : goal.returns-clause-ok
unfolding proof_bytes
returns-clause-ok c =
    let a = c.args in
    let head = a.mark ∷ (number_bytes a.first ++ (number_bytes a.second ++ (length a.hashes.now ∷ []))) in
    c.in_ok-extend_from_slice.ensures.items
    ∙ ap (λ bs. bs ++ a.after.now)
    (c.in_ok-push_hashes.ensures
    ∙ ap (λ bs. bs ++ concat a.hashes.now)
    (c.in_ok-push_head.ensures ∙ ap (λ bs. bs ++ head) c.in_ok-bytes.ensures.items))
    ∙ joined a.mark (length a.hashes.now) (number_bytes a.first) (number_bytes a.second) (concat a.hashes.now) a.after.now

pub returns-in_err-bytes-clause-whole : goal.returns-in_err-bytes-clause-whole
returns-in_err-bytes-clause-whole c = whole c.args.hashes.now c.told-hashes

pub returns-in_err-push_head-clause-whole : goal.returns-in_err-push_head-clause-whole
returns-in_err-push_head-clause-whole c = whole c.args.hashes.now c.told-hashes

pub returns-in_err-push_hashes-clause-whole : goal.returns-in_err-push_hashes-clause-whole
returns-in_err-push_hashes-clause-whole c = whole c.args.hashes.now c.told-hashes

pub returns-in_err-extend_from_slice-clause-whole : goal.returns-in_err-extend_from_slice-clause-whole
returns-in_err-extend_from_slice-clause-whole c = whole c.args.hashes.now c.told-hashes

pub returns-clause-whole : goal.returns-clause-whole
returns-clause-whole c = whole c.args.hashes.now c.told-hashes
