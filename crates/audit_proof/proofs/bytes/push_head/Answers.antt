use Rattle.std.proofs.Common.{◌≡◌, ◌++◌, ◌∷◌, [], ℕ, List, ap, ◌∙◌}
use Rattle.std.proofs.lemmas.List.{append_assoc}
use Rattle.audit_proof.specs.ProofBytes.{number_bytes}
use Rattle.audit_proof.proofs.bytes.push_head.Goals as goal

-- pieces that were added one after another
joined : (bytes : List ℕ) (mark count : ℕ) (first second : List ℕ) →
    (((bytes ++ mark ∷ []) ++ first) ++ second) ++ count ∷ []
    ≡ bytes ++ (mark ∷ (first ++ (second ++ count ∷ [])))
joined bytes mark count first second = simp append_assoc

pub returns : goal.returns
returns c =
    let a = c.args in
    c.in_ok-push-2.ensures.items
    ∙ ap (λ bs. bs ++ a.count ∷ [])
    (c.in_ok-extend_from_slice-2.ensures.items
    ∙ ap (λ bs. bs ++ c.number_to_bytes-2.result)
    (c.in_ok-extend_from_slice.ensures.items
    ∙ ap (λ bs. bs ++ c.number_to_bytes.result) c.in_ok-push.ensures.items))
    ∙ joined a.bytes.now.items a.mark a.count c.number_to_bytes.result c.number_to_bytes-2.result
    ∙ ap (λ n. a.bytes.now.items ++ a.mark ∷ (n ++ (c.number_to_bytes-2.result ++ (a.count ∷ [])))) c.number_to_bytes.ensures
    ∙ ap (λ n. a.bytes.now.items ++ a.mark ∷ (number_bytes a.first ++ (n ++ (a.count ∷ [])))) c.number_to_bytes-2.ensures
