-- Zero bytes.
use Rattle.std.proofs.Common.{◌≡◌, ℕ, List, length, get_or, EachIndex, replicate, sym, ap, ◌∙◌}
use Rattle.std.proofs.lemmas.List.{ext_get_or, get_or-replicate, length-replicate}
use Rattle.audit_base.specs.Bytes.{zeros}

pub length-zeros : (n : ℕ) → length (zeros n) ≡ n
unfolding zeros
length-zeros n = length-replicate n 0

-- bytes each of which is zero are a list of zeros
pub zeros-each : (bytes : List ℕ) → EachIndex bytes (λ k. get_or bytes k 0 ≡ 0) → bytes ≡ zeros (length bytes)
unfolding zeros
zeros-each bytes each =
    ext_get_or 0 bytes (replicate (length bytes) 0) (sym (length-replicate (length bytes) 0)) (λ k lt. each k lt ∙ sym (get_or-replicate (length bytes) k 0 0 lt))

pub each-zeros : (bytes : List ℕ) → bytes ≡ zeros (length bytes) → EachIndex bytes (λ k. get_or bytes k 0 ≡ 0)
unfolding zeros
each-zeros bytes all = λ k lt. ap (λ (same : List ℕ). get_or same k 0) all ∙ get_or-replicate (length bytes) k 0 0 lt
