-- Laws of counts of moved bytes.
use Rattle.std.specs.Prelude.{◌≡◌, ℕ, ◌+◌, List, [], ◌∷◌, ◌++◌}
use Rattle.std.proofs.Common.{refl, sym, ap, ◌∙◌}
use Rattle.audit_serve_passes.specs.Streams.{StreamCall}
use Rattle.audit_serve_door.specs.Moves.{count_after_call, count_after_calls}

pub counted_both : (count : ℕ) (calls later : List StreamCall)
    → count_after_calls count (calls ++ later) ≡ count_after_calls (count_after_calls count calls) later
counted_both count [] later = refl
counted_both count (call ∷ calls) later = counted_both (count_after_call count call) calls later

pub counted_more : (old mid new : ℕ) (calls later : List StreamCall) → mid ≡ count_after_calls old calls
    → new ≡ count_after_calls mid later → new ≡ count_after_calls old (calls ++ later)
counted_more old mid new calls later first second =
    second ∙ ap (λ count. count_after_calls count later) first ∙ sym (counted_both old calls later)
