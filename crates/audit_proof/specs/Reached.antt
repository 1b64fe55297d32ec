-- What a climb in the code has reached, in the terms of the definitions.
use Rattle.std.specs.Prelude.{ℕ, List, Option, option_map, drop}
use Rattle.audit_proof.specs.declared.climb.Reached.{Reached}
use Rattle.audit_proof.specs.Climb.{Climbed}

-- the value, and the hashes after those that were used
abbrev pub climbed_of : {V : Type 0} → List (List ℕ) → Option (Reached V) → Climbed V
climbed_of hashes top = option_map (λ t. (t.value, drop t.used hashes)) top
