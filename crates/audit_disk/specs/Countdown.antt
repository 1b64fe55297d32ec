-- Which call of a device fails.
use Rattle.std.specs.Prelude.{ℕ, zero, suc, Bool, true, false, Option, Some, None}

-- the countdown after one more call: how many calls pass before the one that fails, or None once it was made
abbrev pub one_less : Option ℕ → Option ℕ
one_less None = None
one_less (Some zero) = None
one_less (Some (suc calls)) = Some calls

-- the next call isn't the one that fails
abbrev pub is_passing : Option ℕ → Bool
is_passing None = true
is_passing (Some zero) = false
is_passing (Some (suc calls)) = true
