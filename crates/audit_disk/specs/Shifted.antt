-- A device inside one that doesn't pass on every call. The outer clock counts missed calls too.
use Rattle.std.specs.Prelude.{◌≡◌, ℕ, ◌-◌, ◌<◌, min, max}

-- The moment of the inner clock. Missed calls were made when the inner clock stood at `place`.
abbrev pub inner_moment : ℕ → ℕ → ℕ → ℕ
inner_moment place missed moment = min moment (max place (moment - missed))

-- a call may be missed: none was missed before, or no call has passed since
abbrev pub MayMiss : ℕ → ℕ → ℕ → Type 0
MayMiss place missed clock = 0 < missed → place ≡ clock
