-- A law of moments of an inner device.
use Rattle.std.specs.Prelude.{◌≡◌, ℕ, ◌+◌, ◌≤◌}
use Rattle.std.proofs.Common.{arith}
use Rattle.audit_disk.specs.Shifted.{inner_moment}

pub inner_moment_now : (place missed clock : ℕ) → place ≤ clock → inner_moment place missed (clock + missed) ≡ clock
inner_moment_now place missed clock le = omega arith
