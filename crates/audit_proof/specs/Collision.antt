-- A collision of a hash function: two different texts with one value.
use Rattle.std.specs.Prelude.{◌≡◌, ◌≢◌, ℕ, List}

pub record IsCollision (H : List ℕ → List ℕ) (left right : List ℕ) : Type 0 where
  pub different : left ≢ right
  pub same : H left ≡ H right
