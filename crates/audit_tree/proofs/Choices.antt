-- Choices that depend on a test of numbers.
use Rattle.std.proofs.Common.{◌≡◌, ℕ, ◌<◌, ◌≤◌, cond, leb, ltb, refl}
use Rattle.std.proofs.lemmas.Bool.{le-leb, lt-leb, lt-ltb, le-ltb}

module _ {X : Type 0} where
  pub cond-le : (a b : ℕ) (x y : X) → a ≤ b → cond (leb a b) x y ≡ x
  cond-le a b x y h = rw (le-leb a b h) refl

  pub cond-gt : (a b : ℕ) (x y : X) → b < a → cond (leb a b) x y ≡ y
  cond-gt a b x y h = rw (lt-leb a b h) refl

  pub cond-lt : (a b : ℕ) (x y : X) → a < b → cond (ltb a b) x y ≡ x
  cond-lt a b x y h = rw (lt-ltb a b h) refl

  pub cond-ge : (a b : ℕ) (x y : X) → b ≤ a → cond (ltb a b) x y ≡ y
  cond-ge a b x y h = rw (le-ltb a b h) refl
