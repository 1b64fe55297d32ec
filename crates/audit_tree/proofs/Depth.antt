-- The depth of a count is the least at which a tree holds that many leaves.
use Rattle.std.proofs.Common.{◌≡◌, ℕ, zero, suc, ◌^◌, ◌<◌, ◌≤◌, leb, cond, arith, inl, inr}
use Rattle.std.proofs.lemmas.Bool.{cases_Bool, cases_lt, leb-true, leb-false}
use Rattle.std.proofs.Math.Nat.{pow-suc}
use Rattle.std.proofs.Math.Pow.{pow_mono, pow_pos}
use Rattle.audit_tree.specs.Subtree.{depth, IsLeastDepth}

-- one leaf more than a tree of depth d holds
abbrev grown : ℕ → ℕ → ℕ
grown count d = cond (leb (suc count) (2 ^ d)) d (suc d)

grown-room : (count d : ℕ) → count ≤ 2 ^ d → suc count ≤ 2 ^ grown count d
grown-room count d h =
    elim (cases_Bool (leb (suc count) (2 ^ d))) [
      | inl fits ↦ rw fits (leb-true _ _ fits)
      | inr full ↦ rw full (omega (arith, h, pow_pos d, pow-suc 2 d))
    ]

grown-least : (count d e : ℕ) → d ≤ e → suc count ≤ 2 ^ e → grown count d ≤ e
grown-least count d e h room =
    elim (cases_Bool (leb (suc count) (2 ^ d))) [
      | inl fits ↦ rw fits h
      | inr full ↦ rw full (elim (cases_lt d e) [
        | inl below ↦ omega arith
        | inr above ↦ absurd (omega (arith, leb-false _ _ full, pow_mono above))
      ])
    ]

pub depth-room : (count : ℕ) → count ≤ 2 ^ depth count
unfolding depth
depth-room zero = omega arith
depth-room (suc count) = grown-room count (depth count) (depth-room count)

pub depth-least : (count e : ℕ) → count ≤ 2 ^ e → depth count ≤ e
unfolding depth
depth-least zero e h = omega arith
depth-least (suc count) e h = grown-least count (depth count) e (depth-least count e (omega arith)) h

pub depth-IsLeastDepth : (count : ℕ) → IsLeastDepth count (depth count)
depth-IsLeastDepth count = record { room = depth-room count; least = depth-least count }

-- the depth that is large enough, if one less isn't
pub depth_is : (count d : ℕ) → 2 ^ d < count → count ≤ 2 ^ suc d → depth count ≡ suc d
depth_is count d over room =
    let most : depth count ≤ suc d = depth-least count (suc d) room in
    elim (cases_lt d (depth count)) [
      | inl below ↦ omega arith
      | inr above ↦ absurd (omega (arith, depth-room count, pow_mono above))
    ]
