-- The outcome of two climbs on one path that begin with different values.
use Rattle.std.specs.Prelude.{◌≡◌, ◌≢◌, ◌≤◌, ◌⊎◌, ℕ, List, None, Some, length}
use Rattle.audit_proof.specs.declared.meeting.Meeting.{Meeting}
use Rattle.audit_proof.specs.declared.meeting.Meeting.TheVariants.{Met, Apart, Lost}
use Rattle.audit_proof.specs.declared.climb.Reached.{Reached}
use Rattle.audit_proof.specs.Climb.{Climbed}
use Rattle.audit_proof.specs.Collision.{IsCollision}
use Rattle.audit_proof.specs.Reached.{climbed_of}

-- two climbs have reached these different values
pub record IsApart (lefts rights : List (List ℕ)) (over_left over_right : Climbed (List ℕ))
    (left right : Reached (List ℕ)) : Type 0 where
  pub left_reached : over_left ≡ climbed_of lefts (Some left)
  pub right_reached : over_right ≡ climbed_of rights (Some right)
  pub left_used : left.used ≤ length lefts
  pub right_used : right.used ≤ length rights
  pub different : left.value ≢ right.value

-- the outcome of two climbs over these hashes
abbrev pub IsMeeting : (List ℕ → List ℕ) → List (List ℕ) → List (List ℕ) → Climbed (List ℕ) → Climbed (List ℕ)
    → Meeting → Type 0
IsMeeting H lefts rights over_left over_right (Met c) = IsCollision H c.left.items c.right.items
IsMeeting H lefts rights over_left over_right (Apart left right) = IsApart lefts rights over_left over_right left right
IsMeeting H lefts rights over_left over_right Lost = (over_left ≡ None) ⊎ (over_right ≡ None)
