-- A device as seen from outside one that doesn't pass on every call.
use Rattle.std.specs.Prelude.{ℕ, ◌+◌, ◌^◌, ◌<◌, ◌≤◌}
use Rattle.std.proofs.Common.{sym, subst}
use Rattle.audit_disk_model.specs.View.{View}
use Rattle.audit_disk.specs.Shifted.{inner_moment}
use Rattle.audit_disk.specs.ShiftedLaws.{inner_moment_now}

-- the inner device as seen from outside, after it missed some calls at a place of its clock, and some failures
abbrev pub shifted : (inner : View) (place missed refused : ℕ) → place ≤ inner.clock → inner.clock + missed < 2 ^ 64
    → View
shifted inner place missed refused in_step fits = record {
  size = inner.size;
  content = inner.content;
  clock = inner.clock + missed;
  left_at = λ moment image. inner.left_at (inner_moment place missed moment) image;
  failures = inner.failures + refused;
  honest = inner.honest;
  size_fits = inner.size_fits;
  clock_fits = fits;
  content_left = λ honest.
      subst (λ (moment : ℕ). inner.left_at moment inner.content)
      (sym (inner_moment_now place missed inner.clock in_step)) (inner.content_left honest);
  whole = λ honest moment image left. inner.whole honest (inner_moment place missed moment) image left;
}
