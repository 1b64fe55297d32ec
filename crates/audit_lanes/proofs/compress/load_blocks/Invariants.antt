use Rattle.std.proofs.Common.{◌≡◌, ℕ, ◌<◌, length, slice_index, ◌*◌}
use Rattle.sha2.specs.Sha256.{word_at}
use Rattle.audit_lanes.specs.Lanes.{lane, of_four}
use Rattle.audit_lanes.proofs.compress.load_blocks.Given as goal

abbrev pub invariant-load : goal.invariant-load
invariant-load l =
    (length l.w ≡ 16)
    × ((k : ℕ) → k < 4 → (i : ℕ) → i < l.i → slice_index (lane k l.w) i ≡ word_at (of_four l.a l.b l.c l.d k) (4 * i))
