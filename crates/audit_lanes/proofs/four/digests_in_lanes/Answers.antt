use Rattle.std.proofs.Common.{◌≡◌, ℕ, ◌<◌, ◌/◌, [], length, slice_index, slice_index_or, arith, ap, ◌∙◌}
use Rattle.sha2.specs.Sha256.{digest_bytes, hash_after, initial_hash_256, padded_message, sha256}
use Rattle.audit_lanes.specs.Lanes.{of_four}
use Rattle.audit_lanes.proofs.LaneLemmas.{below_four}
use Rattle.audit_lanes.proofs.Filling.{four_lists}
use Rattle.audit_lanes.proofs.four.digests_in_lanes.Goals as goal

pub returns : goal.returns
unfolding sha256
returns c =
    let whole : (k : ℕ) → k < 4 → of_four c.new.result c.new-2.result c.new-3.result c.new-4.result k ≡ padded_message (of_four c.args.a c.args.b c.args.c c.args.d k) =
    below_four _ c.new.ensures c.new-2.ensures c.new-3.ensures c.new-4.ensures in
    let each : (k : ℕ) → k < 4 → slice_index_or c.digests.result k [] ≡ sha256 (of_four c.args.a c.args.b c.args.c c.args.d k) = λ k l.
    c.digests.ensures k l
    ∙ ap (λ m. digest_bytes (hash_after initial_hash_256 m (slice_index c.args.counts.now k)) 8) (whole k l)
    ∙ ap (λ n. digest_bytes (hash_after initial_hash_256 (padded_message (of_four c.args.a c.args.b c.args.c c.args.d k)) n) 8) (c.requires k l) in
    four_lists c.digests.result _ _ _ _ (omega arith) (each 0 (omega arith)) (each 1 (omega arith)) (each 2 (omega arith)) (each 3 (omega arith))
