use Rattle.std.proofs.Common.{◌≡◌, ℕ, ◌<◌, ◌≤◌, ◌*◌, [], drop, slice_index, slice_index_or}
use Rattle.sha2.specs.Sha256.{digest_bytes, hash_after, initial_hash_256}
use Rattle.audit_lanes.specs.States.{hash_in_lane}
use Rattle.audit_lanes.specs.Messages.{message_in_lane}
use Rattle.audit_lanes.proofs.messages.Messages.digests.Given as goal

-- the blocks before i are taken into each hash value, and a message that has ended has its digest
abbrev pub invariant-turns : goal.invariant-turns
invariant-turns l = (k : ℕ) → k < 4 →
    let message = message_in_lane l.fn.self k in
    let count = slice_index l.counts k in
    (message_in_lane l.self k ≡ drop (64 * l.i) message)
    × (l.i ≤ count → hash_in_lane l.states k ≡ hash_after initial_hash_256 message l.i)
    × (count ≤ l.i → slice_index_or l.digests k [] ≡ digest_bytes (hash_after initial_hash_256 message count) 8)
