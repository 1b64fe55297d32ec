-- The bytes of proofs about a list of events.
use Rattle.std.specs.Prelude.{◌≡◌, ◌⊎◌, ◌<◌, ◌≤◌, ℕ, List, [], take, slice_index_or}
use Rattle.sha2.specs.Sha256.{sha256}
use Rattle.audit_chain.specs.Event.{EventData}
use Rattle.audit_chain.specs.Entries.{log_entries}
use Rattle.audit_tree.specs.Paths.{membership_path, increment_path}
use Rattle.audit_store_commit.specs.Headers.{log_leaves}
use Rattle.audit_proof.specs.ProofBytes.{Member, Increment as Incremental, member_bytes, increment_bytes}
use Rattle.audit_store.specs.Recovered.{IsOfDeviceOrMemory}
use Rattle.audit_cli_base.specs.declared.arguments.ProofRequest.{ProofRequest}
use Rattle.audit_cli_base.specs.declared.arguments.ProofRequest.TheVariants as asked
use Rattle.audit_cli_base.specs.declared.fault.CommandError.{CommandError}
use Rattle.audit_cli_base.specs.declared.fault.CommandError.TheVariants.{Refused}

-- that an event is one of the first `count`: the siblings on its path to their root, and its entry
abbrev pub member_of_log : List ℕ → List EventData → ℕ → ℕ → Member
member_of_log first_key events index count = record {
  index = index;
  count = count;
  hashes = membership_path sha256 (log_leaves first_key (take count events)) index;
  entry = slice_index_or (log_entries first_key events) index [];
}

-- that the first `newer` events begin with the first `older`
abbrev pub increment_of_log : List ℕ → List EventData → ℕ → ℕ → Incremental
increment_of_log first_key events older newer = record {
  older = older;
  newer = newer;
  hashes = increment_path sha256 (log_leaves first_key (take newer events)) older;
}

-- the bytes of the requested proof
abbrev pub proof_of_log : List ℕ → List EventData → ProofRequest → List ℕ
proof_of_log first_key events (asked.Member index count) = member_bytes (member_of_log first_key events index count)
proof_of_log first_key events (asked.Increment older newer) =
    increment_bytes (increment_of_log first_key events older newer)

-- a log of `held` events has no such proof
abbrev pub AsksOutside : ProofRequest → ℕ → Type 0
AsksOutside (asked.Member index count) held = (count ≤ index) ⊎ (held < count)
AsksOutside (asked.Increment older newer) held = (older ≡ 0) ⊎ (newer < older) ⊎ (held < newer)

-- the device failed, or memory was refused
abbrev pub IsDeviceOrMemory : CommandError → Type 0
IsDeviceOrMemory (Refused error) = IsOfDeviceOrMemory error
IsDeviceOrMemory _ = ⊥
