use Rattle.std.proofs.Common.{◌≡◌, ◌≤◌, vec_len, vec_capacity}
use Rattle.audit_base.specs.Hashes.{first_hashes}
use Rattle.audit_base.proofs.hashes.read_hashes.Given as goal

abbrev pub invariant-loop-place : goal.invariant-loop-place
invariant-loop-place l = record {
  items : l.hashes.items ≡ first_hashes l.place l.bytes;
  len : vec_len l.hashes ≡ l.place;
  room : l.number ≤ vec_capacity l.hashes;
}
