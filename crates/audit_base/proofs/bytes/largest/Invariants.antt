use Rattle.std.proofs.Common.{◌≡◌, ◌↔◌, ◌<◌, ℕ, get_or}
use Rattle.audit_base.proofs.bytes.largest.Given as goal

-- the largest byte so far is zero if and only if every byte so far is
abbrev pub invariant-loop-byte : goal.invariant-loop-byte
invariant-loop-byte l = (l.largest ≡ 0) ↔ ((k : ℕ) → k < l.byte-index → get_or l.bytes k 0 ≡ 0)
