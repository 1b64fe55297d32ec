use Rattle.std.proofs.Common.{◌≡◌, ℕ, Some, map, take}
use Rattle.audit_cli_offline.specs.KindsWord.{any_kind_in_word}
use Rattle.audit_cli_offline.proofs.kinds_word.kinds_in_word.Given as goal

-- the parts so far have these kinds
abbrev pub invariant-loop-part : goal.invariant-loop-part
invariant-loop-part l = map (λ part. any_kind_in_word part.now) (take l.part-index l.part-items) ≡ map (λ (kind : ℕ). Some kind) l.kinds.items
