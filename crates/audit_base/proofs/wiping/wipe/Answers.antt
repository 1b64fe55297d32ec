use Rattle.std.proofs.Common.{◌≡◌, ℕ, ◌<◌, length, slice_index, rules, ap, ◌∙◌}
use Rattle.audit_base.specs.Bytes.{zeros}
use Rattle.audit_base.proofs.Zeros.{zeros-each}
use Rattle.audit_base.proofs.wiping.wipe.Goals as goal

pub returns : goal.returns
returns c =
    let filled = c.fill.new.self in
    let long : length filled ≡ length c.args.bytes.now = search rules in
    let zero : (k : ℕ) → k < length filled → slice_index filled k ≡ 0 = search rules in
    zeros-each filled zero ∙ ap zeros long
