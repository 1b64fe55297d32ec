use Rattle.std.proofs.Common.{◌≤◌, ◌/◌, ◌∙◌, ap, take, length, arith}
use Rattle.audit_base.specs.declared.limits.TheConstants.{HASH_LEN}
use Rattle.audit_c.proofs.Rows.{first_rows}
use Rattle.audit_c.proofs.proof_views.hashes_at_front.Goals as goal

pub returns : goal.returns
returns c =
    let bytes = c.args.bytes.now in
    let few : c.args.number ≤ length bytes / HASH_LEN = omega (arith, c.requires) in
    ap (take c.args.number) c.as_chunks.ensures.front
    ∙ first_rows c.args.number (length bytes / HASH_LEN) bytes few
