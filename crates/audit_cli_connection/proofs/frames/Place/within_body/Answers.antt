use Rattle.std.proofs.Common.{arith, sym, ap, ◌∙◌, ℕ, ◌-◌}
use Rattle.audit_cli_connection.specs.Frames.{frames_place_after, ends_within}
use Rattle.audit_cli_connection.specs.declared.frames.Place.TheVariants.{Body}
use Rattle.audit_cli_connection.proofs.BodyBytes.{place_past, ends_past}
use Rattle.audit_cli_connection.proofs.frames.Place.within_body.Goals as goal

pub returns-in-Body-clause-place : goal.returns-in-Body-clause-place
returns-in-Body-clause-place c =
    let k : ℕ = c.min-passed.result in
    ap (frames_place_after (Body (c.in-Body.more - k))) c.split_at.ensures.back
    ∙ place_past k c.in-Body.more c.args.bytes.now (omega (arith, c.min-passed.ensures)) (omega (arith, c.min-passed.ensures))
    ∙ ap (λ place. frames_place_after place c.args.bytes.now) (sym c.in-Body.is)

pub returns-in-Body-clause-ended : goal.returns-in-Body-clause-ended
returns-in-Body-clause-ended c =
    let k : ℕ = c.min-passed.result in
    ap (ends_within (Body (c.in-Body.more - k))) c.split_at.ensures.back
    ∙ ends_past k c.in-Body.more c.args.bytes.now (omega (arith, c.min-passed.ensures)) (omega (arith, c.min-passed.ensures))
    ∙ ap (λ place. ends_within place c.args.bytes.now) (sym c.in-Body.is)
