use Rattle.std.proofs.Common.{◌≡◌, ◌∙◌, ℕ, List, sym, ap, arith}
use Rattle.audit_mac.specs.Hmac.{hmac}
use Rattle.audit_cli_rotate.proofs.OwnKey.{of_this_entry}
use Rattle.audit_cli_rotate.proofs.own_key.is_authenticated.Goals as goal

pub returns-in-Ok : goal.returns-in-Ok
returns-in-Ok c =
    let tag = c.tag.ensures.tag in
    let mac : c.hmac_sha256.result ≡ hmac c.args.key.now c.in-Ok.entry.link =
    c.hmac_sha256.ensures ∙ ap (λ (key : List ℕ). hmac key c.link.result.now) c.bytes.ensures ∙ ap (hmac c.args.key.now) c.link.ensures.link in (
      λ yes. (c.in-Ok.entry, c.in-Ok.ensures.found, sym tag ∙ c.is_same_hash.ensures.0 yes ∙ mac),
      λ authenticated. c.is_same_hash.ensures.1 (tag ∙ of_this_entry c.args.key.now c.args.bytes.now c.in-Ok.entry c.in-Ok.ensures.found authenticated ∙ sym mac),
    )

pub returns-in-Err : goal.returns-in-Err
returns-in-Err c = (λ yes. absurd (grind (arith, yes)), λ authenticated. let is = c.in-Err.ensures.only authenticated.0 authenticated.1 in absurd (grind (arith, is)))
